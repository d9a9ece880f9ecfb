use Rattle.std.proofs.Common.{List, subst, sym}
use Rattle.parts.specs.declared.text.Text.{Text}
use Rattle.round_cut.{specs.Cuts.{AreReadFrom}, proofs.Reading.{of_its_own}}
use Rattle.round_cut.proofs.cutting.packed.Goals as goal

pub returns-clause-own : goal.returns-clause-own
returns-clause-own c =
    of_its_own _ c.args.submissions.now c.as_slice.result.now
    (subst (λ (l : List Text). AreReadFrom 0 c.args.submissions.now l) (sym c.as_slice.ensures.value) c.in_ok-texts.ensures)
    c.in_ok-split.ensures.apart
