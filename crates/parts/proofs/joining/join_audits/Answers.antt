use Rattle.std.proofs.Common.{◌++◌, List, ℕ, ap, ◌∙◌}
use Rattle.std.specs.List.{flat_map}
use Rattle.parts.{specs.Splits.{goes}, specs.inner.Picks.{printout_of}, proofs.PickedBytes.{texts_are}}
use Rattle.parts.proofs.joining.join_audits.Goals as goal

pub returns : goal.returns
returns c =
    let split = goes c.args.split.now in
    c.in_ok-put_printouts.ensures ∙ ap (λ (l : List ℕ). l ++ flat_map (printout_of split c.args.parts.now) c.args.numbers.now) c.new-out.ensures.items
    ∙ texts_are split c.args.parts.now c.args.numbers.now
