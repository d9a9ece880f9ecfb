use Rattle.std.proofs.Common.{sym, ap, ◌∙◌}
use Rattle.std.specs.Prelude.{reverse}
use Rattle.sno_pattern.{specs.inner.Stack.{Ahead}, proofs.Cells.{in_front, behind_one}}
use Rattle.sno_pattern.proofs.trail.Trail.first.Goals as goal

pub returns : goal.returns
returns c =
    let s = c.self.inside in
    behind_one _ _ _ (ap (λ (a : Ahead). a.goals) (sym c.self.view_is)
    ∙ in_front s.cells.items s.top s.kept s.waits.items (reverse s.opens.items) c.self.invariant.0 c.index.result.now c.if-self-eq0.false c.index.ensures)
