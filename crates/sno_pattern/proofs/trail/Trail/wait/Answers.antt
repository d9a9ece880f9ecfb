use Rattle.std.specs.Prelude.{reverse}
use Rattle.sno_pattern.proofs.Cells.{waited, waits_on}
use Rattle.sno_pattern.proofs.trail.Trail.wait.Goals as goal

pub invariant_of-self-2 : goal.invariant_of-self-2
invariant_of-self-2 c =
    let s = c.self.inside in (
      rw c.in_ok-place.ensures.placed (waits_on s.cells.items s.top s.kept s.waits.items (reverse s.opens.items) c.self.invariant.0 c.args.waiting),
      record { goals = c.self.invariant.1.goals; assignments = c.place.ensures.places },
    )

pub returns : goal.returns
returns c =
    let s = c.self.inside in
    rw (c.in_ok-place.ensures.placed, ← c.self.view_is) (waited s.cells.items s.top s.kept s.waits.items (reverse s.opens.items) c.self.invariant.0 c.args.waiting)
