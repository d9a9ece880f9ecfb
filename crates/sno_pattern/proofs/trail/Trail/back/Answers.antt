use Rattle.std.proofs.Common.{sym, ap, ◌∙◌}
use Rattle.sno_pattern.{specs.inner.Stack.{Ahead}, proofs.Cells.{taken_back, last_open}}
use Rattle.sno_pattern.proofs.trail.Trail.back.Goals as goal

pub invariant_of-self-in-Some : goal.invariant_of-self-in-Some
invariant_of-self-in-Some c =
    let s = c.self.inside in
    rw (c.truncate.ensures.items, c.truncate-in-Some.ensures.items) (
      taken_back s.cells.items s.top s.kept s.waits.items s.opens.items c.pop.new.self.items c.in-Some.open c.self.invariant.0 c.in-Some.ensures.items,
      record {
        goals = rw c.truncate.ensures.capacity c.self.invariant.1.goals;
        assignments = rw c.truncate-in-Some.ensures.capacity c.self.invariant.1.assignments;
      },
    )

pub returns-in-Some : goal.returns-in-Some
returns-in-Some c =
    let s = c.self.inside in
    rw (c.truncate.ensures.items, c.truncate-in-Some.ensures.items)
    (ap (λ (a : Ahead). a.opens) (sym c.self.view_is)
    ∙ last_open s.cells.items s.top s.kept s.waits.items s.opens.items c.pop.new.self.items c.in-Some.open c.self.invariant.0 c.in-Some.ensures.items)
