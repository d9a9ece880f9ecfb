use Rattle.std.proofs.Common.{sym, ap, arith, drop, ◌≡◌, List}
use Rattle.std.specs.Prelude.{reverse}
use Rattle.sno_pattern.{specs.Steps.{Goal}, proofs.Cells.{ahead, in_front, passed, none_at}}
use Rattle.sno_pattern.proofs.trail.Trail.pass.Goals as goal

pub invariant_of-self : goal.invariant_of-self
invariant_of-self c =
    let s = c.self.inside in (
      passed s.cells.items s.top s.kept s.waits.items (reverse s.opens.items) c.self.invariant.0 c.index.result.now
          (let t = c.if-self-gt0.true in omega arith) c.index.ensures,
      c.self.invariant.1,
    )

pub returns-then-self-gt0 : goal.returns-then-self-gt0
returns-then-self-gt0 c =
    let s = c.self.inside in
    rw (← c.self.view_is) (ap (λ (g : List Goal). ahead s.cells.items s.top s.kept s.waits.items (reverse s.opens.items) c.self.invariant.0
    (drop 1 g) s.waits.items) (sym (in_front s.cells.items s.top s.kept s.waits.items (reverse s.opens.items) c.self.invariant.0 c.index.result.now
    (let t = c.if-self-gt0.true in omega arith) c.index.ensures)))

pub returns-else-self-gt0 : goal.returns-else-self-gt0
returns-else-self-gt0 c =
    let s = c.self.inside in
    let none : s.top ≡ 0 = (let f = c.if-self-gt0.false in omega arith) in
    rw (← c.self.view_is) (ap (λ (g : List Goal). ahead s.cells.items s.top s.kept s.waits.items
    (reverse s.opens.items) c.self.invariant.0 g s.waits.items) (none_at (reverse s.cells.items) s.top none))
