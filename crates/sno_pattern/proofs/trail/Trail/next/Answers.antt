use Rattle.std.proofs.Common.{◌≡◌, ◌≤◌, ◌+◌, [], ◌∷◌, List, length, vec_len, refl, sym, ap, ◌∙◌, subst, arith}
use Rattle.std.{specs.Prelude.{reverse}, proofs.lemmas.List.{length-append, length-reverse}}
use Rattle.sno_pattern.{specs.Steps.{Goal}, specs.inner.Stack.{Ahead}, specs.inner.Cells.{goals_at}, proofs.Cells.{ahead, in_front, passed, empty_at, popped}}
use Rattle.sno_pattern.proofs.trail.Trail.next.Goals as goal

pub returns-then-self-eq0 : goal.returns-then-self-eq0
returns-then-self-eq0 c =
    let s = c.self.inside in
    (ap (λ (a : Ahead). a.goals) (sym c.self.view_is) ∙ empty_at (reverse s.cells.items) s.top c.if-self-eq0.true, refl)

pub invariant_of-self : goal.invariant_of-self
invariant_of-self c =
    let s = c.self.inside in (
      passed s.cells.items s.top s.kept s.waits.items (reverse s.opens.items) c.self.invariant.0 c.index-cell.result.now c.if-self-eq0.false c.index-cell.ensures,
      c.self.invariant.1,
    )

pub returns-then-self : goal.returns-then-self
returns-then-self c =
    let s = c.self.inside in
    sym c.self.view_is
    ∙ ap (λ (g : List Goal). ahead s.cells.items s.top s.kept s.waits.items (reverse s.opens.items) c.self.invariant.0 g s.waits.items)
    (in_front s.cells.items s.top s.kept s.waits.items (reverse s.opens.items) c.self.invariant.0 c.index-cell.result.now c.if-self-eq0.false c.index-cell.ensures
    ∙ ap (λ (g : Goal). g ∷ goals_at (reverse s.cells.items) c.index-cell.result.now.rest) (sym c.in_ok-goal.ensures))

pub returns-in-Some : goal.returns-in-Some
returns-in-Some c =
    let s = c.self.inside in
    let many : vec_len s.cells ≡ length s.cells.items = s.cells.ok.0 in
    let l : c.len.result ≡ vec_len s.cells = c.len.ensures in
    let place : s.top ≤ length s.cells.items = subst (λ k. s.top ≤ k) (length-reverse s.cells.items) c.self.invariant.0.place in
    let kept = c.if-self.false in
    let all = c.if-top-len.false in
    let one : length s.cells.items ≡ length c.pop.new.self.items + 1 = ap length c.in-Some.ensures.items
    ∙ length-append c.pop.new.self.items (c.in-Some.cell ∷ []) in
    sym c.self.view_is ∙ popped s.cells.items s.top s.kept s.waits.items
    (reverse s.opens.items) c.self.invariant.0 c.in-Some.cell c.pop.new.self.items c.in-Some.ensures.items (omega arith) (omega arith)
