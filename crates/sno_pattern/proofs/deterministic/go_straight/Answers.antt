use Rattle.std.proofs.Common.{◌≡◌, ◌-◌, List, [], ◌∷◌, sym, ap, ◌∙◌, arith}
use Rattle.sno_text.specs.{Nodes.{pattern_of}, Patterns.{Cat}}
use Rattle.sno_pattern.{specs.Steps.{Goal, Meet, outcome}, proofs.Table.{none_left}, proofs.Passing.{passes_first}}
use Rattle.sno_pattern.proofs.deterministic.go_straight.Goals as goal

pub loop-node-preserved : goal.loop-node-preserved
loop-node-preserved c =
    let text = c.args.text.now in
    let some = c.if-left-eq0.false in
    let is : pattern_of c.loop-node.node.now ≡ Cat (pattern_of c.in-Cat.first.value) (pattern_of c.in-Cat.second.value) = ap pattern_of c.in-Cat.is in
    let step : (r : List Goal) → outcome text (Meet (pattern_of c.in-Cat.first.value) ∷ r) c.loop-node.at c.loop-node.pending.items
    (c.loop-node.left - 1) ≡ outcome text r c.in-Some.passed.end c.pass.new.pending.items c.in-Some.passed.left =
    rw (c.deref.ensures, c.in-Some.is) at c.in_ok-passed.ensures.same in
    record {
      same =
          c.loop-node.invariant.same ∙ ap (λ a. outcome text (Meet a ∷ []) c.loop-node.at c.loop-node.pending.items c.loop-node.left) is
          ∙ passes_first text [] c.loop-node.at c.loop-node.pending.items c.loop-node.left (pattern_of c.in-Cat.first.value)
          (pattern_of c.in-Cat.second.value) (omega arith)
          ∙ step (Meet (pattern_of c.in-Cat.second.value) ∷ [])
          ∙ ap (λ a. outcome text (Meet (pattern_of a) ∷ []) c.in-Some.passed.end c.pass.new.pending.items c.in-Some.passed.left) (sym c.deref-node.ensures);
      within = rw c.in-Some.is at c.in_ok-passed.ensures.within;
    }

pub returns-in-Some-2 : goal.returns-in-Some-2
returns-in-Some-2 c =
    let text = c.args.text.now in
    let step : (r : List Goal) → outcome text (Meet (pattern_of c.loop-node.node.now) ∷ r) c.loop-node.at c.loop-node.pending.items c.loop-node.left
    ≡ outcome text r c.in-Some-2.field-0.end c.pass-2.new.pending.items c.in-Some-2.field-0.left = rw c.in-Some-2.is at c.in_ok-end.ensures.same in
    c.loop-node.invariant.same ∙ step [] ∙ none_left text c.in-Some-2.field-0.end c.pass-2.new.pending.items c.in-Some-2.field-0.left
