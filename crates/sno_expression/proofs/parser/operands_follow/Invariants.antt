-- What is read from here on is what was to be read at first; what stands open is in order, and behind names alone all of it are concatenations.
use Rattle.std.{proofs.Common.{◌≡◌, ◌≤◌, ◌-◌, drop, length}, specs.Prelude.{true, false}}
use Rattle.sno_expression.{specs.Abstraction.{expression_of}, specs.inner.Reading.{At, Bottom, Whole}, specs.inner.Runs.{spread_all}, specs.inner.Spines.{is_element, is_ordered, is_under_all}}
use Rattle.sno_expression.{specs.declared.tree.BinaryOperator.TheVariants.{Concatenation}, specs.inner.Telling.{told}}
use Rattle.sno_expression.proofs.parser.operands_follow.Given as goal

abbrev pub invariant-names : goal.invariant-names
invariant-names l = record {
  ordered : is_ordered l.pending.items ≡ true;
  under : is_under_all Concatenation l.pending.items ≡ true;
  element : is_element l.last ≡ true;
  same : told false (At Bottom (Whole (expression_of l.fn.first))) l.tokens
      ≡ told false (At Bottom (Whole (spread_all l.pending.items (expression_of l.last)))) (drop l.at l.tokens);
  within : l.at ≤ length l.tokens;
}

abbrev pub decreases-names : goal.decreases-names
decreases-names l = length l.tokens - l.at

abbrev pub invariant-operands : goal.invariant-operands
invariant-operands l = record {
  ordered : is_ordered l.pending.items ≡ true;
  element : is_element l.last ≡ true;
  same : told false (At Bottom (Whole (expression_of l.fn.first))) l.tokens ≡ told false (At Bottom (Whole (spread_all l.pending.items (expression_of l.last)))) (drop l.at l.tokens);
  within : l.at ≤ length l.tokens;
}

abbrev pub decreases-operands : goal.decreases-operands
decreases-operands l = length l.tokens - l.at
