-- Block by block, and the last block tells of what is left.
use Rattle.std.proofs.Common.{◌∙◌, refl, sym, arith}
use Rattle.deck_lines.proofs.Blocks.{one_more, one_fails, last_tells}
use Rattle.deck_lines.proofs.words.is_line.Goals as goal

pub loop-from-init : goal.loop-from-init
loop-from-init c = refl

pub returns-then-not-are_printable : goal.returns-then-not-are_printable
returns-then-not-are_printable c = sym (one_fails c.loop-from.from c.args.text.now (sym c.are_printable-in-loop-from.ensures ∙ c.if-not-are_printable.true))

pub loop-from-preserved : goal.loop-from-preserved
loop-from-preserved c = one_more c.loop-from.from c.args.text.now c.loop-from.invariant (sym c.are_printable-in-loop-from.ensures ∙ c.if-not-are_printable.false)

pub returns : goal.returns
returns c = last_tells _ c.loop-from.from c.args.text.now _ (omega arith) c.loop-from.invariant c.are_printable-2.ensures
