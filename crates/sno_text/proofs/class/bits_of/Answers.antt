-- One character more is told by its bit.
use Rattle.std.proofs.Common.{◌+◌, ◌*◌, ◌%◌, ◌^◌, take, get_or, set, sym, subst, bit_or}
use Rattle.sno_text.{specs.inner.Classes.{Tells}, proofs.Classes.{told_more}}
use Rattle.sno_text.proofs.class.bits_of.Goals as goal

pub loop-character-preserved : goal.loop-character-preserved
loop-character-preserved c =
    let text = c.args.characters.now in
    let bits = c.loop-character.bits in
    let at = c.loop-character.character-index in
    subst (λ k. Tells (set bits k (bit_or (get_or bits k 0) (1 * 2 ^ (get_or text at 0 % 64) % 2 ^ 64))) (take (at + 1) text)) (sym c.from.ensures)
    (told_more bits text at c.requires c.loop-character-test.true c.loop-character.invariant)
