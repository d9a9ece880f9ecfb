use Rattle.std.proofs.Common.{arith}
use Rattle.parts.specs.Splits.{goes}
use Rattle.deck_parts.proofs.InParts.{so_far}
use Rattle.deck_parts.proofs.part.put_texts.Goals as goal

pub loop-place-preserved : goal.loop-place-preserved
loop-place-preserved c =
    so_far (goes c.args.split.now) c.args.part c.loop-place.place c.args.texts.now c.index-texts-place.result c.args.deck.now.items
    c.loop-place.deck.items c.put_text.new.deck.items
    (omega (arith, c.loop-place-test.true)) c.index-texts-place.is c.loop-place.invariant c.in_ok-put_text.ensures
