-- The texts so far are put.
use Rattle.std.proofs.Common.{◌≡◌, ◌++◌, take}
use Rattle.parts.specs.Splits.{goes}
use Rattle.deck_parts.specs.PartDecks.{texts_in}
use Rattle.deck_parts.proofs.part.put_texts.Given as goal

abbrev pub invariant-loop-place : goal.invariant-loop-place
invariant-loop-place l = l.deck.items ≡ l.fn.deck.items ++ texts_in (goes l.split) l.part 0 (take l.place l.texts)
