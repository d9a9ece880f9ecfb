-- The texts so far stand before the rest.
use Rattle.std.proofs.Common.{◌≡◌, ◌++◌, length}
use Rattle.deck_parts.specs.Wholes.{texts_text}
use Rattle.deck_parts.proofs.texts.texts_in.Given as goal

abbrev pub invariant-texts : goal.invariant-texts
invariant-texts l = texts_text l.texts.items ++ l.rest ≡ l.fn.stream

abbrev pub decreases-texts : goal.decreases-texts
decreases-texts l = length l.rest
