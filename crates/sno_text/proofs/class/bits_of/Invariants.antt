-- The bits tell the characters before the one that the loop has come to.
use Rattle.std.proofs.Common.{take}
use Rattle.sno_text.specs.inner.Classes.{Tells}
use Rattle.sno_text.proofs.class.bits_of.Given as goal

abbrev pub invariant-loop-character : goal.invariant-loop-character
invariant-loop-character l = Tells l.bits (take l.character-index l.characters)
