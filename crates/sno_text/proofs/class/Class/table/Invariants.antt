-- The table tells the bytes before the one that the loop has come to.
use Rattle.sno_text.specs.inner.Classes.{Lists}
use Rattle.sno_text.proofs.class.Class.table.Given as goal

abbrev pub invariant-loop-byte : goal.invariant-loop-byte
invariant-loop-byte l = Lists l.table l.byte l.self
