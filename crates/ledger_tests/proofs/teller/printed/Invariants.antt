-- What is printed so far, and what is left to be printed, is all.
use Rattle.std.proofs.Common.{◌≡◌, ◌++◌, drop, map}
use Rattle.ledger_tests.specs.Telling.{told}
use Rattle.ledger_tests.proofs.teller.printed.Given as goal

abbrev pub invariant-loop-one : goal.invariant-loop-one
invariant-loop-one l = l.printout.items ++ told (map (λ text. text.items) (drop l.one-index l.before)) ≡ told (map (λ text. text.items) l.before)
