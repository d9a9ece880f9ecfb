-- None so far.
use Rattle.std.proofs.Common.{◌≡◌, drop}
use Rattle.ledger_folder.specs.Known.{place_from}
use Rattle.ledger_folder.proofs.known.place_of.Given as goal

abbrev pub invariant-loop-place : goal.invariant-loop-place
invariant-loop-place l = place_from l.account l.place (drop l.place l.owners) ≡ place_from l.account 0 l.owners
