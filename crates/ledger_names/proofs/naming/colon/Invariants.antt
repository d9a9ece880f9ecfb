-- What is left has the first colon.
use Rattle.std.proofs.Common.{◌≡◌, drop}
use Rattle.ledger_names.specs.Naming.{colon}
use Rattle.ledger_names.proofs.naming.colon.Given as goal

abbrev pub invariant-loop-index : goal.invariant-loop-index
invariant-loop-index l = colon 0 l.text ≡ colon l.index (drop l.index l.text)
