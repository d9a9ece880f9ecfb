use Rattle.std.proofs.Common.{◌≡◌, drop}
use Rattle.ledger_tables.specs.Limits.{number_of}
use Rattle.ledger_tables.proofs.limits.number_of.Given as goal

abbrev pub invariant-loop-one : goal.invariant-loop-one
invariant-loop-one l = number_of l.bound (drop l.one-index l.said) ≡ number_of l.bound l.said
