-- The answers that are owed (own).
use Rattle.std.specs.Prelude.{ℕ, List}
use Rattle.ledger_run.specs.declared.answers.Owed.{Owed}

-- the number of a text, and its answer
abbrev pub owed_as : Owed → ℕ × List ℕ
owed_as owed = (owed.number, owed.bytes.items)
