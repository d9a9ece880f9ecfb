-- What the operator does, as the ledger has it (own).
use Rattle.std.specs.Prelude.{ℕ, List}
use Rattle.ledger_text.specs.Records.{Edit}
use Rattle.ledger_run.specs.Runs.{Seen}
use Rattle.ledger_run.specs.Attempts.{Recorded}

-- two acts of one operator, one behind the other: the first makes the data sets, the second the tables
pub record Founds (who what sets tables : List ℕ) (seen new_seen : Seen) : Type 0 where
  pub mid : Seen
  pub makes_sets : Recorded (Edit who what) sets seen mid
  pub makes_tables : Recorded (Edit who what) tables mid new_seen
