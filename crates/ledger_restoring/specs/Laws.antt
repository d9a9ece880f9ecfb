-- What holds of a data set that is brought back: each is the contract of a function in `laws`.
use Rattle.std.specs.Prelude.{◌≡◌, ◌≢◌, ℕ, List}
use Rattle.mon_catalogue.specs.Sets.{Sets, find_set, NamesDiffer}
use Rattle.ledger_restoring.specs.Restoring.{restored}

abbrev pub RestoresIt : Type 0
RestoresIt = (name : List ℕ) (past present : Sets) → NamesDiffer present → find_set name (restored name past present) ≡ find_set name past

abbrev pub KeepsOthers : Type 0
KeepsOthers = (name other : List ℕ) (past present : Sets) → other ≢ name → find_set other (restored name past present) ≡ find_set other present
