-- The records of a data set (own).
use Rattle.std.specs.Prelude.{ℕ, ◌≤◌, Bool, nat_le, List, length, IsTrue}
use Rattle.std.specs.List.{list_all}

-- at most 1,024 characters
abbrev pub is_record : List ℕ → Bool
is_record line = nat_le (length line) 1024

-- at most 100,000 records
abbrev pub AreRecords : List (List ℕ) → Type 0
AreRecords records = (length records ≤ 100000) × IsTrue (list_all is_record records)
