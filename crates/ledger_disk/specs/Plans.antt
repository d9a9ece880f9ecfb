-- Which calls were made between two moments (own).
use Rattle.std.specs.Prelude.{◌≡◌, ℕ, List, ◌++◌, take}
use Rattle.ledger_disk.specs.Disks.{Call}

-- these, one after the other
pub record Did {D : Type 0} (calls : D → List Call) (plan : List Call) (old new : D) : Type 0 where
  pub all : calls new ≡ calls old ++ plan

-- the first so many of these
pub record Began {D : Type 0} (calls : D → List Call) (plan : List Call) (old new : D) : Type 0 where
  pub count : ℕ
  pub some : calls new ≡ calls old ++ take count plan
