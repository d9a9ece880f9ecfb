-- The ledger: numbered files, each put whole (own).
use Rattle.std.specs.Prelude.{◌≡◌, ℕ, zero, suc, true, ◌+◌, List, [], ◌∷◌, Option, None, Some, option_map}
use Rattle.ledger_disk.specs.declared.name.Folder.TheVariants.{Ledger}
use Rattle.ledger_disk.specs.declared.name.Name.TheVariants.{Commit, Draft}
use Rattle.ledger_disk.specs.Disks.{Disk, File, Files, Call, Write, SyncFile, Rename, SyncFolder}

-- the commit of a number
abbrev pub at : List (List ℕ) → ℕ → Option (List ℕ)
at [] i = None
at (b ∷ chain) zero = Some b
at (b ∷ chain) (suc i) = at chain i

-- a file that is on the disk
abbrev pub whole_file : List ℕ → File
whole_file bytes = record { bytes = bytes; whole = true }

-- the file of a number
abbrev pub wanted : List (List ℕ) → ℕ → Option File
wanted chain i = option_map whole_file (at chain i)

-- the commits of a ledger are on the disk, and no others
abbrev pub Stands : List (List ℕ) → Disk → Type 0
Stands chain disk = (i : ℕ) → disk (Commit i) ≡ record { now = wanted chain i; others = [] }

-- a crash left this ledger
abbrev pub IsLedger : List (List ℕ) → Files → Type 0
IsLedger chain c = (i : ℕ) → c (Commit i) ≡ at chain i

-- how a commit is put
abbrev pub commit_calls : ℕ → List ℕ → List Call
commit_calls n bytes = Write Draft bytes ∷ SyncFile Draft ∷ Rename Draft (Commit n) ∷ SyncFolder Ledger ∷ []

-- a commit, if there is one, and then more
abbrev pub and_more : Option (List ℕ) → List (List ℕ) → List (List ℕ)
and_more None later = []
and_more (Some bytes) later = bytes ∷ later

-- how a ledger is read: at most so many commits, from a number on
abbrev pub read_from : ℕ → ℕ → Files → List (List ℕ)
read_from zero i c = []
read_from (suc fuel) i c = and_more (c (Commit i)) (read_from fuel (i + 1) c)
