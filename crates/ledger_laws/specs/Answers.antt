-- How answers are put (own).
use Rattle.std.specs.Prelude.{◌≡◌, ◌⊎◌, ℕ, List, [], ◌∷◌, Option, None, Some, option_map}
use Rattle.std.specs.List.{AllByRecursion}
use Rattle.ledger_disk.specs.declared.name.Folder.TheVariants.{Out}
use Rattle.ledger_disk.specs.declared.name.Name.TheVariants.{Answer, Unfinished}
use Rattle.ledger_disk.specs.Disks.{Disk, File, Call, Write, SyncFile, Rename, SyncFolder, AllOf}
use Rattle.ledger_laws.specs.Commits.{whole_file}

-- each is put whole, and all their names are brought to the disk at the end
abbrev pub deliver_calls : List (ℕ × List ℕ) → List Call
deliver_calls [] = SyncFolder Out ∷ []
deliver_calls (owed ∷ rest) = Write Unfinished owed.1 ∷ SyncFile Unfinished ∷ Rename Unfinished (Answer owed.0) ∷ deliver_calls rest

-- it is among these
abbrev pub IsOwed : ℕ → List ℕ → List (ℕ × List ℕ) → Type 0
IsOwed m bytes [] = ⊥
IsOwed m bytes (one ∷ rest) = ((one.0 ≡ m) × (one.1 ≡ bytes)) ⊎ IsOwed m bytes rest

-- each is the answer that the ledger has for its number
abbrev pub AreExpected : (ℕ → Option (List ℕ)) → List (ℕ × List ℕ) → Type 0
AreExpected expected owed = AllByRecursion (λ one. expected one.0 ≡ Some one.1) owed

-- no file, or the one with this answer on the disk
abbrev pub IsExpected : Option (List ℕ) → Option File → Type 0
IsExpected expected file = (file ≡ None) ⊎ (file ≡ option_map whole_file expected)

-- each answer's name may have nothing but that
abbrev pub AnswersFit : (ℕ → Option (List ℕ)) → Disk → Type 0
AnswersFit expected disk = (m : ℕ) → AllOf (IsExpected (expected m)) (disk (Answer m))
