-- What a whole run does to a disk: commits, one after the other, and between them calls on other names (own).
use Rattle.std.specs.Prelude.{◌≡◌, ℕ, zero, suc, Bool, false, ◌||◌, List, [], ◌∷◌, ◌++◌}
use Rattle.ledger_disk.specs.declared.name.Folder.TheVariants.{Ledger}
use Rattle.ledger_disk.specs.Disks.{Call, Write, SyncFile, Rename, Link, Remove, SyncFolder, Saw, Looked, Next, stands_in}
use Rattle.ledger_laws.specs.Commits.{commit_calls}

-- a commit, or a call of another kind
pub data Step : Type 0 where
  Commits : List ℕ → Step
  Calls : Call → Step

-- whether a call changes a name of the ledger
abbrev pub changes_ledger : Call → Bool
changes_ledger (Write name bytes) = stands_in Ledger name
changes_ledger (SyncFile name) = stands_in Ledger name
changes_ledger (Rename from to) = stands_in Ledger from || stands_in Ledger to
changes_ledger (Link from to) = stands_in Ledger to
changes_ledger (Remove name) = stands_in Ledger name
changes_ledger (SyncFolder folder) = false
changes_ledger (Saw name found) = false
changes_ledger (Looked name found) = false
changes_ledger (Next from found) = false

-- the calls of other kinds change no name of the ledger
abbrev pub AreOthers : List Step → Type 0
AreOthers [] = Unit {0}
AreOthers (Commits bytes ∷ steps) = AreOthers steps
AreOthers (Calls call ∷ steps) = (changes_ledger call ≡ false) × AreOthers steps

-- the calls of a run whose first commit has this number
abbrev pub calls_of : ℕ → List Step → List Call
calls_of n [] = []
calls_of n (Commits bytes ∷ steps) = commit_calls n bytes ++ calls_of (suc n) steps
calls_of n (Calls call ∷ steps) = call ∷ calls_of n steps

-- the commits of a run
abbrev pub commits_in : List Step → List (List ℕ)
commits_in [] = []
commits_in (Commits bytes ∷ steps) = bytes ∷ commits_in steps
commits_in (Calls call ∷ steps) = commits_in steps

-- how many commits have ended behind so many calls
abbrev pub ended : ℕ → List Step → ℕ
ended k [] = 0
ended (suc (suc (suc (suc k)))) (Commits bytes ∷ steps) = suc (ended k steps)
ended k (Commits bytes ∷ steps) = 0
ended (suc k) (Calls call ∷ steps) = ended k steps
ended zero (Calls call ∷ steps) = 0
