-- What a power cut leaves at any moment of a call, whatever disk the run began on (own).
use Rattle.std.specs.Prelude.{◌≡◌, ◌⊎◌, ◌≤◌, ℕ, ◌+◌, List, [], ◌∷◌, ◌++◌, length, take, Option, Some, None}
use Rattle.ledger_disk.specs.declared.name.Name.TheVariants.{Dropped, Claimed, Answer}
use Rattle.ledger_disk.specs.Disks.{Disk, File, Files, Call, IsRead, Leaves, after_all}
use Rattle.ledger_laws.specs.Answers.{AnswersFit, AreExpected}
use Rattle.ledger_laws.specs.Commits.{Stands, IsLedger}

-- If the ledger stood when the call began: a power cut behind any of its calls on the disk leaves the ledger, or that with one commit
-- more.
abbrev pub LeavesEither : {D : Type 0} → (D → List Call) → List ℕ → ℕ → D → D → Type 0
LeavesEither calls bytes number old new = (first : Disk) (chain : List (List ℕ)) → length chain ≡ number → Stands chain (after_all (calls old) first)
    → (k : ℕ) (c : Files) → Leaves (after_all (take (length (calls old) + k) (calls new)) first) c → IsLedger chain c ⊎ IsLedger (chain ++ bytes ∷ []) c

-- If a file stood in its box, on the disk, when the call began: a power cut behind any of its calls leaves it there, or under a number
-- from this one on.
abbrev pub KeepsEach : {D : Type 0} → (D → List Call) → ℕ → D → D → Type 0
KeepsEach calls number old new = (first : Disk) (drop : ℕ) (file : File)
    → after_all (calls old) first (Dropped drop) ≡ record { now = Some file; others = [] }
    → (k : ℕ) (c : Files) → Leaves (after_all (take (length (calls old) + k) (calls new)) first) c
    → IsRead (Some file) (c (Dropped drop)) ⊎ ((n : ℕ) × ((number ≤ n) × IsRead (Some file) (c (Claimed n))))

-- If each answer's name had nothing but what is expected when the call began: a power cut behind any of its calls leaves each absent, or
-- as it is expected.
abbrev pub AnswersEach : {D : Type 0} → (D → List Call) → List (ℕ × List ℕ) → D → D → Type 0
AnswersEach calls owed old new = (first : Disk) (expected : ℕ → Option (List ℕ)) → AnswersFit expected (after_all (calls old) first) → AreExpected expected owed
    → (k : ℕ) (c : Files) → Leaves (after_all (take (length (calls old) + k) (calls new)) first) c
    → (m : ℕ) → (c (Answer m) ≡ None) ⊎ (c (Answer m) ≡ expected m)
