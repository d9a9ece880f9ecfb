-- What holds where the first commits were removed: each is the contract of a function in `laws`.
use Rattle.std.specs.Prelude.{◌≡◌, ◌⊎◌, ◌≤◌, ℕ, ◌+◌, true, List, [], ◌∷◌, ◌++◌, length, take, drop, Option, Some, None}
use Rattle.ledger_disk.specs.declared.name.Name.TheVariants.{Commit}
use Rattle.ledger_disk.specs.Disks.{Files}
use Rattle.ledger_laws.specs.Commits.{at, read_from}
use Rattle.ledger_laws.specs.Course.{folded, AreHonest}
use Rattle.ledger_run.specs.Meaning.{Step, Event, machine_of, start, Says, end_of}
use Rattle.ledger_pruning.specs.Pruning.{first_kept}
use Rattle.ledger_pruning.specs.Ages.{kept_since}
use Rattle.ledger_pruning.specs.Starting.{serves, start_for}

-- a commit stays if it stands behind the checkpoint, or is one of so many last
pub record Stays (commits checkpoint keep n : ℕ) : Type 0 where
  pub behind : checkpoint ≤ n → first_kept commits checkpoint keep ≤ n
  pub last : commits ≤ n + keep → first_kept commits checkpoint keep ≤ n

abbrev pub StaysWithin : Type 0
StaysWithin = (commits checkpoint keep n : ℕ) → Stays commits checkpoint keep n

-- and if it is of a time or later, where those since then are kept: these are the times of the commits from a number on, and it stands
-- behind so many of them
abbrev pub StaysSince : Type 0
StaysSince = (commits checkpoint since first time : ℕ) (before behind : List ℕ) → since ≤ time → first + length (before ++ time ∷ behind) ≤ commits
    → first_kept commits checkpoint (kept_since since commits first (before ++ time ∷ behind)) ≤ first + length before

-- all from this number on stand
abbrev pub IsPruned : ℕ → List (List ℕ) → Files → Type 0
IsPruned first chain c = (n : ℕ) → first ≤ n → c (Commit n) ≡ at chain n

-- so those behind a checkpoint that stands there are read
abbrev pub ReadsTheRest : Type 0
ReadsTheRest = (first checkpoint most : ℕ) (chain : List (List ℕ)) (c : Files) → IsPruned first chain c → first ≤ checkpoint
    → length chain ≤ checkpoint + most → read_from most checkpoint c ≡ drop checkpoint chain

-- What the ledger comes to behind so many commits, and then what the others say: they stand behind the last of those, each behind the one
-- before it, and they come to what all come to.
pub record ComesToAll (step : Step) (chain : List (List ℕ)) (events : List Event) (k : ℕ) : Type 0 where
  pub says : Says (end_of [] (take k chain)) (drop k chain) (drop k events)
  pub ends : end_of (end_of [] (take k chain)) (drop k chain) ≡ end_of [] chain
  pub state : folded (machine_of step) (drop k events) (folded (machine_of step) (take k events) start) ≡ folded (machine_of step) events start
  pub honest : AreHonest (machine_of step) events start
      → AreHonest (machine_of step) (drop k events) (folded (machine_of step) (take k events) start)

abbrev pub OpensTheSame : Type 0
OpensTheSame = (step : Step) (chain : List (List ℕ)) (events : List Event) (k : ℕ) → Says [] chain events → ComesToAll step chain events k

-- one of these
abbrev pub IsIn : ℕ → List ℕ → Type 0
IsIn n [] = ⊥
IsIn n (m ∷ ns) = (n ≡ m) ⊎ IsIn n ns

-- whatever checkpoint serves, one is found that is no earlier
abbrev pub NoEarlier : ℕ → Option ℕ → Type 0
NoEarlier n None = ⊥
NoEarlier n (Some found) = n ≤ found

abbrev pub StartsLast : Type 0
StartsLast = (first at n : ℕ) (checkpoints : List ℕ) → IsIn n checkpoints → serves first at n ≡ true → NoEarlier n (start_for first at checkpoints)

-- and what is found is one of them that serves
abbrev pub IsServing : (first at : ℕ) → List ℕ → Option ℕ → Type 0
IsServing first at checkpoints None = Unit {0}
IsServing first at checkpoints (Some found) = IsIn found checkpoints × (serves first at found ≡ true)

abbrev pub StartsThere : Type 0
StartsThere = (first at : ℕ) (checkpoints : List ℕ) → IsServing first at checkpoints (start_for first at checkpoints)
