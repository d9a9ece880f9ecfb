-- Where a dropped file may be, whatever a run does and wherever it is cut off (own). A file is told by its identity.
use Rattle.std.specs.Prelude.{◌≡◌, ◌⊎◌, ℕ, zero, suc, ◌+◌, Bool, true, false, List, [], ◌∷◌, ◌++◌, Some, None}
use Rattle.std.specs.List.{AllByRecursion}
use Rattle.ledger_disk.specs.declared.identity.Identity.{Identity}
use Rattle.ledger_disk.specs.declared.name.Name.{Name}
use Rattle.ledger_disk.specs.declared.name.Name.TheVariants.{Commit, Draft, Dropped, Claimed, Answer, Unfinished}
use Rattle.ledger_disk.specs.Disks.{Call, Write, SyncFile, Rename, Link, Remove, SyncFolder, Saw, Looked, Next}
use Rattle.ledger_disk.specs.Disks.{SlotOf, Which, which_after, which_behind, IsAmong}
use Rattle.ledger_laws.specs.Commits.{commit_calls}
use Rattle.ledger_laws.specs.Course.{one_if}
use Rattle.ledger_laws.specs.Traces.{changes_ledger}

-- how often a number is among these
abbrev pub how_often : ℕ → List ℕ → ℕ
how_often n [] = 0
how_often n (m ∷ ms) = one_if n m + how_often n ms

-- a name may have this file, whatever a crash leaves
abbrev pub MayHave : SlotOf Identity → Identity → Type 0
MayHave slot file = (slot.now ≡ Some file) ⊎ IsAmong (Some file) slot.others

abbrev pub May : Which → Name → Identity → Type 0
May which name file = MayHave (which name) file

-- it has this file, and no crash leaves anything else
abbrev pub Has : Which → Name → Identity → Type 0
Has which name file = which name ≡ record { now = Some file; others = [] }

-- the file can be claimed, or is claimed
abbrev pub Home : Which → Identity → Type 0
Home which file = ((d : ℕ) × Has which (Dropped d) file) ⊎ ((n : ℕ) × Has which (Claimed n) file)

-- A file that no commit takes, where the commits take the files of these numbers: it is not lost, and under one number at most, which
-- no commit took.
pub record Waits (taken : List ℕ) (which : Which) (file : Identity) : Type 0 where
  pub home : Home which file
  pub one : (n m : ℕ) → May which (Claimed n) file → May which (Claimed m) file → n ≡ m
  pub free : (n : ℕ) → May which (Claimed n) file → how_often n taken ≡ 0

-- a file that one commit takes, under this number: it is in no box, and under no other number
pub record IsTaken (taken : List ℕ) (which : Which) (file : Identity) (n : ℕ) : Type 0 where
  pub once : how_often n taken ≡ 1
  pub box : (d : ℕ) → May which (Dropped d) file → ⊥
  pub only : (m : ℕ) → May which (Claimed m) file → m ≡ n

-- it is in exactly one commit, or where it can be claimed
abbrev pub IsKept : List ℕ → Which → Identity → Type 0
IsKept taken which file = Waits taken which file ⊎ ((n : ℕ) × IsTaken taken which file n)

-- ---- what a run may do

-- neither a name in a box nor one of a claimed file
abbrev pub is_apart : Name → Bool
is_apart (Commit n) = true
is_apart Draft = true
is_apart (Dropped n) = false
is_apart (Claimed n) = false
is_apart (Answer n) = true
is_apart Unfinished = true

-- a file in a box, under no number so far, gets one that no other has and none had
pub record ClaimsOne (taken : List ℕ) (which : Which) (from : Name) (n : ℕ) : Type 0 where
  pub box : ℕ
  pub in_box : from ≡ Dropped box
  pub free : how_often n taken ≡ 0
  pub empty : which (Claimed n) ≡ record { now = None; others = [] }
  pub once : (file : Identity) → (which from).now ≡ Some file → (m : ℕ) → May which (Claimed m) file → ⊥

abbrev pub MayLink : List ℕ → Which → Name → Name → Type 0
MayLink taken which from (Claimed n) = ClaimsOne taken which from n
MayLink taken which from (Dropped d) = ⊥
MayLink taken which from (Commit n) = Unit {0}
MayLink taken which from Draft = Unit {0}
MayLink taken which from (Answer n) = Unit {0}
MayLink taken which from Unfinished = Unit {0}

-- a file leaves its box once it stands under a number for good, and a number once its commit is in the ledger
abbrev pub MayRemove : List ℕ → Which → Name → Type 0
MayRemove taken which (Dropped d) = (file : Identity) → (which (Dropped d)).now ≡ Some file → (m : ℕ) × Has which (Claimed m) file
MayRemove taken which (Claimed n) = how_often n taken ≡ 1
MayRemove taken which (Commit n) = Unit {0}
MayRemove taken which Draft = Unit {0}
MayRemove taken which (Answer n) = Unit {0}
MayRemove taken which Unfinished = Unit {0}

abbrev pub IsCareful : List ℕ → Which → Call → Type 0
IsCareful taken which (Write name bytes) = is_apart name ≡ true
IsCareful taken which (SyncFile name) = is_apart name ≡ true
IsCareful taken which (Rename from to) = (is_apart from ≡ true) × (is_apart to ≡ true)
IsCareful taken which (Link from to) = MayLink taken which from to
IsCareful taken which (Remove name) = MayRemove taken which name
IsCareful taken which (SyncFolder folder) = Unit {0}
IsCareful taken which (Saw name found) = Unit {0}
IsCareful taken which (Looked name found) = Unit {0}
IsCareful taken which (Next from found) = Unit {0}

-- a commit takes the file of a number that none took, which is in no box any more
pub record MayTake (taken : List ℕ) (which : Which) (n : ℕ) : Type 0 where
  pub free : how_often n taken ≡ 0
  pub file : Identity
  pub there : Has which (Claimed n) file
  pub gone : (d : ℕ) → May which (Dropped d) file → ⊥

-- what a run does: a commit that takes the file of this number, a commit that takes none, or a call of another kind
pub data Act : Type 0 where
  Takes : ℕ → List ℕ → Act
  Commits : List ℕ → Act
  Calls : Call → Act

-- its calls, where the first commit has this number
abbrev pub calls_of : ℕ → List Act → List Call
calls_of number [] = []
calls_of number (Takes n bytes ∷ acts) = commit_calls number bytes ++ calls_of (suc number) acts
calls_of number (Commits bytes ∷ acts) = commit_calls number bytes ++ calls_of (suc number) acts
calls_of number (Calls call ∷ acts) = call ∷ calls_of number acts

-- its commits
abbrev pub commits_in : List Act → List (List ℕ)
commits_in [] = []
commits_in (Takes n bytes ∷ acts) = bytes ∷ commits_in acts
commits_in (Commits bytes ∷ acts) = bytes ∷ commits_in acts
commits_in (Calls call ∷ acts) = commits_in acts

-- the numbers that were taken, and those that the first so many of its commits take
abbrev pub taken_by : ℕ → List Act → List ℕ → List ℕ
taken_by zero acts taken = taken
taken_by (suc count) [] taken = taken
taken_by (suc count) (Takes n bytes ∷ acts) taken = taken_by count acts (n ∷ taken)
taken_by (suc count) (Commits bytes ∷ acts) taken = taken_by count acts taken
taken_by (suc count) (Calls call ∷ acts) taken = taken_by (suc count) acts taken

-- each act may be done where it is done: behind so many calls, with so many commits
abbrev pub AreCareful : ℕ → ℕ → List ℕ → Which → List Act → Type 0
AreCareful time number taken which [] = Unit {0}
AreCareful time number taken which (Takes n bytes ∷ acts) =
    MayTake taken which n × AreCareful (suc (suc (suc (suc time)))) (suc number) (n ∷ taken) (which_behind time (commit_calls number bytes) which) acts
AreCareful time number taken which (Commits bytes ∷ acts) =
    AreCareful (suc (suc (suc (suc time)))) (suc number) taken (which_behind time (commit_calls number bytes) which) acts
AreCareful time number taken which (Calls call ∷ acts) =
    (changes_ledger call ≡ false) × (IsCareful taken which call × AreCareful (suc time) number taken (which_after time call which) acts)

-- ---- claims

-- a file can be claimed under a number that is not used: it is in its box, under no number, and none of the others is it
pub record CanClaimOne (taken : List ℕ) (which : Which) (n drop : ℕ) (others : List ℕ) : Type 0 where
  pub free : how_often n taken ≡ 0
  pub empty : which (Claimed n) ≡ record { now = None; others = [] }
  pub file : Identity
  pub in_box : Has which (Dropped drop) file
  pub under_none : (m : ℕ) → May which (Claimed m) file → ⊥
  pub alone : AllByRecursion (λ other. (which (Dropped other)).now ≡ Some file → ⊥) others

-- and these, under the numbers from one on
abbrev pub CanClaim : List ℕ → Which → ℕ → List ℕ → Type 0
CanClaim taken which n [] = Unit {0}
CanClaim taken which n (drop ∷ drops) = CanClaimOne taken which n drop drops × CanClaim taken which (suc n) drops
