-- What holds of the calls on a disk (own): each is the contract of a function in `laws`.
use Rattle.std.specs.Prelude.{◌≡◌, ◌⊎◌, ◌≤◌, ℕ, ◌+◌, List, [], ◌∷◌, ◌++◌, length, map, take, Option, Some, None}
use Rattle.ledger_disk.specs.declared.name.Folder.TheVariants.{Ledger}
use Rattle.ledger_disk.specs.Disks.{Disk, Files, Leaves, booted, after, after_all, SyncFolder}
use Rattle.ledger_laws.specs.Traces.{Step, Commits, AreOthers, calls_of, commits_in, ended}
use Rattle.ledger_disk.specs.declared.name.Name.TheVariants.{Dropped, Claimed, Answer}
use Rattle.ledger_disk.specs.Disks.{File, IsRead, IsAmong, Which, which_behind, which_booted, LeavesWhich}
use Rattle.ledger_disk.specs.declared.identity.Identity.{Identity}
use Rattle.ledger_disk.specs.declared.name.Name.{Name}
use Rattle.ledger_laws.specs.Places.{Act, Calls as ActCalls, AreCareful, IsKept, CanClaim, taken_by, calls_of as calls_of_acts, commits_in as commits_in_acts}
use Rattle.ledger_laws.specs.Claims.{nth, claim_calls, AreOf}
use Rattle.ledger_laws.specs.Answers.{deliver_calls, IsOwed, AreExpected, AnswersFit}
use Rattle.ledger_laws.specs.Commits.{whole_file, Stands, IsLedger, commit_calls, read_from}

-- of a commit that is put, broken off behind so many calls
pub record CommitsWholeAt (chain : List (List ℕ)) (bytes : List ℕ) (disk : Disk) (k : ℕ) : Type 0 where
  pub cut : (c : Files) → Leaves (after_all (take k (commit_calls (length chain) bytes)) disk) c → IsLedger chain c ⊎ IsLedger (chain ++ bytes ∷ []) c
  pub killed : Stands chain (after (SyncFolder Ledger) (after_all (take k (commit_calls (length chain) bytes)) disk))
      ⊎ Stands (chain ++ bytes ∷ []) (after (SyncFolder Ledger) (after_all (take k (commit_calls (length chain) bytes)) disk))
  pub put : 4 ≤ k → Stands (chain ++ bytes ∷ []) (after_all (take k (commit_calls (length chain) bytes)) disk)

-- whatever a crash leaves while a commit is put
abbrev pub CommitsWhole : Type 0
CommitsWhole = (chain : List (List ℕ)) (bytes : List ℕ) (disk : Disk) → Stands chain disk → (k : ℕ) → CommitsWholeAt chain bytes disk k

-- what a crash left is on the disk of the next run, and read as the ledger that it is
pub record IsReadAs (chain : List (List ℕ)) (c : Files) : Type 0 where
  pub stands : Stands chain (booted c)
  pub reads : (fuel : ℕ) → length chain ≤ fuel → read_from fuel 0 c ≡ chain

-- what a crash left is read as what it is
abbrev pub ReadsTheChain : Type 0
ReadsTheChain = (chain : List (List ℕ)) (c : Files) → IsLedger chain c → IsReadAs chain c

-- A run, cut off behind so many calls: the ledger is what it was, with the first so many commits of the run, none of which is
-- missing, mixed or torn; at least those that had ended.
pub record IsPrefix (chain commits : List (List ℕ)) (least : ℕ) (c : Files) : Type 0 where
  pub count : ℕ
  pub no_more : count ≤ length commits
  pub no_less : least ≤ count
  pub ledger : IsLedger (chain ++ take count commits) c

-- whatever a crash leaves of a run
abbrev pub LeavesAPrefix : Type 0
LeavesAPrefix = (chain : List (List ℕ)) (steps : List Step) (disk : Disk) → Stands chain disk → AreOthers steps
    → (k : ℕ) (c : Files) → Leaves (after_all (take k (calls_of (length chain) steps)) disk) c → IsPrefix chain (commits_in steps) (ended k steps) c

-- Of the files that are claimed, the one of this place: whatever a crash leaves at any call, it stands in its box or under its
-- number; in the end it stands under its number, and that is on the disk; and not in its box, if it left it.
pub record ClaimsKeep (n : ℕ) (drops gone : List ℕ) (disk : Disk) (drop place : ℕ) (file : File) : Type 0 where
  pub kept : (k : ℕ) (c : Files) → Leaves (after_all (take k (claim_calls n drops gone)) disk) c
      → IsRead (Some file) (c (Dropped drop)) ⊎ IsRead (Some file) (c (Claimed (n + place)))
  pub claimed : after_all (claim_calls n drops gone) disk (Claimed (n + place)) ≡ record { now = Some file; others = [] }
  pub absent : IsAmong drop gone → after_all (claim_calls n drops gone) disk (Dropped drop) ≡ record { now = None; others = [] }

-- whatever a crash leaves while files are claimed
abbrev pub ClaimsLoseNothing : Type 0
ClaimsLoseNothing = (n : ℕ) (drops gone : List ℕ) (disk : Disk) (drop place : ℕ) (file : File) → nth drops place ≡ Some drop
    → disk (Dropped drop) ≡ record { now = Some file; others = [] }
    → ClaimsKeep n drops gone disk drop place file

-- Each answer is absent or the one that the ledger has, whatever a crash leaves while owed answers are put; the next run may put them
-- again; in the end those that were put are there and on the disk.
pub record Delivers (expected : ℕ → Option (List ℕ)) (owed : List (ℕ × List ℕ)) (disk : Disk) : Type 0 where
  pub cut : (k : ℕ) (c : Files) → Leaves (after_all (take k (deliver_calls owed)) disk) c → (m : ℕ) → (c (Answer m) ≡ None) ⊎ (c (Answer m) ≡ expected m)
  pub again : (k : ℕ) → AnswersFit expected (after_all (take k (deliver_calls owed)) disk)
  pub there : (m : ℕ) (bytes : List ℕ) → IsOwed m bytes owed
      → after_all (deliver_calls owed) disk (Answer m) ≡ record { now = Some (whole_file bytes); others = [] }

-- whatever a crash leaves while answers are put
abbrev pub DeliversWhole : Type 0
DeliversWhole = (expected : ℕ → Option (List ℕ)) (owed : List (ℕ × List ℕ)) (disk : Disk) → AnswersFit expected disk → AreExpected expected owed
    → Delivers expected owed disk

-- A claimed file stands under its number until the commit that takes it is in the ledger for good; whatever is done behind that commit.
abbrev pub StaysUntilRecorded : Type 0
StaysUntilRecorded = (chain : List (List ℕ)) (bytes : List ℕ) (steps : List Step) (disk : Disk) (m : ℕ) (file : File) → Stands chain disk → AreOthers steps
    → disk (Claimed m) ≡ record { now = Some file; others = [] }
    → (k : ℕ) (c : Files) → Leaves (after_all (take k (calls_of (length chain) (Commits bytes ∷ steps))) disk) c
    → IsRead (Some file) (c (Claimed m)) ⊎ IsPrefix chain (bytes ∷ commits_in steps) 1 c

-- A pass: files are claimed, then the commit that takes them is put, then whatever is done by calls that leave the ledger to commits.
-- A power cut behind any of its calls leaves each file in its box, or under its number, or in the ledger for good.
abbrev pub PassLosesNothing : Type 0
PassLosesNothing = (chain : List (List ℕ)) (n : ℕ) (drops gone bytes : List ℕ) (steps : List Step) (disk : Disk) → Stands chain disk → AreOthers steps
    → (drop place : ℕ) (file : File) → nth drops place ≡ Some drop → disk (Dropped drop) ≡ record { now = Some file; others = [] }
    → (k : ℕ) (c : Files) → Leaves (after_all (take k (claim_calls n drops gone ++ calls_of (length chain) (Commits bytes ∷ steps))) disk) c
    → (IsRead (Some file) (c (Dropped drop)) ⊎ IsRead (Some file) (c (Claimed (n + place)))) ⊎ IsPrefix chain (bytes ∷ commits_in steps) 1 c

-- Of a run that is cut off: the ledger has so many of its commits, and the file is in exactly one of these or those before, or where it
-- can be claimed. The next run finds it so.
pub record KeepsFileAt (chain : List (List ℕ)) (taken : List ℕ) (acts : List Act) (file : Identity) (c : Files) (w : Name → Option Identity) : Type 0 where
  pub count : ℕ
  pub ledger : IsLedger (chain ++ take count (commits_in_acts acts)) c
  pub kept : IsKept (taken_by count acts taken) (which_booted w) file

-- whatever a crash leaves of a run that is careful, of each dropped file; so a file is never under two numbers, nor taken twice
abbrev pub KeepsEachFile : Type 0
KeepsEachFile = (time : ℕ) (chain : List (List ℕ)) (taken : List ℕ) (acts : List Act) (disk : Disk) (which : Which) → Stands chain disk
    → AreCareful time (length chain) taken which acts → (file : Identity) → IsKept taken which file
    → (k : ℕ) (c : Files) (w : Name → Option Identity) → Leaves (after_all (take k (calls_of_acts (length chain) acts)) disk) c
    → LeavesWhich (which_behind time (take k (calls_of_acts (length chain) acts)) which) w → KeepsFileAt chain taken acts file c w

-- so files are claimed carefully
abbrev pub ClaimsCarefully : Type 0
ClaimsCarefully = (time number : ℕ) (taken : List ℕ) (which : Which) (n : ℕ) (drops gone : List ℕ) → AreOf gone drops → CanClaim taken which n drops
    → AreCareful time number taken which (map ActCalls (claim_calls n drops gone))
