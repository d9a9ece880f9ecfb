-- A whole pass of a run (own): files are claimed, each is recorded and removed then, and texts are run and answered.
use Rattle.std.specs.Prelude.{◌≡◌, ◌≤◌, ◌^◌, ℕ, suc, ◌+◌, Bool, true, false, List, [], ◌∷◌, ◌++◌, length, map, take, Option, None, Some}
use Rattle.std.specs.List.{AllByRecursion}
use Rattle.ledger_disk.specs.declared.identity.Identity.{Identity}
use Rattle.ledger_disk.specs.declared.name.Name.{Name}
use Rattle.ledger_disk.specs.declared.name.Name.TheVariants.{Dropped, Claimed}
use Rattle.ledger_disk.specs.Disks.{Call, Write, SyncFile, Rename, Link, Remove, SyncFolder, Saw, Looked, Next}
use Rattle.ledger_disk.specs.Disks.{Which, Disk, Files, Leaves, LeavesWhich, IsAmong, after_all, which_behind}
use Rattle.ledger_laws.specs.Traces.{changes_ledger}
use Rattle.ledger_laws.specs.Claims.{claim_calls}
use Rattle.ledger_laws.specs.Commits.{Stands}
use Rattle.ledger_laws.specs.Laws.{KeepsFileAt}
use Rattle.ledger_laws.specs.Places.{Act, Takes, Commits, Calls, is_apart, how_often, IsKept, AreCareful, CanClaim, calls_of}
use Rattle.ledger_run.specs.Finishing.{AreSorted, leave_calls}

-- a commit takes each claimed file, from this number on, and the file is removed then
abbrev pub take_acts : ℕ → List (List ℕ) → List Act
take_acts n [] = []
take_acts n (bytes ∷ texts) = Takes n bytes ∷ Calls (Remove (Claimed n)) ∷ take_acts (suc n) texts

-- a call that neither changes the ledger nor a name in a box nor one of a claimed file, as those that put answers
abbrev pub IsAside : Call → Type 0
IsAside (Write name bytes) = is_apart name ≡ true
IsAside (SyncFile name) = is_apart name ≡ true
IsAside (Rename from to) = (is_apart from ≡ true) × (is_apart to ≡ true)
IsAside (Link from to) = ⊥
IsAside (Remove name) = ⊥
IsAside (SyncFolder folder) = Unit {0}
IsAside (Saw name found) = Unit {0}
IsAside (Looked name found) = Unit {0}
IsAside (Next from found) = Unit {0}

-- commits that take no file, as those of texts that ran, and such calls
abbrev pub AreAside : List Act → Type 0
AreAside [] = Unit {0}
AreAside (Takes n bytes ∷ acts) = ⊥
AreAside (Commits bytes ∷ acts) = AreAside acts
AreAside (Calls call ∷ acts) = ((changes_ledger call ≡ false) × IsAside call) × AreAside acts

-- each of these files is in one box under one name
abbrev pub AreSole : (taken : List ℕ) (which : Which) (n : ℕ) (drops : List ℕ) → CanClaim taken which n drops → Type 0
AreSole taken which n [] can = Unit {0}
AreSole taken which n (drop ∷ drops) can = ((d : ℕ) → (which (Dropped d)).now ≡ Some can.0.file → d ≡ drop) × AreSole taken which (suc n) drops can.1

-- a whole pass is careful
abbrev pub PassIsCareful : Type 0
PassIsCareful = (time number : ℕ) (taken : List ℕ) (which : Which) (n : ℕ) (drops : List ℕ) (texts : List (List ℕ)) (rest : List Act)
    → (can : CanClaim taken which n drops) → AreSole taken which n drops can → length texts ≡ length drops → AreAside rest
    → AreCareful time number taken which (map Calls (claim_calls n drops drops) ++ (take_acts n texts ++ rest))

-- ---- a run, from where the ledger's names are on the disk

-- whether a call only sees what is there
abbrev pub is_sight : Call → Bool
is_sight (Saw name found) = true
is_sight (Looked name found) = true
is_sight (Next from found) = true
is_sight (Write name bytes) = false
is_sight (SyncFile name) = false
is_sight (Rename from to) = false
is_sight (Link from to) = false
is_sight (Remove name) = false
is_sight (SyncFolder folder) = false

abbrev pub AreSights : List Call → Type 0
AreSights calls = AllByRecursion (λ call. is_sight call ≡ true) calls

-- The ledger is read, and it is looked what stands where; what stands under a number leaves its box; a free number is looked for; what is
-- left in the boxes is claimed from there on, and a pass follows.
pub record Run : Type 0 where
  pub sights : List Call
  pub done : List ℕ
  pub more : List Call
  pub number : ℕ
  pub left : List ℕ
  pub texts : List (List ℕ)
  pub rest : List Act

abbrev pub run_acts : Run → List Act
run_acts run =
    map Calls run.sights ++ (map Calls (leave_calls run.done) ++ (map Calls run.more
    ++ (map Calls (claim_calls run.number run.left run.left) ++ (take_acts run.number run.texts ++ run.rest))))

-- It does so over boxes whose names are at these places: it sorted them, its first number is free, and none of its numbers was taken.
pub record MayRun (taken drops : List ℕ) (which : Which) (run : Run) : Type 0 where
  pub sees : AreSights run.sights
  pub looks : AreSights run.more
  pub settled : (n : ℕ) → (which (Claimed n)).others ≡ []
  pub all : (d : ℕ) (file : Identity) → (which (Dropped d)).now ≡ Some file → IsAmong d drops
  pub sorted : AreSorted drops run.done run.left which
  pub room : run.number + length run.left ≤ 2 ^ 64
  pub free : (n : ℕ) → run.number ≤ n → (which (Claimed n)).now ≡ None
  pub unused : (n : ℕ) → run.number ≤ n → how_often n taken ≡ 0
  pub each : length run.texts ≡ length run.left
  pub aside : AreAside run.rest

-- So each dropped file is in exactly one commit, or still where it can be claimed, whatever a crash leaves behind any of its calls.
abbrev pub RunKeepsFiles : Type 0
RunKeepsFiles = (time : ℕ) (chain : List (List ℕ)) (taken drops : List ℕ) (disk : Disk) (which : Which) (run : Run)
    → Stands chain disk → MayRun taken drops which run
    → (file : Identity) → IsKept taken which file
    → (k : ℕ) (c : Files) (w : Name → Option Identity) → Leaves (after_all (take k (calls_of (length chain) (run_acts run))) disk) c
    → LeavesWhich (which_behind time (take k (calls_of (length chain) (run_acts run))) which) w → KeepsFileAt chain taken (run_acts run) file c w
