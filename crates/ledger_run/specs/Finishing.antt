-- How claims that a crash left half done are finished (own): what stands under a number leaves its box.
use Rattle.std.specs.Prelude.{◌≡◌, ◌<◌, ◌^◌, ℕ, ◌+◌, Bool, true, false, List, [], ◌∷◌, ◌++◌, map, Option, None, Some}
use Rattle.std.specs.List.{AllByRecursion}
use Rattle.ledger_disk.specs.declared.identity.Identity.{Identity}
use Rattle.ledger_disk.specs.declared.name.Folder.TheVariants.{Boxes}
use Rattle.ledger_disk.specs.declared.name.Name.TheVariants.{Dropped, Claimed}
use Rattle.ledger_disk.specs.Disks.{Which, Call, Looked, Next, SyncFolder, LooksAreTrue, IsNext, IsAmong, which_behind}
use Rattle.ledger_disk.specs.Plans.{Did, Began}
use Rattle.ledger_names.specs.Sorting.{is_among}
use Rattle.ledger_laws.specs.Claims.{removals}
use Rattle.ledger_laws.specs.Places.{Calls, AreCareful}

-- whether a call only looks which file a name has, or which number is the next
abbrev pub is_look : Call → Bool
is_look (Looked name found) = true
is_look (Next from found) = true
is_look call = false

-- Nothing was done but looking. If all looks so far told what was there, this holds of what was there.
pub record Looks {D : Type 0} (calls : D → List Call) (P : Which → Type 0) (old new : D) : Type 0 where
  pub more : List Call
  pub grows : calls new ≡ calls old ++ more
  pub only : AllByRecursion (λ call. is_look call ≡ true) more
  pub told : (first : Which) → LooksAreTrue 0 (calls new) first → P (which_behind 0 (calls old) first)

-- this file stands under a number
pub record StandsUnder (which : Which) (file : Identity) : Type 0 where
  pub number : ℕ
  pub is : (which (Claimed number)).now ≡ Some file

-- these are files that stand under numbers, and all of those below this one
pub record Gathered (files : List Identity) (number : ℕ) (which : Which) : Type 0 where
  pub sound : AllByRecursion (StandsUnder which) files
  pub whole : (n : ℕ) (file : Identity) → n < number → (which (Claimed n)).now ≡ Some file → is_among file files ≡ true

-- the file of this number, which is the next, is gathered
pub record Adds (number : ℕ) (old new : List Identity) (which : Which) : Type 0 where
  pub adds : (from : ℕ) → IsNext from (Some number) which → Gathered old from which → Gathered new (number + 1) which

-- the number behind the last, if there is one
abbrev pub bound : Option ℕ → ℕ
bound None = 2 ^ 64
bound (Some number) = number

-- the file of this place in the boxes stands under a number
pub record IsClaimed (which : Which) (drop : ℕ) : Type 0 where
  pub file : Identity
  pub in_box : (which (Dropped drop)).now ≡ Some file
  pub under : StandsUnder which file

-- it stands under none
pub record IsUnclaimed (which : Which) (drop : ℕ) : Type 0 where
  pub under_none : (n : ℕ) (file : Identity) → n < 2 ^ 64 → (which (Dropped drop)).now ≡ Some file → (which (Claimed n)).now ≡ Some file → ⊥

-- It can be claimed: it stands under no number, and under no other of these places, which are those of all names in boxes.
pub record IsFit (drops : List ℕ) (which : Which) (drop : ℕ) : Type 0 where
  pub among : IsAmong drop drops
  pub file : Identity
  pub in_box : (which (Dropped drop)).now ≡ Some file
  pub under_none : (n : ℕ) → n < 2 ^ 64 → (which (Claimed n)).now ≡ Some file → ⊥
  pub sole : (d : ℕ) → IsAmong d drops → (which (Dropped d)).now ≡ Some file → d ≡ drop

-- each of these once
abbrev pub AreOnce : List ℕ → Type 0
AreOnce [] = Unit {0}
AreOnce (x ∷ xs) = (IsAmong x xs → ⊥) × AreOnce xs

-- Of these places, some have files that stand under numbers. Others can be claimed, no two of them one file. A file that stands in
-- boxes under several names is passed over.
pub record AreSorted (drops done left : List ℕ) (which : Which) : Type 0 where
  pub claimed : AllByRecursion (IsClaimed which) done
  pub fit : AllByRecursion (IsFit drops which) left
  pub once : AreOnce left
  pub apart : AllByRecursion (λ drop. IsAmong drop done → ⊥) left

-- what leaves the boxes, and is brought to the disk
abbrev pub leave_calls : List ℕ → List Call
leave_calls done = removals done ++ SyncFolder Boxes ∷ []

-- it was looked, and then what stands under a number began to leave its box
pub record Leaves {D : Type 0} (calls : D → List Call) (old new : D) : Type 0 where
  pub done : List ℕ
  pub mid : D
  pub looks : Looks calls (λ which. AllByRecursion (IsClaimed which) done) old mid
  pub began : Began calls (leave_calls done) mid new

-- it left its box; what is left there stands under none
pub record Finishes {D : Type 0} (calls : D → List Call) (drops left : List ℕ) (old new : D) : Type 0 where
  pub done : List ℕ
  pub mid : D
  pub looks : Looks calls (AreSorted drops done left) old mid
  pub did : Did calls (leave_calls done) mid new

-- if all looks told what was there: what is left in the boxes stands under no number
pub record LeavesNone {D : Type 0} (calls : D → List Call) (left : List ℕ) (new : D) : Type 0 where
  pub none : (first : Which) → LooksAreTrue 0 (calls new) first → AllByRecursion (IsUnclaimed (which_behind 0 (calls new) first)) left

-- and can be claimed
pub record LeavesFit {D : Type 0} (calls : D → List Call) (drops left : List ℕ) (new : D) : Type 0 where
  pub fit : (first : Which) → LooksAreTrue 0 (calls new) first → AllByRecursion (IsFit drops (which_behind 0 (calls new) first)) left
  pub once : (first : Which) → LooksAreTrue 0 (calls new) first → AreOnce left

-- where the numbers are on the disk, finishing claims loses no file and gives none a second number
abbrev pub FinishesCarefully : Type 0
FinishesCarefully = (time number : ℕ) (taken : List ℕ) (which : Which) (looks : List Call) (done : List ℕ) → ((n : ℕ) → (which (Claimed n)).others ≡ [])
    → AllByRecursion (λ call. is_look call ≡ true) looks → AllByRecursion (IsClaimed which) done
    → AreCareful time number taken which (map Calls (looks ++ leave_calls done))
