-- Names in folders, what is seen of them, and what a crash leaves (own).
use Rattle.std.specs.Prelude.{◌≡◌, ◌⊎◌, ◌<◌, ◌≤◌, ℕ, suc, Bool, true, false, ◌==◌, ◌&&◌, List, [], ◌∷◌, Option, None, Some, option_map, if◌then◌else◌}
use Rattle.std.specs.List.{AllByRecursion}
use Rattle.ledger_disk.specs.declared.identity.Identity.{Identity}
use Rattle.ledger_disk.specs.declared.name.Folder.{Folder}
use Rattle.ledger_disk.specs.declared.name.Folder.TheVariants.{Ledger, Boxes, Taken, Out}
use Rattle.ledger_disk.specs.declared.name.Name.{Name}
use Rattle.ledger_disk.specs.declared.name.Name.TheVariants.{Commit, Draft, Dropped, Claimed, Answer, Unfinished}

-- which kind of name, which of the kind
abbrev pub kind_of : Name → ℕ
kind_of (Commit n) = 0
kind_of Draft = 1
kind_of (Dropped n) = 2
kind_of (Claimed n) = 3
kind_of (Answer n) = 4
kind_of Unfinished = 5

abbrev pub number_of : Name → ℕ
number_of (Commit n) = n
number_of Draft = 0
number_of (Dropped n) = n
number_of (Claimed n) = n
number_of (Answer n) = n
number_of Unfinished = 0

-- whether two names are the same
abbrev pub same : Name → Name → Bool
same a b = (kind_of a == kind_of b) && (number_of a == number_of b)

-- whether a name stands in a folder; what is to be a commit or an answer stands apart, and is never brought to the disk by its name
abbrev pub stands_in : Folder → Name → Bool
stands_in Ledger (Commit n) = true
stands_in Boxes (Dropped n) = true
stands_in Taken (Claimed n) = true
stands_in Out (Answer n) = true
stands_in folder name = false

-- a file: its bytes, and whether these are on the disk
pub record File : Type 0 where
  pub bytes : List ℕ
  pub whole : Bool

-- a name: what is seen, and what else a crash may leave, newest first: what was seen at the last sync of its folder and since. What is
-- kept of a file is told where this is used: its bytes, or which file it is.
pub record SlotOf (F : Type 0) : Type 0 where
  pub now : Option F
  pub others : List (Option F)

-- what each name has
abbrev pub DiskOf : Type 0 → Type 0
DiskOf F = Name → SlotOf F

abbrev pub Slot : Type 0
Slot = SlotOf File

abbrev pub Disk : Type 0
Disk = DiskOf File

-- without a file
abbrev pub empty : Disk
empty name = record { now = None; others = [] }

-- with another slot at a name
abbrev pub with_slot : {F : Type 0} → Name → SlotOf F → DiskOf F → DiskOf F
with_slot name slot disk n = if same n name then slot else disk n

-- a name gets this file, or none
abbrev pub given : {F : Type 0} → Option F → SlotOf F → SlotOf F
given file slot = record { now = file; others = slot.now ∷ slot.others }

-- its bytes are on the disk
abbrev pub made_whole : File → File
made_whole file = record { bytes = file.bytes; whole = true }

-- what a name has is brought to the disk
abbrev pub brought : {F : Type 0} → (F → F) → SlotOf F → SlotOf F
brought whole slot = record { now = option_map whole slot.now; others = slot.others }

abbrev pub synced : Slot → Slot
synced slot = brought made_whole slot

-- what a name has is on the disk
abbrev pub settled : {F : Type 0} → SlotOf F → SlotOf F
settled slot = record { now = slot.now; others = [] }

-- what is done to a disk
pub data Call : Type 0 where
  Write : Name → List ℕ → Call  -- a new file in the place of the one of this name
  SyncFile : Name → Call
  Rename : Name → Name → Call
  Link : Name → Name → Call
  Remove : Name → Call
  SyncFolder : Folder → Call
  Saw : Name → Option (List ℕ) → Call  -- a read, and what it found
  Looked : Name → Option Identity → Call  -- which file a name has, if any
  Next : ℕ → Option ℕ → Call  -- the least number from this one on under which a claimed file stands, if any

-- a disk behind a call, by what is kept of a file that is written with these bytes, and of one that is brought to the disk
abbrev pub after_by : {F : Type 0} → (List ℕ → F) → (F → F) → Call → DiskOf F → DiskOf F
after_by made whole (Write name bytes) disk = with_slot name (given (Some (made bytes)) (disk name)) disk
after_by made whole (SyncFile name) disk = with_slot name (brought whole (disk name)) disk
after_by made whole (Rename from to) disk = with_slot to (given (disk from).now (disk to)) (with_slot from (given None (disk from)) disk)
after_by made whole (Link from to) disk = with_slot to (given (disk from).now (disk to)) disk
after_by made whole (Remove name) disk = with_slot name (given None (disk name)) disk
after_by made whole (Saw name found) disk = disk
after_by made whole (Looked name found) disk = disk
after_by made whole (Next from found) disk = disk
after_by made whole (SyncFolder folder) disk = λ name. if stands_in folder name then settled (disk name) else disk name

-- a file of these bytes, which are not on the disk yet
abbrev pub written : List ℕ → File
written bytes = record { bytes = bytes; whole = false }

-- a disk behind a call
abbrev pub after : Call → Disk → Disk
after call disk = after_by written made_whole call disk

-- and behind several
abbrev pub after_all : List Call → Disk → Disk
after_all [] disk = disk
after_all (call ∷ calls) disk = after_all calls (after call disk)

-- what is seen of a name
abbrev pub found_in : Disk → Name → Option (List ℕ)
found_in disk name = option_map (λ file. file.bytes) (disk name).now

-- the reads told what was there: of an honest disk
abbrev pub AreTrue : List Call → Disk → Type 0
AreTrue [] disk = Unit {0}
AreTrue (Saw name found ∷ calls) disk = (found ≡ found_in disk name) × AreTrue calls disk
AreTrue (call ∷ calls) disk = AreTrue calls (after call disk)

-- ---- which file a name has: two names may have one

abbrev pub Which : Type 0
Which = DiskOf Identity

-- nothing stands there
abbrev pub none_there : Which
none_there name = record { now = None; others = [] }

-- A file that is written is none that was there before: so many calls were made before it. No system has a device of this number.
abbrev pub new_identity : ℕ → Identity
new_identity time = record { device = 0; inode = time }

-- behind a call, before which so many were made
abbrev pub which_after : ℕ → Call → Which → Which
which_after time call which = after_by (λ bytes. new_identity time) (λ id. id) call which

-- and behind several
abbrev pub which_behind : ℕ → List Call → Which → Which
which_behind time [] which = which
which_behind time (call ∷ calls) which = which_behind (suc time) calls (which_after time call which)

-- no number from one on has a file that is less than this one; none has, where this is none
abbrev pub IsNext : ℕ → Option ℕ → Which → Type 0
IsNext from None which = (n : ℕ) → from ≤ n → (which (Claimed n)).now ≡ None
IsNext from (Some next) which = (n : ℕ) → from ≤ n → n < next → (which (Claimed n)).now ≡ None

-- the looks told what was there
abbrev pub LooksAreTrue : ℕ → List Call → Which → Type 0
LooksAreTrue time [] which = Unit {0}
LooksAreTrue time (Looked name found ∷ calls) which = (found ≡ (which name).now) × LooksAreTrue (suc time) calls which
LooksAreTrue time (Next from found ∷ calls) which = IsNext from found which × LooksAreTrue (suc time) calls which
LooksAreTrue time (call ∷ calls) which = LooksAreTrue (suc time) calls (which_after time call which)

-- ---- a crash

-- what is read after it
abbrev pub Files : Type 0
Files = Name → Option (List ℕ)

-- a file that was not on the disk has any bytes
abbrev pub IsRead : Option File → Option (List ℕ) → Type 0
IsRead None read = read ≡ None
IsRead (Some file) read = (bytes : List ℕ) × ((read ≡ Some bytes) × (file.whole ≡ true → bytes ≡ file.bytes))

-- one of these files is read
abbrev pub IsOne : List (Option File) → Option (List ℕ) → Type 0
IsOne [] read = ⊥
IsOne (other ∷ others) read = IsRead other read ⊎ IsOne others read

-- each name by itself has one of the files that it may have
abbrev pub Leaves : Disk → Files → Type 0
Leaves disk c = (name : Name) → IsRead (disk name).now (c name) ⊎ IsOne (disk name).others (c name)

-- the disk after a power cut: what is read is on it
abbrev pub booted : Files → Disk
booted c name = record { now = option_map (λ bytes. record { bytes = bytes; whole = true }) (c name); others = [] }

-- it is one of these
abbrev pub IsAmong : {A : Type 0} → A → List A → Type 0
IsAmong x [] = ⊥
IsAmong x (y ∷ ys) = (x ≡ y) ⊎ IsAmong x ys

-- each name by itself has one of the files that it may have
abbrev pub LeavesWhich : Which → (Name → Option Identity) → Type 0
LeavesWhich which w = (name : Name) → (w name ≡ (which name).now) ⊎ IsAmong (w name) (which name).others

-- which file each name has after a power cut
abbrev pub which_booted : (Name → Option Identity) → Which
which_booted w name = record { now = w name; others = [] }

-- ---- what holds of each file that a name may have

-- of each file that a name may have
abbrev pub AllOf : {F : Type 0} → (Option F → Type 0) → SlotOf F → Type 0
AllOf P slot = P slot.now × AllByRecursion P slot.others

-- of each name
abbrev pub Fits : (Name → Option File → Type 0) → Disk → Type 0
Fits P disk = (name : Name) → AllOf (P name) (disk name)
