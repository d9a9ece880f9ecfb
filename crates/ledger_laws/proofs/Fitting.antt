-- What holds of each file that a name may have, and what calls keep it.
use Rattle.std.proofs.Common.{◌≡◌, Bool, true, false, Option, Some, None, refl}
use Rattle.std.specs.Prelude.{if◌then◌else◌}
use Rattle.ledger_disk.specs.declared.name.Name.{Name}
use Rattle.ledger_disk.specs.Disks.{Disk, File, Slot, Call, Write, SyncFile, Rename, Link, Remove, SyncFolder, Saw, Looked, Next, after, same, with_slot, given, synced, settled, stands_in, AllOf, Fits}

module _ (P : Name → Option File → Type 0) where
  -- what a call asks
  abbrev pub Allows : Call → Disk → Type 0
  Allows (Write name bytes) disk = (n : Name) → same n name ≡ true → P n (Some (record { bytes = bytes; whole = false })) × AllOf (P n) (disk name)
  Allows (SyncFile name) disk = (n : Name) → same n name ≡ true → AllOf (P n) (synced (disk name))
  Allows (Rename from to) disk = ((n : Name) → same n from ≡ true → P n None × AllOf (P n) (disk from)) × ((n : Name) → same n to ≡ true → P n (disk from).now × AllOf (P n) (disk to))
  Allows (Link from to) disk = (n : Name) → same n to ≡ true → P n (disk from).now × AllOf (P n) (disk to)
  Allows (Remove name) disk = (n : Name) → same n name ≡ true → P n None × AllOf (P n) (disk name)
  Allows (SyncFolder folder) disk = Unit {0}
  Allows (Saw name found) disk = Unit {0}
  Allows (Looked name found) disk = Unit {0}
  Allows (Next from found) disk = Unit {0}

  slot_fits : (name : Name) (slot : Slot) (disk : Disk) → Fits P disk → ((n : Name) → same n name ≡ true → AllOf (P n) slot) → Fits P (with_slot name slot disk)
  slot_fits name slot disk fits new n = by (same n name) refl
    where
      by : (b : Bool) → same n name ≡ b → AllOf (P n) (if b then slot else disk n)
      by true e = new n e
      by false e = fits n

  pub fits_after : (call : Call) (disk : Disk) → Fits P disk → Allows call disk → Fits P (after call disk)
  fits_after (Write name bytes) disk fits allows = slot_fits name (given (Some (record { bytes = bytes; whole = false })) (disk name)) disk fits (λ n e. allows n e)
  fits_after (SyncFile name) disk fits allows = slot_fits name (synced (disk name)) disk fits allows
  fits_after (Rename from to) disk fits allows =
      slot_fits to (given (disk from).now (disk to)) (with_slot from (given None (disk from)) disk) (slot_fits from (given None (disk from)) disk fits (λ n e. allows.0 n e)) (λ n e. allows.1 n e)
  fits_after (Link from to) disk fits allows = slot_fits to (given (disk from).now (disk to)) disk fits (λ n e. allows n e)
  fits_after (Remove name) disk fits allows = slot_fits name (given None (disk name)) disk fits (λ n e. allows n e)
  fits_after (Saw name found) disk fits allows = fits
  fits_after (Looked name found) disk fits allows = fits
  fits_after (Next from found) disk fits allows = fits
  fits_after (SyncFolder folder) disk fits allows = λ n. by n (stands_in folder n)
    where
      by : (n : Name) (b : Bool) → AllOf (P n) (if b then settled (disk n) else disk n)
      by n true = ((fits n).0, tt)
      by n false = fits n
