-- A disk in memory: the calls that were made (own).
use Rattle.std.specs.Prelude.{ℕ, List, Option, Some, None, map}
use Rattle.ledger_disk.specs.Disks.{Disk, Which, Call, found_in, new_identity}
use Rattle.ledger_disk.specs.Events.{call_of}
use Rattle.ledger_disk.specs.declared.identity.Identity.{Identity}
use Rattle.ledger_disk.specs.declared.memory.Entry.{Entry}
use Rattle.ledger_disk.specs.declared.memory.Origin.{Origin}
use Rattle.ledger_disk.specs.declared.memory.Origin.TheVariants as from
use Rattle.ledger_disk.specs.declared.memory.MemoryDisk.{MemoryDisk}

-- the call that an entry keeps
abbrev pub entry_call : Entry → Call
entry_call entry = call_of entry.event entry.bytes.items

-- the calls that were made
abbrev pub calls_of : MemoryDisk → List Call
calls_of disk = map entry_call disk.entries.items

-- which file a name has, by where it got that from a call before which so many were made
abbrev pub which_by : ℕ → Origin → Which → Option Identity
which_by time (from.Bytes bytes) which = Some (new_identity time)
which_by time from.Nothing which = None
which_by time (from.Name name) which = (which name).now

-- what a name has, by where it got that, over the disk of before
abbrev pub found_by : Origin → Disk → Option (List ℕ)
found_by (from.Bytes bytes) disk = Some bytes.now
found_by from.Nothing disk = None
found_by (from.Name name) disk = found_in disk name
