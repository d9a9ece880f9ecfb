-- The calls that events stand for (own).
use Rattle.std.specs.Prelude.{ℕ, List, Some, None}
use Rattle.ledger_disk.specs.Disks.{Call, Write, SyncFile, Rename, Link, Remove, SyncFolder, Saw, Looked, Next}
use Rattle.ledger_disk.specs.declared.event.Event.{Event}
use Rattle.ledger_disk.specs.declared.event.Event.TheVariants.{Wrote, SyncedFile, Renamed, Linked, Removed, SyncedFolder, Found, Missed}
use Rattle.ledger_disk.specs.declared.event.Event.TheVariants.{Looked as Seen, Unseen, Next as Came, NoNext}

-- the call of an event, with the bytes that were written or found
abbrev pub call_of : Event → List ℕ → Call
call_of (Wrote name) bytes = Write name bytes
call_of (SyncedFile name) bytes = SyncFile name
call_of (Renamed from to) bytes = Rename from to
call_of (Linked from to) bytes = Link from to
call_of (Removed name) bytes = Remove name
call_of (SyncedFolder folder) bytes = SyncFolder folder
call_of (Found name) bytes = Saw name (Some bytes)
call_of (Missed name) bytes = Saw name None
call_of (Seen name id) bytes = Looked name (Some id)
call_of (Unseen name) bytes = Looked name None
call_of (Came from number) bytes = Next from (Some number)
call_of (NoNext from) bytes = Next from None
