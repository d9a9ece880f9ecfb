use Rattle.std.proofs.Common.{◌≡◌, ◌≤◌, length, take}
use Rattle.mon_acl.specs.inner.Keys.{keys_of}
use Rattle.mon_acl.proofs.keys.keys_of.Given as goal

abbrev pub invariant-loop-entry : goal.invariant-loop-entry
invariant-loop-entry l = record {
  so_far : l.keys.items ≡ keys_of (take l.entry-index l.entries);
  room : length l.entries ≤ l.keys.capacity;
}
