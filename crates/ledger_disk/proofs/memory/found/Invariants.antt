-- What is wanted of the calls that are left is what was wanted of all.
use Rattle.std.proofs.Common.{◌≡◌, ◌-◌, length, map, take}
use Rattle.ledger_disk.specs.{Disks.{after_all, found_in, empty}, Memory.{entry_call}}
use Rattle.ledger_disk.proofs.memory.found.Given as goal

abbrev pub invariant-loop-index : goal.invariant-loop-index
invariant-loop-index l =
    found_in (after_all (map entry_call l.entries) empty) l.fn.name ≡ found_in (after_all (map entry_call (take (length l.entries - l.index) l.entries)) empty) l.wanted
