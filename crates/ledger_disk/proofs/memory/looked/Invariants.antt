-- What is wanted of the calls that are left is what was wanted of all.
use Rattle.std.proofs.Common.{◌≡◌, ◌-◌, length, map, take}
use Rattle.ledger_disk.specs.{Disks.{which_behind, none_there}, Memory.{entry_call}}
use Rattle.ledger_disk.proofs.memory.looked.Given as goal

abbrev pub invariant-loop-index : goal.invariant-loop-index
invariant-loop-index l =
    (which_behind 0 (map entry_call l.entries) none_there l.fn.name).now ≡ (which_behind 0 (map entry_call (take (length l.entries - l.index) l.entries)) none_there l.wanted).now
