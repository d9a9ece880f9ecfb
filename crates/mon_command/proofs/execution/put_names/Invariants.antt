-- The names of the sets before this one that are shown were appended and counted.
use Rattle.std.proofs.Common.{◌≡◌, ◌≤◌, ◌++◌, length, take}
use Rattle.std.specs.List.{flat_map}
use Rattle.mon_guard.specs.Views.{names_lent}
use Rattle.mon_command.specs.Printouts.{name_line}
use Rattle.mon_command.proofs.execution.put_names.Given as goal

abbrev pub invariant-loop-index : goal.invariant-loop-index
invariant-loop-index l =
    (l.out.items ≡ l.fn.out.items ++ flat_map name_line (names_lent l.account (take l.index l.catalogue)))
    × (l.count ≡ length (names_lent l.account (take l.index l.catalogue)))
    × (l.count ≤ l.index)
