-- The lines of the sets before this one are put.
use Rattle.std.proofs.Common.{take}
use Rattle.std.specs.List.{flat_map}
use Rattle.mon_device.specs.Putting.{Puts}
use Rattle.mon_guard.specs.Views.{names_shown}
use Rattle.audit.specs.Catalogs.{shown_line}
use Rattle.audit.proofs.catalog.print_sets.Given as goal

abbrev pub invariant-loop-index : goal.invariant-loop-index
invariant-loop-index g l =
    Puts (g.S.Sink.standing l.fn.sink) (g.S.Sink.standing l.sink) (flat_map (shown_line l.by l.account) (names_shown l.account (take l.index l.sets)))
