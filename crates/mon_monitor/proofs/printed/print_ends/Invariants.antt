-- The printouts so far are put.
use Rattle.std.proofs.Common.{take}
use Rattle.mon_monitor.proofs.Common.{flat_map, printout, Puts}
use Rattle.mon_monitor.proofs.printed.print_ends.Given as goal

abbrev pub invariant-loop-end : goal.invariant-loop-end
invariant-loop-end g l = Puts (g.S.Sink.standing l.fn.sink) (g.S.Sink.standing l.sink) (flat_map printout (take l.end-index l.ends))
