-- The bytes so far were put.
use Rattle.std.proofs.Common.{◌≤◌, ◌-◌, length, take}
use Rattle.mon_device.specs.Putting.{Puts}
use Rattle.packed_lines.specs.Packing.{printed}
use Rattle.packed_lines.proofs.lines.PackedLines.print_whole.Given as goal

abbrev pub invariant-loop-from : goal.invariant-loop-from
invariant-loop-from g l = record {
  put : Puts (g.S.Sink.standing l.fn.sink) (g.S.Sink.standing l.sink) (take l.from (printed l.fn.self));
  within : l.from ≤ length (printed l.fn.self);
}

abbrev pub decreases-loop-from : goal.decreases-loop-from
decreases-loop-from g l = length (printed l.fn.self) - l.from
