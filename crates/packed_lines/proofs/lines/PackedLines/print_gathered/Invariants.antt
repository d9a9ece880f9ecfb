-- The lines so far were put, but for what is gathered.
use Rattle.std.proofs.Common.{◌≡◌, ◌≤◌, [], ◌∷◌, ◌++◌, take}
use Rattle.std.specs.List.{flat_map}
use Rattle.mon_device.specs.Putting.{PutsBut}
use Rattle.packed_lines.specs.Packing.{start_of}
use Rattle.packed_lines.proofs.lines.PackedLines.print_gathered.Given as goal

abbrev pub invariant-loop-end : goal.invariant-loop-end
invariant-loop-end g l = record {
  put : PutsBut (g.S.Sink.standing l.fn.sink) (g.S.Sink.standing l.sink) (take l.filled l.room) (flat_map (λ line. (l.before ∷ []) ++ line ++ 10 ∷ []) (take l.end-index l.fn.self));
  within : l.filled ≤ 4096;
  begins : l.start ≡ start_of l.end-index l.fn.self;
}
