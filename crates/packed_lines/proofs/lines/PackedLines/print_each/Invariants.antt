-- The lines so far were put.
use Rattle.std.proofs.Common.{[], ◌∷◌, ◌++◌, take}
use Rattle.std.specs.List.{flat_map}
use Rattle.mon_device.specs.Putting.{Puts}
use Rattle.packed_lines.proofs.lines.PackedLines.print_each.Given as goal

abbrev pub invariant-loop-index : goal.invariant-loop-index
invariant-loop-index g l =
    Puts (g.S.Sink.standing l.fn.sink) (g.S.Sink.standing l.sink) (flat_map (λ line. l.before ++ line ++ 10 ∷ []) (take l.index l.fn.self))
