-- The pieces so far are put.
use Rattle.std.proofs.Common.{take}
use Rattle.mon_monitor.proofs.Common.{pieces_text, Puts}
use Rattle.mon_monitor.proofs.printed.print_pieces.Given as goal

abbrev pub invariant-loop-piece : goal.invariant-loop-piece
invariant-loop-piece g l = Puts (g.S.Sink.standing l.fn.sink) (g.S.Sink.standing l.sink) (pieces_text (take l.piece-index l.pieces))
