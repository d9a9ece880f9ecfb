-- One more is put.
use Rattle.std.proofs.Common.{arith}
use Rattle.mon_monitor.proofs.Common.{piece_text, puts_nothing, puts_each}
use Rattle.mon_monitor.proofs.printed.print_pieces.Goals as goal

pub loop-piece-init : goal.loop-piece-init
loop-piece-init g c = puts_nothing _

pub loop-piece-preserved : goal.loop-piece-preserved
loop-piece-preserved g c = puts_each piece_text c.args.pieces.now _ c.piece-item.result _ _ _ (omega arith) c.piece-item.is c.loop-piece.invariant c.print_piece.ensures
