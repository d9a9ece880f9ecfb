-- What is wanted of the block stands behind the byte.
use Rattle.std.proofs.Common.{arith}
use Rattle.packed_lines.proofs.Gathering.{block_laid}
use Rattle.packed_lines.proofs.lines.gather_block.Goals as goal

pub returns : goal.returns
returns c = λ count short.
    block_laid c.args.room.now c.args.block.now c.lay.new.place _ _ c.args.filled c.args.before count (omega (arith, c.requires, c.told-room)) (omega (arith, short, c.told-block)) c.lay.ensures
