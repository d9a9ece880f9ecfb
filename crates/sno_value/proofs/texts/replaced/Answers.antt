-- What stands for characters of lines is a character of a line.
use Rattle.std.proofs.Common.{take}
use Rattle.sno_text.proofs.Printable.{line_of_take}
use Rattle.sno_value.proofs.Replacing.{line_of_replaced}
use Rattle.sno_value.proofs.texts.replaced.Goals as goal

pub of_bytes-requires : goal.of_bytes-requires
of_bytes-requires c =
    rw c.loop-byte.invariant.items
    (line_of_replaced c.args.from.now c.args.to.now (take c.loop-byte.byte-index c.args.text.now) c.requires.to (line_of_take c.loop-byte.byte-index c.args.text.now c.requires.text))
