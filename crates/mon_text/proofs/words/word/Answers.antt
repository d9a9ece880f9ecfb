use Rattle.std.proofs.Common.{◌∙◌, arith}
use Rattle.mon_text.proofs.WordOrder.{eight_are}
use Rattle.mon_text.proofs.words.word.Goals as goal

pub returns : goal.returns
returns c = c.from_be_bytes.ensures ∙ eight_are c.args.bytes.now c.args.from (omega arith)
