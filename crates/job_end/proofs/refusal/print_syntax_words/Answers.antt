use Rattle.std.proofs.Common.{◌∙◌}
use Rattle.mon_device.proofs.Putting.{puts_then, puts_four, puts_same}
use Rattle.job_end.proofs.refusal.print_syntax_words.Goals as goal

pub returns : goal.returns
returns g c = puts_then _ _ _ _ _ (puts_four _ _ _ _ _ _ _ _ _ (puts_same _ _ _ _ (c.as_bytes.ensures.value ∙ c.symbol.ensures) c.put.ensures) c.put-2.ensures c.print_number.ensures c.put-3.ensures) c.print_number-2.ensures
