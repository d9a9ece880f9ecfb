use Rattle.mon_device.proofs.Putting.{puts_then, puts_four}
use Rattle.job_end.proofs.printout.print_ending.Goals as goal

pub returns : goal.returns
returns g c = puts_then _ _ _ _ _ (puts_four _ _ _ _ _ _ _ _ _ c.put.ensures c.print_ending_words.ensures c.put-2.ensures c.print_number.ensures) c.put-3.ensures
