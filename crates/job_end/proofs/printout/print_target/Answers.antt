use Rattle.std.proofs.Common.{ap, sym}
use Rattle.job_end.specs.Printouts.{target_words}
use Rattle.mon_device.proofs.Putting.{puts_then, puts_same}
use Rattle.job_end.proofs.printout.print_target.Goals as goal

pub returns-in-Unit : goal.returns-in-Unit
returns-in-Unit g c = puts_same _ _ _ _ (ap target_words (sym c.in-Unit.is)) (puts_then _ _ _ _ _ c.put.ensures c.print_number.ensures)
