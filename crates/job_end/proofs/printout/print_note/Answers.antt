use Rattle.mon_device.proofs.Putting.{puts_then}
use Rattle.job_end.proofs.printout.print_note.Goals as goal

pub returns : goal.returns
returns g c = puts_then _ _ _ _ _ c.print_note_words.ensures c.put.ensures
