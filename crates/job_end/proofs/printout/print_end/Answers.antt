use Rattle.std.proofs.Common.{ap}
use Rattle.std.specs.List.{flat_map}
use Rattle.job_end.specs.Printouts.{note_line}
use Rattle.mon_device.proofs.Putting.{puts_four, puts_same}
use Rattle.job_end.proofs.printout.print_end.Goals as goal

pub returns : goal.returns
returns g c = puts_four _ _ _ _ _ _ _ _ _ c.print_job_line.ensures c.print.ensures (puts_same _ _ _ _ (ap (flat_map note_line) c.as_slice.ensures) c.print_notes.ensures) c.print_ending.ensures
