use Rattle.job_end.specs.Printouts.{note_line}
use Rattle.mon_device.proofs.Putting.{puts_nothing, puts_each}
use Rattle.job_end.proofs.printout.print_notes.Goals as goal

pub loop-note-init : goal.loop-note-init
loop-note-init g c = puts_nothing _

pub loop-note-preserved : goal.loop-note-preserved
loop-note-preserved g c = puts_each note_line c.args.notes.now c.loop-note.note-index c.note-item.result _ _ _ c.loop-note-test.true c.note-item.is c.loop-note.invariant c.print_note.ensures
