-- The notes so far are put.
use Rattle.std.proofs.Common.{take}
use Rattle.std.specs.List.{flat_map}
use Rattle.mon_device.specs.Putting.{Puts}
use Rattle.job_end.specs.Printouts.{note_line}
use Rattle.job_end.proofs.printout.print_notes.Given as goal

abbrev pub invariant-loop-note : goal.invariant-loop-note
invariant-loop-note g l = Puts (g.S.Sink.standing l.fn.sink) (g.S.Sink.standing l.sink) (flat_map note_line (take l.note-index l.notes))
