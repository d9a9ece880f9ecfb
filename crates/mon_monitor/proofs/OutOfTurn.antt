-- What comes out of its turn: lists that no cards bring.
use Rattle.std.proofs.Common.{[]}
use Rattle.mon_monitor.proofs.Common.{Step, Marks, Seats, Stage}
use Rattle.sno_run.specs.declared.ending.Step.TheVariants as step

abbrev staged : Seats → Marks → Stage
staged seats marks = record { seats = seats; marks = marks }

-- A JOB IS NOT RUN AT ITS LOAD

-- A TURN IS NOT ANOTHER SLOT'S
