use Rattle.std.proofs.Common.{ap, sym}
use Rattle.job_end.specs.Printouts.{unit_refusal}
use Rattle.mon_device.proofs.Putting.{puts_then, puts_same}
use Rattle.job_end.proofs.refusal.print_unit_words.Goals as goal

pub returns-in-UnitRange : goal.returns-in-UnitRange
returns-in-UnitRange g c = puts_same _ _ _ _ (ap unit_refusal (sym c.in-UnitRange.is)) (puts_then _ _ _ _ _ c.put.ensures c.print_number.ensures)

pub returns-in-UnitTwice : goal.returns-in-UnitTwice
returns-in-UnitTwice g c = puts_same _ _ _ _ (ap unit_refusal (sym c.in-UnitTwice.is)) (puts_then _ _ _ _ _ c.put-in-UnitTwice.ensures c.print_number-in-UnitTwice.ensures)
