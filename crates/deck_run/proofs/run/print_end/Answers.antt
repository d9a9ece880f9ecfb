use Rattle.std.proofs.Common.{Bool, [], ap, sym}
use Rattle.mon_device.proofs.Putting.{puts_nothing, puts_same}
use Rattle.deck_run.specs.Audited.{end_told}
use Rattle.deck_run.proofs.run.print_end.Goals as goal

pub returns-then-check : goal.returns-then-check
returns-then-check g c = puts_same _ _ [] _ (ap (λ (check : Bool). end_told check c.args.answer.now) (sym c.if-check.true)) (puts_nothing _)
