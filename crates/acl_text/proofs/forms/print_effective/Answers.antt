use Rattle.std.proofs.Common.{ap, sym}
use Rattle.mon_device.proofs.Putting.{puts_nothing, puts_same, puts_then}
use Rattle.acl_text.specs.Printing.{effective_text}
use Rattle.acl_text.proofs.forms.print_effective.Goals as goal

pub returns-in-Some : goal.returns-in-Some
returns-in-Some g c = puts_same _ _ _ _ (ap effective_text (sym c.in-Some.is)) (puts_then _ _ _ _ _ c.put.ensures c.print_perms.ensures)

pub returns-in-None : goal.returns-in-None
returns-in-None g c = puts_same _ _ _ _ (ap effective_text (sym c.in-None.is)) (puts_nothing _)
