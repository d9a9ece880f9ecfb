use Rattle.std.proofs.Common.{ap, sym}
use Rattle.mon_device.proofs.Putting.{puts_same}
use Rattle.acl_text.specs.Refused.{list_refusal}
use Rattle.acl_text.proofs.refused.print_list_refusal.Goals as goal

pub returns-in-BadQualifier : goal.returns-in-BadQualifier
returns-in-BadQualifier g c = puts_same _ _ _ _ (ap list_refusal (sym c.in-BadQualifier.is)) c.print_at_entry-in-BadQualifier.ensures

pub returns-in-BadPerms : goal.returns-in-BadPerms
returns-in-BadPerms g c = puts_same _ _ _ _ (ap list_refusal (sym c.in-BadPerms.is)) c.print_at_entry-in-BadPerms.ensures

pub returns-in-Twice : goal.returns-in-Twice
returns-in-Twice g c = puts_same _ _ _ _ (ap list_refusal (sym c.in-Twice.is)) c.print_at_entry-in-Twice.ensures

pub returns-in-TooMany : goal.returns-in-TooMany
returns-in-TooMany g c = puts_same _ _ _ _ (ap list_refusal (sym c.in-TooMany.is)) c.print_at_entry-in-TooMany.ensures
