use Rattle.std.proofs.Common.{arith}
use Rattle.acl_text.proofs.Putting.{short_put}
use Rattle.acl_text.proofs.forms.print_short.Goals as goal

pub returns-in-len1-up : goal.returns-in-len1-up
returns-in-len1-up g c =
    short_put c.entries.result.now c.args.acl.now c.first-item.result _ _ _ c.entries.ensures.value (omega arith) c.first-item.is c.print_entry.ensures c.print_others.ensures
