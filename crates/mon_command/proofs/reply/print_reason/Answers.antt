use Rattle.std.proofs.Common.{◌∙◌, ap, sym}
use Rattle.mon_device.proofs.Putting.{puts_same, puts_then}
use Rattle.mon_command.{specs.Replies.{reason_text}, proofs.Words.{by_head}}
use Rattle.mon_command.proofs.reply.print_reason.Goals as goal

pub returns-in-By : goal.returns-in-By
returns-in-By g c =
    puts_same _ _ _ _ (by_head (record { tag = c.in-By.tag; name = c.in-By.name; perms = c.default.result }) ∙ ap reason_text (sym c.in-By.is))
    (puts_then _ _ _ _ _ c.put.ensures c.print_head.ensures)
