use Rattle.std.proofs.Common.{◌++◌, append_assoc, ap, sym}
use Rattle.std.specs.Prelude.{codes}
use Rattle.mon_command.specs.Printouts.{word, number}
use Rattle.mon_device.proofs.Putting.{puts_four, puts_same}
use Rattle.audit.proofs.audit_cache.print_head.Goals as goal

pub returns : goal.returns
returns g c =
    puts_same _ _ _ _ (sym (append_assoc (codes "JOB" ++ number c.args.number ++ word c.args.account.now) (codes " ASKED") (codes " ")))
    (puts_four _ _ _ _ _ _ _ _ _ c.put.ensures c.print_number.ensures (puts_same _ _ _ _ (ap word c.as_bytes.ensures.value) c.print_word.ensures) c.put-2.ensures)
