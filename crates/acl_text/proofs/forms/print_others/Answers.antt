-- One more is put, and at the end all are.
use Rattle.std.proofs.Common.{arith}
use Rattle.mon_device.proofs.Putting.{puts_nothing, puts_then, puts_each, puts_all}
use Rattle.acl_text.specs.Printing.{next_text}
use Rattle.acl_text.proofs.forms.print_others.Goals as goal

pub loop-other-init : goal.loop-other-init
loop-other-init g c = puts_nothing _

pub loop-other-preserved : goal.loop-other-preserved
loop-other-preserved g c =
    puts_each next_text c.args.others.now _ c.other-item.result _ _ _ (omega arith) c.other-item.is c.loop-other.invariant
    (puts_then _ _ _ _ _ c.put.ensures c.print_entry.ensures)

pub returns : goal.returns
returns g c = puts_all next_text c.args.others.now _ _ _ (omega arith) c.loop-other.invariant
