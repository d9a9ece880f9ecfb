-- One more is put, and at the end all are.
use Rattle.std.proofs.Common.{List, ◌∙◌, ap, arith, get_or, length}
use Rattle.mon_device.proofs.Putting.{puts_nothing, puts_each, puts_all}
use Rattle.mon_acl.specs.{declared.entries.Entry.{Entry}, Entries.{mask_of}}
use Rattle.acl_text.{specs.Printing.{long_line}, proofs.Putting.{line_so}}
use Rattle.acl_text.proofs.forms.print_long.Goals as goal

pub loop-entry-init : goal.loop-entry-init
loop-entry-init g c = puts_nothing _

pub loop-entry-preserved : goal.loop-entry-preserved
loop-entry-preserved g c =
    let same = c.entries-entry-items.ensures.value in
    puts_each (long_line (mask_of c.args.acl.now)) c.args.acl.now c.loop-entry.entry-index c.entry-item.result _ _ _
    (omega (arith, c.loop-entry-test.true, ap length same))
    (c.entry-item.is ∙ ap (λ (es : List Entry). get_or es c.loop-entry.entry-index c.entry-item.result) same) c.loop-entry.invariant
    (line_so _ _ (mask_of c.args.acl.now) c.copy_of_mask.result c.entry-item.result (c.copy_of_mask.ensures ∙ c.mask-mask.ensures) c.print_line.ensures)

pub returns : goal.returns
returns g c =
    puts_all (long_line (mask_of c.args.acl.now)) c.args.acl.now _ _ _
    (omega (arith, c.loop-entry-test.false, ap length c.entries-entry-items.ensures.value)) c.loop-entry.invariant
