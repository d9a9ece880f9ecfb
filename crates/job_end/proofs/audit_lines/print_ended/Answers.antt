use Rattle.std.proofs.Common.{◌∙◌, sym, refl}
use Rattle.mon_device.proofs.Putting.{puts_failed, puts_three, puts_four}
use Rattle.job_end.proofs.audit_lines.print_ended.Goals as goal

pub returns : goal.returns
returns g c =
    puts_three _ _ _ _ _ _ _ c.print_head.ensures (puts_four _ _ _ _ _ _ _ _ _ c.put.ensures c.print_ending_words.ensures c.put-2.ensures c.print_number.ensures)
    c.put-3.ensures

pub returns-then-not-listens : goal.returns-then-not-listens
returns-then-not-listens g c = puts_failed _ _ _ (c.listens.ensures.silent (sym c.listens.ensures.is ∙ c.if-not-listens.true)) refl
