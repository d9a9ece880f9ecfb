use Rattle.std.proofs.Common.{ℕ, ap, codes}
use Rattle.mon_monitor.proofs.Common.{count_line, puts_same, puts_then}
use Rattle.mon_monitor.proofs.listing.print_records.Goals as goal

pub returns : goal.returns
returns g c = puts_then _ _ _ _ _ c.print_lines.ensures (puts_same _ _ _ _ (ap (λ (n : ℕ). count_line (codes "RECORDS") n) c.len.ensures.value) c.print_count.ensures)
