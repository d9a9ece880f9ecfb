use Rattle.std.proofs.Common.{ℕ, List, ◌++◌, ap, sym, append-nil}
use Rattle.std.specs.Prelude.{codes}
use Rattle.mon_command.specs.Printouts.{word, number}
use Rattle.mon_device.proofs.Putting.{puts_four, puts_same}
use Rattle.job_end.proofs.printout.print_job_line.Goals as goal

pub returns : goal.returns
returns g c =
    puts_same _ _ _ _ (ap (λ (t : List ℕ). t ++ codes "\n") (sym (append-nil (codes "JOB" ++ number c.args.number ++ word c.args.account.now))))
    (puts_four _ _ _ _ _ _ _ _ _ c.put.ensures c.print_number.ensures (puts_same _ _ _ _ (ap word c.as_bytes.ensures.value) c.print_word.ensures) c.put-2.ensures)
