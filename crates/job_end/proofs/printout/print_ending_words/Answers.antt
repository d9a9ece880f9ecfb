use Rattle.std.proofs.Common.{ap, sym, ◌∙◌}
use Rattle.mon_command.specs.Printouts.{word}
use Rattle.job_end.specs.Printouts.{ending_words}
use Rattle.mon_device.proofs.Putting.{puts_then, puts_three, puts_same}
use Rattle.job_end.proofs.printout.print_ending_words.Goals as goal

pub returns-in-MatchLimit : goal.returns-in-MatchLimit
returns-in-MatchLimit g c = puts_same _ _ _ _ (ap ending_words (sym c.in-MatchLimit.is)) (puts_then _ _ _ _ _ c.put-in-MatchLimit.ensures c.print_at_statement.ensures)

pub returns-in-Fault : goal.returns-in-Fault
returns-in-Fault g c = puts_same _ _ _ _ (ap ending_words (sym c.in-Fault.is)) (puts_three _ _ _ _ _ _ _ c.put-in-Fault.ensures (puts_same _ _ _ _ (ap word (c.as_bytes.ensures.value ∙ c.name.ensures)) c.print_word.ensures) c.print_at_statement-in-Fault.ensures)
