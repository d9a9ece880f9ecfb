use Rattle.std.proofs.Common.{◌∙◌, [], sym}
use Rattle.mon_device.proofs.Putting.{puts_nothing, puts_same}
use Rattle.deck_run.proofs.{Holdings.{flushed}, Ahead.{nothing_told}}
use Rattle.deck_run.proofs.run.tell_end.Goals as goal

pub returns-then-is_broken-clause-puts : goal.returns-then-is_broken-clause-puts
returns-then-is_broken-clause-puts g c =
    puts_same _ _ [] _ (sym (nothing_told c.args.check c.args.answer (sym c.is_broken.ensures ∙ c.if-is_broken.true))) (puts_nothing _)

pub returns-in-Ok-clause-puts : goal.returns-in-Ok-clause-puts
returns-in-Ok-clause-puts g c = flushed _ _ _ _ c.print_end.ensures c.flush.ensures.puts

pub returns-in-Err-clause-puts : goal.returns-in-Err-clause-puts
returns-in-Err-clause-puts g c = flushed _ _ _ _ c.print_end.ensures c.flush.ensures.puts
