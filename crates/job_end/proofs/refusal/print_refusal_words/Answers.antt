use Rattle.std.proofs.Common.{sym, ap}
use Rattle.mon_device.proofs.Putting.{puts_same}
use Rattle.job_end.specs.Printouts.{refusal_words}
use Rattle.job_end.proofs.refusal.print_refusal_words.Goals as goal

pub returns-in-NoAccount : goal.returns-in-NoAccount
returns-in-NoAccount g c = puts_same _ _ _ _ (ap refusal_words (sym c.in-NoAccount.is)) c.put-in-NoAccount.ensures
