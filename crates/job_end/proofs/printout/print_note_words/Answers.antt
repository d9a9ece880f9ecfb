use Rattle.std.proofs.Common.{ap, sym}
use Rattle.interaction.specs.declared.answer.Reason.{Reason}
use Rattle.mon_command.specs.{Printouts.{word}, Replies.{reason_text}}
use Rattle.mon_unit.specs.declared.note.Why.{Why}
use Rattle.job_end.specs.Printouts.{exchange_words, note_words}
use Rattle.mon_device.proofs.Putting.{puts_three, puts_then, puts_same}
use Rattle.job_end.proofs.printout.print_note_words.Goals as goal

pub returns-in-Denied : goal.returns-in-Denied
returns-in-Denied g c = puts_same _ _ _ _ (ap (λ (why : Why). note_words why (exchange_words c.args.note.now)) (sym c.in-Denied.is)) (puts_three _ _ _ _ _ _ _ c.put.ensures c.print_exchange.ensures (puts_same _ _ _ _ (ap (λ (reason : Reason). word (reason_text reason)) c.copy.ensures) (puts_then _ _ _ _ _ c.put-in-Denied.ensures c.print_reason.ensures)))

pub returns-in-Full : goal.returns-in-Full
returns-in-Full g c = puts_same _ _ _ _ (ap (λ (why : Why). note_words why (exchange_words c.args.note.now)) (sym c.in-Full.is)) (puts_then _ _ _ _ _ c.put-in-Full.ensures c.print_exchange-in-Full.ensures)
