use Rattle.std.proofs.Common.{ap, sym}
use Rattle.mon_command.specs.declared.reply.Reply.{Reply}
use Rattle.mon_device.proofs.Putting.{puts_nothing, puts_same}
use Rattle.audit.specs.{Commands.{done_words}, inner.Parts.{if_reply_done, listed}}
use Rattle.audit.proofs.command.print_if_reply_done.Goals as goal

pub returns-in-NoAccount : goal.returns-in-NoAccount
returns-in-NoAccount g c = puts_same _ _ _ _ (ap (λ (reply : Reply). if_reply_done reply (done_words c.args.command.now (listed c.args.command.now c.args.sets.now))) (sym c.in-NoAccount.is)) (puts_nothing _)

pub returns-in-Denied : goal.returns-in-Denied
returns-in-Denied g c = puts_same _ _ _ _ (ap (λ (reply : Reply). if_reply_done reply (done_words c.args.command.now (listed c.args.command.now c.args.sets.now))) (sym c.in-Denied.is)) (puts_nothing _)

pub returns-in-NameTaken : goal.returns-in-NameTaken
returns-in-NameTaken g c = puts_same _ _ _ _ (ap (λ (reply : Reply). if_reply_done reply (done_words c.args.command.now (listed c.args.command.now c.args.sets.now))) (sym c.in-NameTaken.is)) (puts_nothing _)

pub returns-in-CatalogueFull : goal.returns-in-CatalogueFull
returns-in-CatalogueFull g c = puts_same _ _ _ _ (ap (λ (reply : Reply). if_reply_done reply (done_words c.args.command.now (listed c.args.command.now c.args.sets.now))) (sym c.in-CatalogueFull.is)) (puts_nothing _)

pub returns-in-BadList : goal.returns-in-BadList
returns-in-BadList g c = puts_same _ _ _ _ (ap (λ (reply : Reply). if_reply_done reply (done_words c.args.command.now (listed c.args.command.now c.args.sets.now))) (sym c.in-BadList.is)) (puts_nothing _)
