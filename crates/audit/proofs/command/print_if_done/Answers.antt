use Rattle.std.proofs.Common.{ap, sym}
use Rattle.mon_command.specs.declared.said.Said.{Said}
use Rattle.mon_device.proofs.Putting.{puts_nothing, puts_same}
use Rattle.audit.specs.{Commands.{done_words, if_done}, inner.Parts.{listed}}
use Rattle.audit.proofs.command.print_if_done.Goals as goal

pub returns-in-Records : goal.returns-in-Records
returns-in-Records g c = puts_same _ _ _ _ (ap (λ (said : Said). if_done said (done_words c.args.command.now (listed c.args.command.now c.args.sets.now))) (sym c.in-Records.is)) (puts_nothing _)

pub returns-in-Entries : goal.returns-in-Entries
returns-in-Entries g c = puts_same _ _ _ _ (ap (λ (said : Said). if_done said (done_words c.args.command.now (listed c.args.command.now c.args.sets.now))) (sym c.in-Entries.is)) (puts_nothing _)

pub returns-in-Names : goal.returns-in-Names
returns-in-Names g c = puts_same _ _ _ _ (ap (λ (said : Said). if_done said (done_words c.args.command.now (listed c.args.command.now c.args.sets.now))) (sym c.in-Names.is)) (puts_nothing _)
