use Rattle.std.proofs.Common.{ap, sym, ◌∙◌}
use Rattle.deck_lines.specs.declared.command.Command.{Command}
use Rattle.mon_device.proofs.Putting.{puts_nothing, puts_same}
use Rattle.mon_command.specs.Printouts.{word}
use Rattle.audit.specs.{Commands.{done_words}, inner.Parts.{listed}}
use Rattle.audit.proofs.command.print_done.Goals as goal

pub returns-in-Create : goal.returns-in-Create
returns-in-Create g c =
    puts_same _ _ _ _ (ap word c.word.ensures ∙ ap (λ (command : Command). done_words command (listed command c.args.sets.now)) (sym c.in-Create.is)) c.print_word.ensures

pub returns-in-Delete : goal.returns-in-Delete
returns-in-Delete g c = puts_same _ _ _ _ (ap (λ (command : Command). done_words command (listed command c.args.sets.now)) (sym c.in-Delete.is)) (puts_nothing _)

pub returns-in-ShowAcl : goal.returns-in-ShowAcl
returns-in-ShowAcl g c = puts_same _ _ _ _ (ap (λ (command : Command). done_words command (listed command c.args.sets.now)) (sym c.in-ShowAcl.is)) (puts_nothing _)

pub returns-in-List : goal.returns-in-List
returns-in-List g c = puts_same _ _ _ _ (ap (λ (command : Command). done_words command (listed command c.args.sets.now)) (sym c.in-List.is)) (puts_nothing _)

pub returns-in-Catalog : goal.returns-in-Catalog
returns-in-Catalog g c = puts_same _ _ _ _ (ap (λ (command : Command). done_words command (listed command c.args.sets.now)) (sym c.in-Catalog.is)) (puts_nothing _)
