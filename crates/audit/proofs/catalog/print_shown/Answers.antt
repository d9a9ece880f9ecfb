use Rattle.std.proofs.Common.{ap, sym}
use Rattle.mon_access.specs.Accounts.{find_account}
use Rattle.deck_lines.specs.{declared.command.Command.{Command}, Commands.{account_of}}
use Rattle.mon_device.proofs.Putting.{puts_nothing, puts_same}
use Rattle.audit.specs.Catalogs.{shown_lines}
use Rattle.audit.proofs.catalog.print_shown.Goals as goal

pub returns-in-Create : goal.returns-in-Create
returns-in-Create g c =
    puts_same _ _ _ _ (ap (λ (command : Command). shown_lines (find_account c.args.accounts.now (account_of command)) c.args.sets.now command) (sym c.in-Create.is)) (puts_nothing _)

pub returns-in-Delete : goal.returns-in-Delete
returns-in-Delete g c =
    puts_same _ _ _ _ (ap (λ (command : Command). shown_lines (find_account c.args.accounts.now (account_of command)) c.args.sets.now command) (sym c.in-Delete.is)) (puts_nothing _)

pub returns-in-SetAcl : goal.returns-in-SetAcl
returns-in-SetAcl g c =
    puts_same _ _ _ _ (ap (λ (command : Command). shown_lines (find_account c.args.accounts.now (account_of command)) c.args.sets.now command) (sym c.in-SetAcl.is)) (puts_nothing _)

pub returns-in-ShowAcl : goal.returns-in-ShowAcl
returns-in-ShowAcl g c =
    puts_same _ _ _ _ (ap (λ (command : Command). shown_lines (find_account c.args.accounts.now (account_of command)) c.args.sets.now command) (sym c.in-ShowAcl.is)) (puts_nothing _)

pub returns-in-List : goal.returns-in-List
returns-in-List g c =
    puts_same _ _ _ _ (ap (λ (command : Command). shown_lines (find_account c.args.accounts.now (account_of command)) c.args.sets.now command) (sym c.in-List.is)) (puts_nothing _)
