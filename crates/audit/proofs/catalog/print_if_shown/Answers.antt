use Rattle.std.proofs.Common.{ap, sym, ◌∙◌}
use Rattle.mon_device.proofs.Putting.{puts_nothing, puts_same}
use Rattle.audit.{specs.Grants.{granting_entry}, proofs.Catalogs.{shown_is}}
use Rattle.audit.proofs.catalog.print_if_shown.Goals as goal

pub returns-in-Some : goal.returns-in-Some
returns-in-Some g c =
    puts_same _ _ _ _
    (shown_is c.entries_are_named.ensures c.args.by.now c.args.account.now c.args.name.now c.args.set.now _
    (sym c.in-Some.is ∙ c.granting_entry.ensures ∙ ap (granting_entry c.args.account.now c.args.set.now) c.to_execute.ensures))
    c.print_shown_line.ensures

pub returns-in-None : goal.returns-in-None
returns-in-None g c =
    puts_same _ _ _ _
    (shown_is c.entries_are_named.ensures c.args.by.now c.args.account.now c.args.name.now c.args.set.now _
    (sym c.in-None.is ∙ c.granting_entry.ensures ∙ ap (granting_entry c.args.account.now c.args.set.now) c.to_execute.ensures))
    (puts_nothing _)
