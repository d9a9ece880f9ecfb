use Rattle.std.proofs.Common.{[], ap, sym, ◌∙◌}
use Rattle.std.specs.{Prelude.{Option, option_copied}, List.{flat_map}, Option.{option_map_or}}
use Rattle.mon_access.specs.declared.account.Account.{Account}
use Rattle.mon_guard.specs.Views.{names_shown}
use Rattle.mon_device.proofs.Putting.{puts_nothing, puts_same}
use Rattle.audit.specs.Catalogs.{shown_line}
use Rattle.audit.proofs.catalog.print_catalog.Goals as goal

pub returns-in-None : goal.returns-in-None
returns-in-None g c =
    puts_same _ _ _ _
    (ap (λ (o : Option Account). option_map_or (λ account. flat_map (shown_line c.args.by.now account) (names_shown account c.args.sets.now)) o [])
    (ap option_copied (sym c.in-None.is) ∙ c.find.ensures.found))
    (puts_nothing _)
