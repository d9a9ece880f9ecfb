use Rattle.std.proofs.Common.{ℕ, List, [], ◌∷◌, ap, sym, ◌∙◌}
use Rattle.std.specs.{Prelude.{Option, option_map}, Map.Iter.{deref_pair}, Option.{option_map_or}, List.{flat_map}}
use Rattle.mon_catalogue.specs.declared.data_set.DataSet.{DataSet}
use Rattle.mon_guard.specs.Views.{names_shown}
use Rattle.mon_device.proofs.Putting.{puts_nothing, puts_same}
use Rattle.audit.specs.Catalogs.{shown_line}
use Rattle.audit.proofs.catalog.print_set.Goals as goal

pub returns-in-None : goal.returns-in-None
returns-in-None g c =
    puts_same _ _ _ _
    (ap (λ (o : Option (List ℕ × DataSet)). flat_map (shown_line c.args.by.now c.args.account.now) (names_shown c.args.account.now (option_map_or (λ named. named ∷ []) o [])))
    (ap (option_map deref_pair) (sym c.in-None.is) ∙ c.at.ensures))
    (puts_nothing _)
