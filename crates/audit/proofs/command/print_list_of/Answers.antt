use Rattle.std.proofs.Common.{[], ap, sym, ◌∙◌}
use Rattle.std.specs.{Prelude.{Option, option_copied}, Option.{option_map_or}}
use Rattle.acl_text.specs.Printing.{short_form}
use Rattle.mon_catalogue.specs.declared.data_set.DataSet.{DataSet}
use Rattle.mon_command.specs.Printouts.{word}
use Rattle.mon_device.proofs.Putting.{puts_nothing, puts_same}
use Rattle.audit.proofs.command.print_list_of.Goals as goal

pub returns-in-None : goal.returns-in-None
returns-in-None g c =
    puts_same _ _ _ _
    (ap (λ (o : Option DataSet). option_map_or (λ set. word (short_form set.acl)) o []) (ap option_copied (sym c.in-None.is) ∙ c.find.ensures))
    (puts_nothing _)
