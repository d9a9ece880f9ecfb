-- Parts of the definitions by names of their own.
use Rattle.std.specs.{Prelude.{ℕ, List, Option}, Option.{option_and_then, unwrap_or}}
use Rattle.mon_catalogue.specs.{declared.data_set.DataSet.{DataSet}, Sets.{Sets, find_set}}
use Rattle.mon_unit.specs.{declared.tie.Tie.{Tie}, declared.tie.Target.TheVariants.{Untied}, Tying.{tied_to}}

abbrev pub or_untied : Option Tie → Tie
or_untied tie = unwrap_or tie (tied_to Untied)

abbrev pub looked : Option (List ℕ) → Sets → Option DataSet
looked name sets = option_and_then (λ n. find_set n sets) name
