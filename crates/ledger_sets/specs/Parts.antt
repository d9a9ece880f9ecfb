-- Some data sets of a catalogue (own): all, or those of some names, in the order that they have there.
use Rattle.std.specs.Prelude.{◌≡◌, ℕ, nat_eq, Bool, true, List, ◌∷◌, ◌++◌, drop, filter, Option, Some, None}
use Rattle.std.specs.List.{list_any}
use Rattle.std.specs.Cmp.Lexicographic.{pointwise}
use Rattle.mon_catalogue.specs.declared.data_set.DataSet.{DataSet}
use Rattle.mon_catalogue.specs.Sets.{Sets}
use Rattle.ledger_sets.specs.declared.part.Which.{Which}
use Rattle.ledger_sets.specs.declared.part.Which.TheVariants.{All, Named}

abbrev pub has : Which → List ℕ → Bool
has All name = true
has (Named names) name = list_any (λ other. pointwise nat_eq other name) names.items

abbrev pub those_of : Which → Sets → Sets
those_of which sets = filter (λ named. has which named.0) sets

-- the first, if there is one, and these
abbrev pub with_first : Option (List ℕ × DataSet) → Sets → Sets
with_first None sets = sets
with_first (Some named) sets = named ∷ sets

-- these are those before this place
abbrev pub IsCopied : Which → Sets → ℕ → Sets → Type 0
IsCopied which sets place some = some ++ those_of which (drop place sets) ≡ those_of which sets
