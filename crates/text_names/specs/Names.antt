-- The names of data sets on the cards of a text, in their order; and whether a card speaks of all names, as `$CATALOG` does (own).
use Rattle.std.specs.Prelude.{◌≡◌, ℕ, Bool, true, false, List, [], ◌∷◌, map}
use Rattle.std.specs.List.{list_any, flat_map}
use Rattle.deck_lines.specs.declared.command.Command.{Command}
use Rattle.deck_lines.specs.declared.command.Command.TheVariants.{Create, Delete, SetAcl, ShowAcl, List as Listing, Catalog}
use Rattle.deck_syntax.specs.Decks.{Asked, Commands, Enters, Gives, Drains}

abbrev pub command_names : Command → List (List ℕ)
command_names (Create _ name mode) = name ∷ []
command_names (Delete _ name) = name ∷ []
command_names (SetAcl _ name text) = name ∷ []
command_names (ShowAcl _ name) = name ∷ []
command_names (Listing _ name) = name ∷ []
command_names (Catalog _) = []

abbrev pub is_catalog : Command → Bool
is_catalog (Create _ name mode) = false
is_catalog (Delete _ name) = false
is_catalog (SetAcl _ name text) = false
is_catalog (ShowAcl _ name) = false
is_catalog (Listing _ name) = false
is_catalog (Catalog _) = true

-- a job has the names on its `$UNIT` cards
abbrev pub names_of : Asked → List (List ℕ)
names_of (Commands command) = command_names command
names_of (Enters job) = map (λ card. card.set) job.ties
names_of (Gives turn) = []
names_of Drains = []

abbrev pub is_of_all : Asked → Bool
is_of_all (Commands command) = is_catalog command
is_of_all (Enters job) = false
is_of_all (Gives turn) = false
is_of_all Drains = false

abbrev pub names_in : List Asked → List (List ℕ)
names_in asked = flat_map names_of asked

abbrev pub asks_all : List Asked → Bool
asks_all asked = list_any is_of_all asked

-- these names, and whether all, are those of what is asked
pub record Speaks (names : List (List ℕ)) (all : Bool) (asked : List Asked) : Type 0 where
  pub names_are : names ≡ names_in asked
  pub all_is : all ≡ asks_all asked
