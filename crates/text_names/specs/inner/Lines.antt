-- The names that a line brings, and what was found with it.
use Rattle.std.specs.Prelude.{◌≡◌, ℕ, ◌++◌, ◌||◌, Bool, List}
use Rattle.deck_syntax.specs.declared.stream_reader.Event.{Event}
use Rattle.deck_syntax.specs.Sections.{Open}
use Rattle.preflight.specs.inner.Reading.{asks_of}
use Rattle.text_names.specs.Names.{names_in, asks_all}
use Rattle.text_names.specs.declared.reading.Found.{Found}

abbrev pub names_brought : Event → List (List ℕ)
names_brought event = names_in (asks_of event)

abbrev pub all_brought : Event → Bool
all_brought event = asks_all (asks_of event)

-- with what a good line brings
pub record Follows (before after : Found) (place next : Open) (event : Event) : Type 0 where
  pub place_is : place ≡ next
  pub names_are : after.names.items ≡ before.names.items ++ names_brought event
  pub all_is : after.all ≡ (before.all || all_brought event)
