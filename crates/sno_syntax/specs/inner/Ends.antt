-- The end of a text, by the offset of its last character that is no blank.
use Rattle.std.specs.Prelude.{ℕ, List, Option, Some, None}
use Rattle.sno_cards.specs.declared.refusal.Place.{Place}
use Rattle.sno_cards.specs.Texts.{Placed}
use Rattle.sno_syntax.specs.Places.{nowhere, place_at, next_to}

abbrev pub place_after : List Placed → Option ℕ → Place
place_after text None = nowhere
place_after text (Some last) = next_to (place_at text last)
