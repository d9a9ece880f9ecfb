-- Parts of the definitions by names of their own: for the code and for proofs.
use Rattle.std.specs.Prelude.{List, map, Bool, ◌||◌}
use Rattle.sno_cards.specs.declared.refusal.Place.{Place}
use Rattle.sno_cards.specs.Texts.{Placed}
use Rattle.sno_cards.specs.Cards.{kind_of, is_start}
use Rattle.sno_cards.specs.Statements.{Card, is_continuation_card}

abbrev pub is_statement_card : Card → Bool
is_statement_card card = is_start (kind_of card.text) || is_continuation_card card

-- the places alone
abbrev pub places_of : List Placed → List Place
places_of cs = map (λ c. c.place) cs
