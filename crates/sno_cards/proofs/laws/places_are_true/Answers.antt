use Rattle.sno_cards.proofs.TruePlaces.{places_are_true}
use Rattle.sno_cards.proofs.laws.places_are_true.Goals as goal

pub returns : goal.returns
returns c = places_are_true
