use Rattle.deck_run.proofs.Ordered.{in_its_place}
use Rattle.deck_run.proofs.laws.in_its_place.Goals as goal

pub returns : goal.returns
returns c = in_its_place c.card_by_card.ensures
