use Rattle.deck_run.proofs.Apart.{apart_by_their_cards}
use Rattle.deck_run.proofs.laws.apart_by_their_cards.Goals as goal

pub returns : goal.returns
returns c = apart_by_their_cards
