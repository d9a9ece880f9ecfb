use Rattle.deck_run.proofs.Headline.{headline}
use Rattle.deck_run.proofs.laws.headline.Goals as goal

pub returns : goal.returns
returns c = headline c.card_by_card.ensures c.drain_empties.ensures c.history_tells.ensures c.turns_come.ensures
