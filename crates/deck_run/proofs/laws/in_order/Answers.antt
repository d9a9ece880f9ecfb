use Rattle.deck_run.proofs.Ordered.{in_order}
use Rattle.deck_run.proofs.laws.in_order.Goals as goal

pub returns : goal.returns
returns c = in_order c.card_by_card.ensures
