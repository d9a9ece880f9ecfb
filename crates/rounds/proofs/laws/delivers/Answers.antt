use Rattle.rounds.proofs.Delivering.{delivers}
use Rattle.rounds.proofs.laws.delivers.Goals as goal

pub returns : goal.returns
returns c = delivers c.never_refused.ensures c.card_by_card.ensures c.drain_empties.ensures c.accounts_stay.ensures c.slots_stay.ensures
