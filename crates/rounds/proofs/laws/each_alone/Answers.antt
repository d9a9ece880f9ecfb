use Rattle.rounds.proofs.Delivering.{each_alone}
use Rattle.rounds.proofs.laws.each_alone.Goals as goal

pub returns : goal.returns
returns c = each_alone c.card_by_card.ensures c.drain_empties.ensures c.accounts_stay.ensures c.slots_stay.ensures
