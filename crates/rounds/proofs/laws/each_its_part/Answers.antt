use Rattle.rounds.proofs.Cutting.{each_its_part}
use Rattle.rounds.proofs.laws.each_its_part.Goals as goal

pub returns : goal.returns
returns c = each_its_part c.never_refused.ensures c.card_by_card.ensures c.drain_empties.ensures c.accounts_stay.ensures c.slots_stay.ensures
