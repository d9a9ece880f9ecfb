use Rattle.mon_monitor.proofs.Histories.{card_by_card}
use Rattle.mon_monitor.proofs.laws.card_by_card.Goals as goal

pub returns : goal.returns
returns c = card_by_card
