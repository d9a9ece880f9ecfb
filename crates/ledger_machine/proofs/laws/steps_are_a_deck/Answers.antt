use Rattle.ledger_machine.proofs.Decking.{steps_are_a_deck}
use Rattle.ledger_machine.proofs.laws.steps_are_a_deck.Goals as goal

pub returns : goal.returns
returns c = steps_are_a_deck c.card_by_card.ensures c.each_alone.ensures c.never_refused.ensures c.gives_accounts.ensures c.runs_lead.ensures
