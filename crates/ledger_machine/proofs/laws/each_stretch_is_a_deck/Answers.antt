use Rattle.ledger_machine.proofs.Decking.{each_stretch_is_a_deck}
use Rattle.ledger_machine.proofs.laws.each_stretch_is_a_deck.Goals as goal

pub returns : goal.returns
returns c = each_stretch_is_a_deck c.steps_are_a_deck.ensures
