use Rattle.ledger_machine.proofs.Stepping.{steps_are_texts}
use Rattle.ledger_machine.proofs.laws.steps_are_texts.Goals as goal

pub returns : goal.returns
returns c = steps_are_texts c.runs_lead.ensures
