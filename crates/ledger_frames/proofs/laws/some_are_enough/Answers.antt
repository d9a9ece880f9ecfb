use Rattle.ledger_frames.proofs.Enough.{some_are_enough}
use Rattle.ledger_frames.proofs.laws.some_are_enough.Goals as goal

pub returns : goal.returns
returns c = some_are_enough c.texts_are_framed.ensures c.names_are_known.ensures c.names_stay_apart.ensures c.audits_are_framed.ensures
