use Rattle.checkpoint_laws.proofs.Opened.{opens_from_it}
use Rattle.checkpoint_laws.proofs.laws.opens_from_it.Goals as goal

pub returns : goal.returns
returns c = opens_from_it c.changes_are_alike.ensures c.opens_one.ensures c.opens_the_same.ensures c.known_as_it_was.ensures
