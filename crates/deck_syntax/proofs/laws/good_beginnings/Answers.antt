use Rattle.deck_syntax.proofs.Closing.{good_beginnings}
use Rattle.deck_syntax.proofs.laws.good_beginnings.Goals as goal

pub returns : goal.returns
returns c = good_beginnings
