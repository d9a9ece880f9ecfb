use Rattle.deck_syntax.proofs.ComingBack.{comes_back}
use Rattle.deck_syntax.proofs.laws.catalogues_come_back.Goals as goal

pub returns : goal.returns
returns c = comes_back
