use Rattle.sno_cards.proofs.Cuts.{one_cut}
use Rattle.sno_cards.proofs.laws.one_cut.Goals as goal

pub returns : goal.returns
returns c = one_cut
