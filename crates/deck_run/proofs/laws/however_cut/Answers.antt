use Rattle.deck_run.proofs.Beginning.{however_cut}
use Rattle.deck_run.proofs.laws.however_cut.Goals as goal

pub returns : goal.returns
returns c = however_cut
