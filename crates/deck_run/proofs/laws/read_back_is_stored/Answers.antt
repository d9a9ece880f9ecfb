use Rattle.deck_run.proofs.Beginning.{read_back_is_stored}
use Rattle.deck_run.proofs.laws.read_back_is_stored.Goals as goal

pub returns : goal.returns
returns c = read_back_is_stored
