use Rattle.deck_run.proofs.Beginning.{catalogues_run_again}
use Rattle.deck_run.proofs.laws.catalogues_run_again.Goals as goal

pub returns : goal.returns
returns c = catalogues_run_again
