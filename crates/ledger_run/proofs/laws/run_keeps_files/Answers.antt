use Rattle.ledger_run.proofs.Whole.{run_keeps_files}
use Rattle.ledger_run.proofs.laws.run_keeps_files.Goals as goal

pub returns : goal.returns
returns c = run_keeps_files
