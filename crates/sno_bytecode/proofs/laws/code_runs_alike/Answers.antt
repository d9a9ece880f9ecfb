use Rattle.sno_bytecode.proofs.Lined.{run_with, turn_with}
use Rattle.sno_bytecode.proofs.laws.code_runs_alike.Goals as goal

pub returns : goal.returns
returns g c = λ keeping program n p st. (run_with keeping program n p st, turn_with keeping program n p st)
