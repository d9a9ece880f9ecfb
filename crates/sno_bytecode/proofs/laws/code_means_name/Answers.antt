use Rattle.sno_bytecode.proofs.Coded.{run_name}
use Rattle.sno_bytecode.proofs.laws.code_means_name.Goals as goal

pub returns : goal.returns
returns g c = λ setting t st. run_name setting t st
