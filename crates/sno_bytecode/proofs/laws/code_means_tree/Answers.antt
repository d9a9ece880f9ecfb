use Rattle.sno_bytecode.proofs.Coded.{run_on}
use Rattle.sno_bytecode.proofs.laws.code_means_tree.Goals as goal

pub returns : goal.returns
returns g c = λ setting t rest s st. run_on setting t rest s st
