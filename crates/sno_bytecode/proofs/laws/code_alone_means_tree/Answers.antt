use Rattle.sno_bytecode.proofs.Coded.{run_whole}
use Rattle.sno_bytecode.proofs.laws.code_alone_means_tree.Goals as goal

pub returns : goal.returns
returns g c = λ setting t st. run_whole setting t st
