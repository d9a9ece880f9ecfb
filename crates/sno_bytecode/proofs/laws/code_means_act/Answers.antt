use Rattle.sno_bytecode.proofs.Performing.{act_does}
use Rattle.sno_bytecode.proofs.laws.code_means_act.Goals as goal

pub returns : goal.returns
returns g c = λ keeping called act st. act_does keeping called act st
