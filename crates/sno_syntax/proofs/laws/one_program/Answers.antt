use Rattle.sno_syntax.proofs.Wholes.{one_program}
use Rattle.sno_syntax.proofs.laws.one_program.Goals as goal

pub returns : goal.returns
returns c = one_program
