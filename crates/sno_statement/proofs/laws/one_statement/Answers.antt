use Rattle.sno_statement.proofs.Grammar.{one_statement as law}
use Rattle.sno_statement.proofs.laws.one_statement.Goals as goal

pub returns : goal.returns
returns c = law
