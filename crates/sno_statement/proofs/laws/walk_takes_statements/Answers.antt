use Rattle.sno_statement.proofs.Grammar.{taken}
use Rattle.sno_statement.proofs.laws.walk_takes_statements.Goals as goal

pub returns : goal.returns
returns c = taken
