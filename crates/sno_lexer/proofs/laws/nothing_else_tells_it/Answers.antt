use Rattle.sno_lexer.proofs.Once.{nothing_else_tells_it}
use Rattle.sno_lexer.proofs.laws.nothing_else_tells_it.Goals as goal

pub returns : goal.returns
returns c = nothing_else_tells_it
