use Rattle.sno_lexer.proofs.Telling.{tokens_tell_the_text}
use Rattle.sno_lexer.proofs.laws.tokens_tell_the_text.Goals as goal

pub returns : goal.returns
returns c = tokens_tell_the_text
