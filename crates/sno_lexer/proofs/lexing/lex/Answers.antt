use Rattle.std.proofs.Common.{sym, Err}
use Rattle.sno_lexer.{proofs.Loop.{counted_fault}, proofs.Places.{lexed_stands}, specs.Lexed.{lexed}}
use Rattle.sno_lexer.proofs.lexing.lex.Goals as goal

pub returns-in-Ok-clause-within : goal.returns-in-Ok-clause-within
returns-in-Ok-clause-within c =
    lexed_stands c.args.text.now c.args.from c.in-Ok.answer c.in-Ok.ensures

pub returns-in-Err-count_tokens-clause-within : goal.returns-in-Err-count_tokens-clause-within
returns-in-Err-count_tokens-clause-within c =
    lexed_stands c.args.text.now c.args.from (Err c.in-Err-count_tokens.fault)
    (counted_fault (lexed c.args.text.now c.args.from) c.in-Err-count_tokens.fault (sym c.in-Err-count_tokens.ensures))
