-- How many tokens there were, and how many are found from here on, is how many the text has; and no limit has been passed.
use Rattle.std.proofs.Common.{◌≡◌, drop}
use Rattle.sno_lexer.{specs.inner.Lexing.{stage, counted}, specs.Lexed.{lexed}, proofs.Loop.{IsWithin, counted_on}}
use Rattle.sno_lexer.proofs.lexing.count_tokens.Given as goal

abbrev pub invariant-loop-offset : goal.invariant-loop-offset
invariant-loop-offset l = record {
  all : counted_on l.context.tokens (stage l.context l.offset (drop l.offset l.text)) ≡ counted (lexed l.text l.from);
  within : IsWithin l.context;
}
