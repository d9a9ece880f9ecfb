-- What has been found, and what is found from here on, is what the text has; no limit has been passed, and no token is half read.
use Rattle.std.proofs.Common.{◌≡◌, ◌-◌, drop, length}
use Rattle.sno_lexer.{specs.inner.Lexing.{stage}, specs.Lexed.{lexed}, proofs.Loop.{IsWithin, joined}}
use Rattle.sno_lexer.proofs.lexing.read_tokens.Given as goal

abbrev pub invariant-loop-offset : goal.invariant-loop-offset
invariant-loop-offset l = record {
  all : joined l.tokens.items l.offsets.items (stage l.context l.offset (drop l.offset l.text)) ≡ lexed l.text l.from;
  as_many : length l.tokens.items ≡ length l.offsets.items;
  within : IsWithin l.context;
  none : l.context.skip ≡ 0;
}

abbrev pub decreases-loop-offset : goal.decreases-loop-offset
decreases-loop-offset l = length l.text - l.offset
