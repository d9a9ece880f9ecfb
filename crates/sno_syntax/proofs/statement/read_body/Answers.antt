use Rattle.std.proofs.Common.{rules, Result, sym, subst}
use Rattle.sno_cards.specs.declared.refusal.SyntaxError.{SyntaxError}
use Rattle.sno_lexer.specs.Listed.{TokenList}
use Rattle.sno_statement.{specs.Abstraction.{statement_of}, proofs.Leftmost.{is_found}}
use Rattle.sno_syntax.{specs.inner.Tokens.{AreTokensOf}, proofs.Behind.{text_spells}}
use Rattle.sno_syntax.proofs.statement.read_body.Goals as goal

pub returns-in-Ok-clause-spelled : goal.returns-in-Ok-clause-spelled
returns-in-Ok-clause-spelled c =
    let s = statement_of c.parse_statement.new.statement in
    let parsed = rw (c.tokens-2.ensures.value, c.in-Ok.is) at c.in_ok-parse_statement.ensures in
    text_spells c.args.text.now s
    (subst (λ (r : Result TokenList SyntaxError). AreTokensOf s r) (sym c.in_ok-tokens.ensures.tokens) (parsed.0, parsed.1))

pub returns-clause-refused : goal.returns-clause-refused
returns-clause-refused c =
    let list = c.in_ok-tokens.tokens in
    let found = is_found list.tokens c.in-Err.fault (rw (c.tokens-2.ensures.value, c.in-Err.is) at c.in_ok-parse_statement.ensures) in
    search rules
