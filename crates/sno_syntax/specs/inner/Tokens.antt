-- The tokens of a statement, as the token stage gives them.
use Rattle.std.specs.Prelude.{Result, Ok, Err}
use Rattle.sno_cards.specs.declared.refusal.SyntaxError.{SyntaxError}
use Rattle.sno_lexer.specs.Listed.{TokenList}
use Rattle.sno_statement.specs.Statements.{Statement}
use Rattle.sno_statement.specs.Spelling.{Spells}
use Rattle.sno_statement.specs.Lacking.{StatementHasVariables}

-- the tokens spell the statement, with a variable in each place that needs one
abbrev pub AreTokensOf : Statement → Result TokenList SyntaxError → Type 0
AreTokensOf s (Ok list) = StatementHasVariables list.tokens s × Spells s list.tokens
AreTokensOf s (Err refusal) = ⊥
