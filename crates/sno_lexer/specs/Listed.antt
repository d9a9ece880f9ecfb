-- The tokens of a text, and the index of each one's first character (own).
use Rattle.std.specs.Prelude.{ℕ, ◌<◌, List, Result, Ok, Err}
use Rattle.std.specs.List.{All}
use Rattle.sno_lexer.specs.declared.token.Token.{Token}
use Rattle.sno_lexer.specs.declared.fault.LexFault.{LexFault}

pub record TokenList : Type 0 where
  pub tokens : List Token
  pub offsets : List ℕ

-- all tokens, or the fault, stand before an index
abbrev pub StandsBefore : ℕ → Result TokenList LexFault → Type 0
StandsBefore end (Ok list) = All (λ at. at < end) list.offsets
StandsBefore end (Err fault) = fault.offset < end
