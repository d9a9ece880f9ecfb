-- The tokens of a text, or its first fault, as a function (own). By the laws it is what `IsLexed` says, and nothing else is.
use Rattle.std.specs.Prelude.{ℕ, List, drop, Result}
use Rattle.sno_lexer.specs.declared.fault.LexFault.{LexFault}
use Rattle.sno_lexer.specs.Listed.{TokenList}
use Rattle.sno_lexer.specs.inner.Lexing.{start, stage}

-- of what stands in a text from an offset on
abbrev pub lexed : List ℕ → ℕ → Result TokenList LexFault
lexed text from = stage start from (drop from text)
