-- What is read of a text is what its tokens tell, and nothing else.
use Rattle.std.specs.Prelude.{◌≡◌, ℕ, List, Result}
use Rattle.sno_lexer.specs.declared.fault.LexFault.{LexFault}
use Rattle.sno_lexer.specs.Listed.{TokenList}
use Rattle.sno_lexer.specs.Following.{IsLexed}
use Rattle.sno_lexer.specs.Lexed.{lexed}

-- the tokens of a text tell it, to its end or to its fault
abbrev pub TokensTellTheText : Type 0
TokensTellTheText = (text : List ℕ) (from : ℕ) → IsLexed text from (lexed text from)

-- and nothing else tells it
abbrev pub NothingElseTellsIt : Type 0
NothingElseTellsIt = (text : List ℕ) (from : ℕ) (r : Result TokenList LexFault) → IsLexed text from r → r ≡ lexed text from
