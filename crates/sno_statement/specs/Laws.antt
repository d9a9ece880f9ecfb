-- What holds of statements and tokens.
use Rattle.std.specs.Prelude.{◌≡◌, ◌↔◌, List, Some, None}
use Rattle.sno_lexer.specs.declared.token.Token.{Token}
use Rattle.sno_statement.specs.declared.fault.Fault.{Fault}
use Rattle.sno_statement.specs.Statements.{Statement}
use Rattle.sno_statement.specs.Spelling.{Spells}
use Rattle.sno_statement.specs.Faults.{IsFit, IsLeftmostFault}
use Rattle.sno_statement.specs.inner.Parsing.{stated, statement_in}
use Rattle.sno_statement.specs.inner.Faults.{fault}

-- a list of tokens spells at most one statement
abbrev pub OneStatement : Type 0
OneStatement = (s t : Statement) (ts : List Token) → Spells s ts → Spells t ts → s ≡ t

-- a statement is read from the tokens exactly where they spell it
abbrev pub Taken : Type 0
Taken = (ts : List Token) (s : Statement) → (stated (statement_in ts) ≡ Some s) ↔ Spells s ts

-- the fault that is found is the leftmost one, and none is found exactly where the tokens are a statement with its variables
abbrev pub FaultIsLeftmost : Type 0
FaultIsLeftmost = (ts : List Token) → ((f : Fault) → (fault ts ≡ Some f) ↔ IsLeftmostFault ts f) × ((fault ts ≡ None) ↔ IsFit ts)
