-- The leftmost fault of a statement's tokens (`IsLeftmostFault`, by a law).
use Rattle.std.specs.Prelude.{List, Option, length}
use Rattle.sno_lexer.specs.declared.token.Token.{Token}
use Rattle.sno_statement.specs.declared.fault.Fault.{Fault}
use Rattle.sno_statement.specs.inner.Parsing.{statement_in, fault_of}

abbrev pub fault : List Token → Option Fault
fault ts = fault_of (length ts) (statement_in ts)
