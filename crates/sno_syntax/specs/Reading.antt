-- The program that cards spell, as a function (own). By the laws it is one that `IsProgram` says, where there is one.
use Rattle.std.specs.Prelude.{List, [], ◌∷◌, Option, Some, None, Result, Ok, Err}
use Rattle.sno_cards.specs.declared.refusal.SyntaxError.{SyntaxError}
use Rattle.sno_cards.specs.Programs.{ProgramText}
use Rattle.sno_cards.specs.Texts.{Placed}
use Rattle.sno_lexer.specs.Listed.{TokenList}
use Rattle.sno_statement.specs.Statements.{Statement}
use Rattle.sno_statement.specs.inner.Parsing.{stated, statement_in}
use Rattle.sno_syntax.specs.declared.start.Start.{Start}
use Rattle.sno_syntax.specs.Labels.{LabelList}
use Rattle.sno_syntax.specs.Refusals.{tokens_of, labels_in, start_in}
use Rattle.sno_syntax.specs.Programs.{Program}

-- the statement that the tokens spell, where there is one
abbrev pub statement_on : Result TokenList SyntaxError → Option Statement
statement_on (Ok list) = stated (statement_in list.tokens)
statement_on (Err refusal) = None

abbrev pub statement_before : Option Statement → Option (List Statement) → Option (List Statement)
statement_before (Some s) (Some ss) = Some (s ∷ ss)
statement_before (Some s) None = None
statement_before None ss = None

abbrev pub all_statements : List (List Placed) → Option (List Statement)
all_statements [] = Some []
all_statements (text ∷ texts) = statement_before (statement_on (tokens_of text)) (all_statements texts)

abbrev pub program_by : Option (List Statement) → LabelList → Option Start → Option Program
program_by (Some ss) labels (Some start) = Some (record { statements = ss; labels = labels; start = start })
program_by (Some ss) labels None = None
program_by None labels start = None

-- the program that the cards spell, where they spell one
abbrev pub program_on : ProgramText → Option Program
program_on cards = program_by (all_statements cards.statements) (labels_in cards.statements) (start_in cards)
