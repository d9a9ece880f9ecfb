-- Why a program is refused (own): each reason, and not only the first, in the order in which a load looks for them.
use Rattle.std.specs.Prelude.{ℕ, ◌+◌, List, [], ◌∷◌, ◌++◌, length, Option, Some, None, option_map, Result, Ok, Err}
use Rattle.mon_text.specs.Lines.{words}
use Rattle.sno_cards.specs.declared.refusal.SyntaxError.{SyntaxError}
use Rattle.sno_cards.specs.Programs.{ProgramText}
use Rattle.sno_cards.specs.Texts.{Placed, text_of}
use Rattle.sno_syntax.specs.declared.start.Start.{Start}
use Rattle.sno_syntax.specs.Labels.{LabelList}
use Rattle.sno_syntax.specs.Starts.{start_of}
use Rattle.sno_syntax.specs.Refusals.{label_of, with_label, labels_in, statement_refusal, end_refusal}
use Rattle.load_refusal.specs.declared.load_error.LoadError.{LoadError}
use Rattle.load_refusal.specs.declared.load_error.LoadError.TheVariants.{Syntax}

-- what there is, as a list
abbrev pub listed : Option LoadError → List LoadError
listed None = []
listed (Some reason) = reason ∷ []

abbrev pub syntax_listed : Option SyntaxError → List LoadError
syntax_listed refusal = listed (option_map Syntax refusal)

-- each statement from an index on that is refused, behind these labels and those of the statements before it
abbrev pub statements_refused : LabelList → ℕ → List (List Placed) → List LoadError
statements_refused labels index [] = []
statements_refused labels index (text ∷ texts) =
    syntax_listed (statement_refusal labels text) ++ statements_refused (with_label labels (label_of text) index) (index + 1) texts

-- the END line, where it does not say where a run begins
abbrev pub end_refused : List Placed → Option Start → List LoadError
end_refused rest start = syntax_listed (end_refusal rest start)

abbrev pub end_start : ProgramText → LabelList → Option Start
end_start program labels = start_of (length program.statements) labels (words (text_of program.end_rest))

abbrev pub cards_refused : ProgramText → List LoadError
cards_refused program =
    statements_refused [] 0 program.statements ++ end_refused program.end_rest (end_start program (labels_in program.statements))

-- where the cards make no program, the first that is why; it is not known then what the others would be
abbrev pub program_refused : Result ProgramText SyntaxError → List LoadError
program_refused (Ok cards) = cards_refused cards
program_refused (Err refusal) = Syntax refusal ∷ []
