-- The first refusal of a program (own; after Griswold, Poage and Polonsky, "The SNOBOL4 Programming Language", 2nd edition,
-- chapter 1).
use Rattle.std.specs.Prelude.{◌≡◌, ℕ, ◌+◌, nat_lt, not, bytes_eq, List, [], ◌∷◌, length, get_or, Option, Some, None, option_map, Result, Ok, Err, ◌⊎◌, if◌then◌else◌, MatchOption}
use Rattle.std.specs.List.{position_or_len, before_first}
use Rattle.std.specs.Option.{option_or, is_none}
use Rattle.indexmap.specs.IndexMap.{insert_entry}
use Rattle.mon_text.specs.Characters.{is_blank}
use Rattle.mon_text.specs.Lines.{words}
use Rattle.sno_cards.specs.declared.refusal.Place.{Place}
use Rattle.sno_cards.specs.declared.refusal.SyntaxError.{SyntaxError}
use Rattle.sno_cards.specs.declared.refusal.SyntaxCode.{SyntaxCode}
use Rattle.sno_cards.specs.declared.refusal.SyntaxCode.TheVariants.{BadConstant, BlankMissing, Unexpected, VariableNeeded, StatementTooLarge, BadEnd}
use Rattle.sno_cards.specs.Programs.{ProgramText}
use Rattle.sno_cards.specs.Texts.{Placed, text_of}
use Rattle.sno_lexer.specs.declared.fault.FaultKind.TheVariants as lex
use Rattle.sno_lexer.specs.declared.fault.LexFault.{LexFault}
use Rattle.sno_lexer.specs.Listed.{TokenList}
use Rattle.sno_lexer.specs.Following.{IsLexed}
use Rattle.sno_lexer.specs.Lexed.{lexed}
use Rattle.sno_statement.specs.declared.fault.FaultKind.TheVariants.{MissingBlank, Unfit, NoVariable}
use Rattle.sno_statement.specs.declared.fault.Fault.{Fault}
use Rattle.sno_statement.specs.Faults.{IsLeftmostFault}
use Rattle.sno_statement.specs.inner.Faults.{fault}
use Rattle.sno_syntax.specs.declared.start.Start.{Start}
use Rattle.sno_syntax.specs.Labels.{LabelList, is_bad_label, label_fault}
use Rattle.sno_syntax.specs.Places.{place_at, end_of, refused_with}
use Rattle.sno_syntax.specs.Starts.{start_of}
use Rattle.std.specs.Bool.{then_some}

-- A STATEMENT

-- the label of a statement is what stands before its first blank; one that begins with a blank has none
abbrev pub label_of : List Placed → List ℕ
label_of text = before_first is_blank (text_of text)

-- where a token stands, or the end where there is none
abbrev pub token_place : List Placed → List ℕ → ℕ → Place
token_place text offsets i = if nat_lt i (length offsets) then place_at text (get_or offsets i 0) else end_of text

abbrev pub lex_refusal : List Placed → LexFault → SyntaxError
lex_refusal text f =
    refused_with (elim f.kind [ lex.BadConstant ↦ BadConstant | lex.Foreign ↦ Unexpected | lex.TooMany ↦ StatementTooLarge ]) (place_at text f.offset)

abbrev pub fault_refusal : List Placed → List ℕ → Fault → SyntaxError
fault_refusal text offsets f =
    refused_with (elim f.kind [ MissingBlank ↦ BlankMissing | Unfit ↦ Unexpected | NoVariable ↦ VariableNeeded ]) (token_place text offsets f.at)

abbrev pub with_place : List Placed → Result TokenList LexFault → Result TokenList SyntaxError
with_place text (Ok list) = Ok list
with_place text (Err f) = Err (lex_refusal text f)

-- the tokens of a statement are those behind its label
abbrev pub tokens_of : List Placed → Result TokenList SyntaxError
tokens_of text = with_place text (lexed (text_of text) (length (label_of text)))

-- the token stage, and then the grammar
abbrev pub stage_refusal : List Placed → Result TokenList SyntaxError → Option SyntaxError
stage_refusal text (Err refusal) = Some refusal
stage_refusal text (Ok list) = option_map (fault_refusal text list.offsets) (fault list.tokens)

-- the tokens of a text, or its first refusal where neither the grammar is looked at nor which labels may stand there
abbrev pub lexed_text : List Placed → Result TokenList SyntaxError
lexed_text text = if is_bad_label (label_of text) then Err (refused_with Unexpected (place_at text 0)) else tokens_of text

-- of the label, else what comes later; a label is refused where it begins
abbrev pub label_first : List Placed → Option SyntaxCode → Option SyntaxError → Option SyntaxError
label_first text (Some code) later = Some (refused_with code (place_at text 0))
label_first text None later = later

-- of a statement, where these labels are defined before it
abbrev pub statement_refusal : LabelList → List Placed → Option SyntaxError
statement_refusal labels text = label_first text (label_fault labels (label_of text)) (stage_refusal text (tokens_of text))

-- these tokens are what stands in a text behind its label, or this is the first fault there
abbrev pub HasTokens : List Placed → Result TokenList LexFault → Type 0
HasTokens text r = IsLexed (text_of text) (length (label_of text)) r

-- what refuses the text of a statement behind its label: a fault of the token stage, or else the leftmost fault of its tokens
abbrev pub IsRefusedBehind : List Placed → SyntaxError → Type 0
IsRefusedBehind text e =
    ((f : LexFault) × HasTokens text (Err f) × (e ≡ lex_refusal text f))
    ⊎ ((list : TokenList) × (f : Fault) × HasTokens text (Ok list) × IsLeftmostFault list.tokens f × (e ≡ fault_refusal text list.offsets f))

-- the refusal of a statement that stands behind these labels: its label's, at its beginning, or else of what stands behind it
abbrev pub IsRefusalOf : LabelList → List Placed → SyntaxError → Type 0
IsRefusalOf labels text e = MatchOption (label_fault labels (label_of text)) (IsRefusedBehind text e) (λ code. e ≡ refused_with code (place_at text 0))

-- ALL STATEMENTS

abbrev pub with_label : LabelList → List ℕ → ℕ → LabelList
with_label labels label index = elim label [ [] ↦ labels | c ∷ cs ↦ insert_entry bytes_eq labels (c ∷ cs) index ]

-- of the statements from an index on
abbrev pub statements_refusal : LabelList → ℕ → List (List Placed) → Option SyntaxError
statements_refusal labels index [] = None
statements_refusal labels index (text ∷ texts) =
    option_or (statement_refusal labels text) (statements_refusal (with_label labels (label_of text) index) (index + 1) texts)

-- the labels of the statements from an index on, and those before
abbrev pub labels_from : LabelList → ℕ → List (List Placed) → LabelList
labels_from labels index [] = labels
labels_from labels index (text ∷ texts) = labels_from (with_label labels (label_of text) index) (index + 1) texts

abbrev pub labels_in : List (List Placed) → LabelList
labels_in texts = labels_from [] 0 texts

-- THE PROGRAM

-- where the run begins, if the END line says it
abbrev pub start_in : ProgramText → Option Start
start_in program = start_of (length program.statements) (labels_in program.statements) (words (text_of program.end_rest))

-- of the END line, where what stands behind END does not say where the run begins
abbrev pub end_refusal : List Placed → Option Start → Option SyntaxError
end_refusal rest start = then_some (is_none start) (refused_with BadEnd (place_at rest (position_or_len (λ c. not (is_blank c)) (text_of rest))))

-- statement by statement, and then the END line
abbrev pub syntax_refusal : ProgramText → Option SyntaxError
syntax_refusal program = option_or (statements_refusal [] 0 program.statements) (end_refusal program.end_rest (start_in program))
