-- The statements, the END line and the data of a program (after "The SNOBOL4 Programming Language"; where the book leaves
-- a choice, own). All of it is said of the whole list of cards.
use Rattle.std.specs.Prelude.{ℕ, ◌+◌, Bool, false, ◌||◌, ◌==◌, not, List, [], ◌∷◌, ◌++◌, length, filter, Option, Some, None, Result, Err, if◌then◌else◌}
use Rattle.std.specs.List.{flat_map, find, onto_first, position_or_len, before_first}
use Rattle.mon_text.specs.Lines.{is_blank_line}
use Rattle.sno_cards.specs.declared.card.CardKind.{CardKind}
use Rattle.sno_cards.specs.declared.card.CardKind.TheVariants.{UnknownControl, Continuation}
use Rattle.sno_cards.specs.declared.refusal.SyntaxError.{SyntaxError}
use Rattle.sno_cards.specs.declared.refusal.SyntaxCode.{SyntaxCode}
use Rattle.sno_cards.specs.declared.refusal.SyntaxCode.TheVariants.{NoEndLine, NothingToContinue, UnknownControlCard}
use Rattle.sno_cards.specs.Texts.{Placed, text_of}
use Rattle.sno_cards.specs.Cards.{kind_of, is_start, is_continuation, is_end_line, is_semicolon, rest_of_end_line}
use Rattle.sno_cards.specs.Programs.{ProgramText}
use Rattle.mon_text.specs.Characters.{is_quote}
use Rattle.std.specs.Option.{ok_or, option_map, option_map_or, option_or}

-- CARDS AND THEIR CHARACTERS

-- a line of the program with its number
pub record Card : Type 0 where
  pub number : ℕ
  pub text : List ℕ

-- the cards that these lines are, the first having this number
abbrev pub numbered : ℕ → List (List ℕ) → List Card
numbered n [] = []
numbered n (line ∷ lines) = record { number = n; text = line } ∷ numbered (n + 1) lines

-- characters that stand on a card from a column on
abbrev pub placed_on : ℕ → ℕ → List ℕ → List Placed
placed_on card column [] = []
placed_on card column (c ∷ cs) = record { code = c; place = record { card = card; column = column } } ∷ placed_on card (column + 1) cs

-- the mark of a continuation is read as a blank
abbrev pub without_mark : List ℕ → List ℕ
without_mark line = elim line [ [] ↦ [] | mark ∷ cs ↦ 32 ∷ cs ]

abbrev pub is_continuation_card : Card → Bool
is_continuation_card card = is_continuation (kind_of card.text)

-- LINES

-- what continues a line: the cards up to the next start
abbrev pub continued : List Card → List Placed
continued [] = []
continued (card ∷ cards) =
    if is_continuation_card card then placed_on card.number 1 (without_mark card.text) ++ continued cards else []

-- each start, joined with what continues it
abbrev pub joined : List Card → List (List Placed)
joined [] = []
joined (card ∷ cards) =
    if is_continuation_card card then joined cards
    else (placed_on card.number 1 card.text ++ continued cards) ∷ joined cards

-- STATEMENTS

-- which quote has begun a literal that is still open after a character
abbrev pub literal_after : Option ℕ → ℕ → Option ℕ
literal_after None c = if is_quote c then Some c else None
literal_after (Some quote) c = if c == quote then None else Some quote

-- a `;` outside literals ends a statement
abbrev pub ends_statement : Option ℕ → ℕ → Bool
ends_statement within c = elim within [ None ↦ is_semicolon c | Some quote ↦ false ]

-- a line, or the rest of one within which a literal may be open, cut at each `;` outside literals
abbrev pub pieces : Option ℕ → List Placed → List (List Placed)
pieces literal [] = [] ∷ []
pieces literal (c ∷ cs) =
    if ends_statement literal c.code then [] ∷ pieces (literal_after literal c.code) cs
    else onto_first c (pieces (literal_after literal c.code) cs)

-- a piece of blanks alone is no statement
abbrev pub is_statement : List Placed → Bool
is_statement piece = not (is_blank_line (text_of piece))

-- the statements of a line
abbrev pub statements_in : List Placed → List (List Placed)
statements_in line = filter is_statement (pieces None line)

-- the statements of the cards before the END line that are neither comments nor control cards
abbrev pub statements_on : List Card → List (List Placed)
statements_on cards = flat_map statements_in (joined (filter (λ card. is_start (kind_of card.text) || is_continuation_card card) cards))

-- REFUSALS

-- why a card is refused, where a line of statements was begun before it or not
abbrev pub card_refusal : Bool → CardKind → Option SyntaxCode
card_refusal begun UnknownControl = Some UnknownControlCard
card_refusal false Continuation = Some NothingToContinue
card_refusal begun kind = None

abbrev pub refused_card : ℕ → SyntaxCode → SyntaxError
refused_card number code = record { code = code; place = record { card = number; column = 1 } }

-- the first refusal of a card before the END line
abbrev pub first_refusal : Bool → List Card → Option SyntaxError
first_refusal begun [] = None
first_refusal begun (card ∷ cards) =
    option_or (option_map (refused_card card.number) (card_refusal begun (kind_of card.text))) (first_refusal (begun || is_start (kind_of card.text)) cards)

-- THE PROGRAM

-- how many lines stand before the first END line
abbrev pub end_index : List (List ℕ) → ℕ
end_index lines = position_or_len is_end_line lines

-- a program whose END line is this one
abbrev pub program_ended_by : List ℕ → List (List ℕ) → ProgramText
program_ended_by end_line lines = record {
  statements = statements_on (numbered 1 (before_first is_end_line lines));
  end_rest = placed_on (end_index lines + 1) 4 (rest_of_end_line end_line);
  data_from = end_index lines + 1;
}

-- the program that these lines are, or its first refusal; without an END line, it is refused at the card after the last
abbrev pub statements_of : List (List ℕ) → Result ProgramText SyntaxError
statements_of lines =
    option_map_or Err (first_refusal false (numbered 1 (before_first is_end_line lines)))
    (ok_or (option_map (λ end_line. program_ended_by end_line lines) (find is_end_line lines)) (refused_card (length lines + 1) NoEndLine))
