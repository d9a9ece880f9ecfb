-- The cards of jobs (own): what each asks for, and what a line says where a job is open.
use Rattle.std.specs.Prelude.{ℕ, ◌==◌, ◌&&◌, ◌||◌, Bool, true, false, not, nat_lt, nat_eq, List, [], ◌∷◌, ◌++◌, length, drop, Option, Some, None, if◌then◌else◌, codes}
use Rattle.std.specs.List.{starts_with, fold}
use Rattle.mon_text.specs.Names.{is_name}
use Rattle.mon_text.specs.Counts.{is_count, value_of}
use Rattle.mon_text.specs.Lines.{words}
use Rattle.sno_cards.specs.declared.limits.Limits.{Limits}
use Rattle.deck_syntax.specs.declared.job_deck.UnitCard.{UnitCard}
use Rattle.deck_syntax.specs.declared.job_deck.JobDeck.{JobDeck}
use Rattle.deck_lines.specs.declared.deck_error.DeckError.{DeckError}
use Rattle.deck_lines.specs.declared.deck_error.DeckError.TheVariants.{BadName, BadNumber, UnknownCard, BadCard, OutOfPlace}
use Rattle.deck_lines.specs.declared.card.Card.{Card}
use Rattle.deck_lines.specs.declared.card.Card.TheVariants.{Tie, EndJob}
use Rattle.deck_syntax.specs.declared.job.OpenJob.{OpenJob}
use Rattle.deck_lines.specs.Cards.{card_among, is_card, word_at}
use Rattle.deck_lines.specs.Refusing.{unless, line_refusal, is_dollar_line, further_refusal}
use Rattle.std.specs.Option.{option_or}
use Rattle.deck_lines.specs.Turns.{is_within}

-- ---- `$JOB`: the account, and at most one option of each kind

-- how many statements may begin
abbrev pub sets_statements : List ℕ → Bool
sets_statements word = starts_with nat_eq word (codes "ST=")

-- how many steps a match may take
abbrev pub sets_steps : List ℕ → Bool
sets_steps word = starts_with nat_eq word (codes "MATCH=")

abbrev pub are_options : List (List ℕ) → Bool
are_options [] = true
are_options (word ∷ []) = sets_statements word || sets_steps word
are_options (word ∷ other ∷ []) = sets_statements word && sets_steps other || sets_steps word && sets_statements other
are_options _ = false

-- what stands behind the `=` of an option
abbrev pub option_text : List ℕ → List ℕ
option_text word = if sets_statements word then drop 3 word else drop 6 word

abbrev pub has_number : List ℕ → Bool
has_number word = is_count (option_text word)

abbrev pub is_limit : List ℕ → Bool
is_limit word = is_within 10000000 (value_of (option_text word))

-- the numbers of all options, and then how large they are
abbrev pub limits_refusal : List (List ℕ) → Option DeckError
limits_refusal [] = None
limits_refusal (word ∷ []) = option_or (unless (has_number word) BadNumber) (unless (is_limit word) BadCard)
limits_refusal (word ∷ other ∷ _) =
    option_or (unless (has_number word && has_number other) BadNumber) (unless (is_limit word && is_limit other) BadCard)

-- the number of words and the options; a name; and then the numbers
abbrev pub job_refusal : List (List ℕ) → Option DeckError
job_refusal ws =
    option_or (unless (nat_lt 1 (length ws) && are_options (drop 2 ws)) BadCard)
    (option_or (unless (is_name (word_at 1 ws)) BadName) (limits_refusal (drop 2 ws)))

abbrev pub usual_limits : Limits
usual_limits = record { statements = 50000; steps = 1000000 }

abbrev pub with_option : Limits → List ℕ → Limits
with_option limits word =
    if sets_statements word then record limits { statements = value_of (option_text word) }
    else record limits { steps = value_of (option_text word) }

-- a job that is open has no line at first
abbrev pub job_on : List (List ℕ) → OpenJob
job_on ws = record { account = word_at 1 ws; limits = fold with_option usual_limits (drop 2 ws); ties = []; lines = [] }

-- ---- where a job is open

-- a card begins with a dollar sign, and not with two
abbrev pub is_job_card_line : List ℕ → Bool
is_job_card_line line = is_dollar_line line && not (is_dollar_line (drop 1 line))

-- `$UNIT`: a unit, and a data set. Whether there is such a unit is tried where the job is loaded.
abbrev pub unit_card_refusal : List (List ℕ) → Option DeckError
unit_card_refusal ws =
    option_or (unless (length ws == 3) BadCard)
    (option_or (unless (is_count (word_at 1 ws)) BadNumber) (unless (is_name (word_at 2 ws)) BadName))

abbrev pub unit_on : List (List ℕ) → UnitCard
unit_on ws = record { unit = value_of (word_at 1 ws); set = word_at 2 ws }

-- a unit card stands before the program; behind its first line all but `$EOJ` are out of place, cards or not
abbrev pub job_card_refusal : Option Card → Bool → List (List ℕ) → Option DeckError
job_card_refusal (Some EndJob) begun ws = further_refusal ws
job_card_refusal (Some Tie) begun ws = option_or (unless (not begun) OutOfPlace) (unit_card_refusal ws)
job_card_refusal (Some _) begun ws = Some OutOfPlace
job_card_refusal None begun ws = Some (if begun then OutOfPlace else UnknownCard)

abbrev pub job_line_refusal : OpenJob → List ℕ → Option DeckError
job_line_refusal job line =
    option_or (line_refusal 200 line)
    (if is_job_card_line line then job_card_refusal (card_among (words line)) (not (length job.lines == 0)) (words line) else None)

-- whether a good line ends the job
abbrev pub ends_job : List ℕ → Bool
ends_job line = is_job_card_line line && is_card EndJob (card_among (words line))

-- the job after a good line that does not end it: a unit card, or a line of the program or of the data behind it, where two
-- dollar signs at the front stand for one
abbrev pub after_job_line : OpenJob → List ℕ → OpenJob
after_job_line job line =
    if is_job_card_line line then record job { ties = job.ties ++ unit_on (words line) ∷ [] }
    else record job { lines = job.lines ++ (if is_dollar_line line then drop 1 line else line) ∷ [] }

-- a job that has ended, and its number
abbrev pub job_deck_of : ℕ → OpenJob → JobDeck
job_deck_of number job = record { number = number; account = job.account; limits = job.limits; ties = job.ties; lines = job.lines }
