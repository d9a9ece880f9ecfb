-- What a line of the stream asks for (own): a command, the lines of a permission list or of a job, turns, the deck's end, or
-- nothing.
use Rattle.std.specs.Prelude.{ℕ, ◌==◌, ◌&&◌, ◌||◌, Bool, nat_lt, List, [], ◌++◌, length, Option, Some, None, is_some, unwrap_or, if◌then◌else◌, codes, not}
use Rattle.std.specs.List.{list_all}
use Rattle.mon_text.specs.Names.{is_name}
use Rattle.mon_text.specs.Counts.{value_of}
use Rattle.mon_text.specs.Characters.{is_printable, is_blank}
use Rattle.mon_text.specs.Lines.{is_blank_line, words}
use Rattle.acl_text.specs.declared.text.AclText.TheVariants.{Short, Long}
use Rattle.mon_catalogue.specs.declared.mode.Mode.{Mode}
use Rattle.mon_catalogue.specs.declared.mode.Mode.TheVariants.{Seq}
use Rattle.mon_catalogue.specs.Modes.{mode_of}
use Rattle.deck_lines.specs.declared.command.Command.{Command}
use Rattle.deck_lines.specs.declared.command.Command.TheVariants as command
use Rattle.deck_lines.specs.declared.card.Card.{Card}
use Rattle.deck_lines.specs.declared.card.Card.TheVariants.{Create, Delete, SetAcl, EndAcl, ShowAcl, List as Listing, Catalog, Job, Turn, Drain, Stop}
use Rattle.deck_lines.specs.declared.deck_error.DeckError.{DeckError}
use Rattle.deck_lines.specs.declared.deck_error.DeckError.TheVariants.{BadName, BadCharacter, LineTooLong, UnknownCard, BadCard, OutOfPlace}
use Rattle.deck_syntax.specs.declared.list.OpenList.{OpenList}
use Rattle.deck_syntax.specs.declared.request.Request.{Request}
use Rattle.deck_syntax.specs.declared.request.Request.TheVariants.{Nothing, Asks, OpensList, OpensJob, Turns, Drains, Stops}
use Rattle.deck_lines.specs.Cards.{card_among, is_card, word_at}
use Rattle.deck_lines.specs.Refusing.{unless, line_refusal, is_dollar_line, further_refusal}
use Rattle.deck_syntax.specs.Jobs.{job_refusal, job_on}
use Rattle.deck_lines.specs.Turns.{turn_refusal}
use Rattle.std.specs.Option.{option_or}
use Rattle.mon_text.specs.Beginnings.{without_leading}

-- a card that names an account and a data set
abbrev pub names_refusal : List (List ℕ) → Option DeckError
names_refusal ws = unless (is_name (word_at 1 ws) && is_name (word_at 2 ws)) BadName

abbrev pub two_names_refusal : List (List ℕ) → Option DeckError
two_names_refusal ws = option_or (unless (length ws == 3) BadCard) (names_refusal ws)

-- `$CREATE`: behind the two names there may be the word of a mode; without one the set is SEQ
abbrev pub mode_on : List (List ℕ) → Option Mode
mode_on ws = if length ws == 3 then Some Seq else if length ws == 4 then mode_of (word_at 3 ws) else None

-- the words of a line in the stream; behind the two names of `$SETACL` there may be a text, and `$CATALOG` names an account alone
abbrev pub stream_card_refusal : Option Card → List (List ℕ) → Option DeckError
stream_card_refusal None ws = Some UnknownCard
stream_card_refusal (Some Create) ws = option_or (unless (is_some (mode_on ws)) BadCard) (names_refusal ws)
stream_card_refusal (Some Delete) ws = two_names_refusal ws
stream_card_refusal (Some SetAcl) ws = option_or (unless (nat_lt 2 (length ws)) BadCard) (names_refusal ws)
stream_card_refusal (Some ShowAcl) ws = two_names_refusal ws
stream_card_refusal (Some Listing) ws = two_names_refusal ws
stream_card_refusal (Some Catalog) ws = option_or (unless (length ws == 2) BadCard) (unless (is_name (word_at 1 ws)) BadName)
stream_card_refusal (Some Job) ws = job_refusal ws
stream_card_refusal (Some Turn) ws = turn_refusal ws
stream_card_refusal (Some Drain) ws = further_refusal ws
stream_card_refusal (Some Stop) ws = further_refusal ws
stream_card_refusal (Some _) ws = Some OutOfPlace

-- in the stream: a blank line, or a card
abbrev pub stream_refusal : List ℕ → Option DeckError
stream_refusal line = if is_blank_line line then None else stream_card_refusal (card_among (words line)) (words line)

-- a line behind its first word
abbrev pub behind_word : List ℕ → List ℕ
behind_word text = without_leading (λ c. not (is_blank c)) (without_leading is_blank text)

-- the text of a permission list on a `$SETACL` card: all of the line behind the two names
abbrev pub acl_on : List ℕ → List ℕ
acl_on line = behind_word (behind_word (behind_word line))

-- without a text the lines of a list follow
abbrev pub set_acl_on : List ℕ → List (List ℕ) → Request
set_acl_on line ws =
    if length ws == 3 then OpensList (word_at 1 ws) (word_at 2 ws)
    else Asks (command.SetAcl (word_at 1 ws) (word_at 2 ws) (Short (acl_on line)))

-- what a good card asks for
abbrev pub card_request : Option Card → List ℕ → List (List ℕ) → Request
card_request (Some Create) line ws = Asks (command.Create (word_at 1 ws) (word_at 2 ws) (unwrap_or (mode_on ws) Seq))
card_request (Some Delete) line ws = Asks (command.Delete (word_at 1 ws) (word_at 2 ws))
card_request (Some SetAcl) line ws = set_acl_on line ws
card_request (Some ShowAcl) line ws = Asks (command.ShowAcl (word_at 1 ws) (word_at 2 ws))
card_request (Some Listing) line ws = Asks (command.List (word_at 1 ws) (word_at 2 ws))
card_request (Some Catalog) line ws = Asks (command.Catalog (word_at 1 ws))
card_request (Some Job) line ws = OpensJob (job_on ws)
card_request (Some Turn) line ws = Turns (record { slot = value_of (word_at 1 ws); count = value_of (word_at 2 ws) })
card_request (Some Drain) line ws = Drains
card_request _ line ws = Stops

-- what a good line of the stream asks for
abbrev pub request_on : List ℕ → Request
request_on line = if is_blank_line line then Nothing else card_request (card_among (words line)) line (words line)

-- a permission list that is open has no line at first
abbrev pub opened : List ℕ → List ℕ → OpenList
opened account name = record { account = account; name = name; text = [] }

-- one line more, whatever it says
abbrev pub with_line : OpenList → List ℕ → OpenList
with_line list line = record list { text = list.text ++ (line ++ codes "\n") }

-- the command of a list that has ended
abbrev pub set_acl_of : OpenList → Command
set_acl_of list = command.SetAcl list.account list.name (Long list.text)

-- a line of a list may have tabs too
abbrev pub is_list_character : ℕ → Bool
is_list_character c = c == 9 || is_printable c

abbrev pub list_text_refusal : List ℕ → Option DeckError
list_text_refusal line = if nat_lt 200 (length line) then Some LineTooLong else unless (list_all is_list_character line) BadCharacter

-- a card there has to be `$ENDACL`, alone
abbrev pub end_refusal : List (List ℕ) → Option DeckError
end_refusal ws = option_or (unless (is_card EndAcl (card_among ws)) OutOfPlace) (further_refusal ws)

-- a line where a permission list is open: a card, with no tab in it, or a line of the list
abbrev pub list_line_refusal : List ℕ → Option DeckError
list_line_refusal line =
    if is_dollar_line line then option_or (line_refusal 200 line) (end_refusal (words line)) else list_text_refusal line
