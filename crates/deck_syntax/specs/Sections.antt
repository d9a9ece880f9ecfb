-- What a deck is (own): its lines, section by section, each line either refused or adding to what stands.
use Rattle.std.specs.Prelude.{ℕ, ◌+◌, ◌==◌, ◌&&◌, Bool, not, nat_lt, codes, unwrap_or, List, [], ◌∷◌, ◌++◌, length, drop, Option, Some, None, is_some, if◌then◌else◌, bytes_eq}
use Rattle.std.specs.List.{list_all}
use Rattle.mon_text.specs.Names.{is_name}
use Rattle.mon_text.specs.Lines.{is_blank_line, words}
use Rattle.mon_access.specs.declared.account.Account.{Account}
use Rattle.mon_access.specs.Accounts.{find_account}
use Rattle.mon_catalogue.specs.declared.version.Version.{Version}
use Rattle.mon_catalogue.specs.declared.version.Version.TheVariants.{One, Two}
use Rattle.deck_lines.specs.Codes.{code_of_catalogue}
use Rattle.mon_catalogue.specs.Sets.{Sets}
use Rattle.mon_catalogue.specs.Progress as progress
use Rattle.mon_catalogue.specs.Progress.{Progress, step, is_due}
use Rattle.deck_lines.specs.declared.card.Card.TheVariants as card
use Rattle.deck_lines.specs.declared.deck_error.DeckError.{DeckError}
use Rattle.deck_lines.specs.declared.deck_error.DeckError.TheVariants.{BadName, AccountTwice, TooManyGroups, BadCard, Truncated}
use Rattle.deck_syntax.specs.Decks.{Deck, Cards, Asked, Commands, Enters, Gives, Drains, Stopped, Refused}
use Rattle.deck_syntax.specs.declared.list.OpenList.{OpenList}
use Rattle.deck_syntax.specs.declared.request.Request.{Request}
use Rattle.deck_syntax.specs.declared.request.Request.TheVariants as request
use Rattle.deck_syntax.specs.declared.job.OpenJob.{OpenJob}
use Rattle.deck_lines.specs.Refusing.{unless, line_refusal, due_card_refusal, lone_card_refusal, is_dollar_line}
use Rattle.deck_syntax.specs.Jobs.{job_line_refusal, ends_job, after_job_line}
use Rattle.deck_syntax.specs.Requests.{opened, with_line, set_acl_of, stream_refusal, request_on, list_line_refusal}
use Rattle.deck_lines.specs.Cards.{card_among, is_card, word_at}
use Rattle.std.specs.Option.{option_or, option_map_or}

-- before the account table: blank lines, and its card
abbrev pub opening_refusal : List ℕ → Option DeckError
opening_refusal line = if is_blank_line line then None else lone_card_refusal card.Accounts (words line)

-- the account that the words of a line of the account table give: its name, its primary group, its further groups
abbrev pub account_on : List (List ℕ) → Account
account_on ws = record { name = word_at 0 ws; primary = word_at 1 ws; groups = drop 2 ws }

-- an account of another name before it, and not too many further groups
abbrev pub table_refusal : List Account → Account → Option DeckError
table_refusal accounts account =
    option_or (unless (not (is_some (find_account accounts account.name))) AccountTwice)
    (unless (not (nat_lt 16 (length account.groups))) TooManyGroups)

-- at least two words, all of them names
abbrev pub account_refusal : List Account → List (List ℕ) → Option DeckError
account_refusal accounts ws =
    option_or (option_or (unless (nat_lt 1 (length ws)) BadCard) (unless (list_all is_name ws) BadName)) (table_refusal accounts (account_on ws))

-- the version of the catalogue's text by the words of its card: `$CATALOGUE` alone, or with the word 2
abbrev pub version_on : List (List ℕ) → Option Version
version_on ws = if length ws == 1 then Some One else if (length ws == 2) && bytes_eq (word_at 1 ws) (codes "2") then Some Two else None

-- in the account table: an account, a blank line, or the catalogue's card
abbrev pub accounts_refusal : List Account → List ℕ → Option DeckError
accounts_refusal accounts line =
    if is_dollar_line line then due_card_refusal card.Catalogue (is_some (version_on (words line))) (words line)
    else (if is_blank_line line then None else account_refusal accounts (words line))

-- the data sets of a whole text
abbrev pub sets_of : Progress → Sets
sets_of reached = elim reached [ progress.SetDue version n sets ↦ sets | _ ↦ [] ]

-- where a `$SET` line is due, any line that is neither blank nor one ends the catalogue
abbrev pub ends_catalogue : Progress → List ℕ → Bool
ends_catalogue p line = is_due p && not (is_blank_line line) && not (is_card card.Set (card_among (words line)))

-- in the catalogue: the next line of its text, or the stream's card
abbrev pub catalogue_refusal : Progress → List ℕ → Option DeckError
catalogue_refusal p line =
    if ends_catalogue p line then lone_card_refusal card.Stream (words line)
    else elim (step p line) [ progress.Refused e ↦ Some (code_of_catalogue e) | other ↦ None ]

-- Each section: the deck that its lines make, of which the first has number n.

-- nothing more is asked: the deck is refused at line n, or has come to its `$STOP`
abbrev pub refused_on_line : ℕ → DeckError → Cards
refused_on_line n code = record { asked = []; ending = Refused n code }

abbrev pub stopped : Cards
stopped = record { asked = []; ending = Stopped }

-- what a card asks for, and what is asked after it
abbrev pub asked_then : Asked → Cards → Cards
asked_then one later = record { asked = one ∷ later.asked; ending = later.ending }

-- what is open in a stream: nothing, a permission list, or a job
pub data Open : Type 0 where
  Closed : Open
  InList : OpenList → Open
  InJob : OpenJob → Open

-- what a line of the stream asks for, and what the lines behind it do
abbrev pub requested : Request → (Open → Cards) → Cards
requested request.Nothing rest = rest Closed
requested (request.Asks command) rest = asked_then (Commands command) (rest Closed)
requested (request.OpensList account name) rest = rest (InList (opened account name))
requested (request.OpensJob job) rest = rest (InJob job)
requested (request.Turns turn) rest = asked_then (Gives turn) (rest Closed)
requested request.Drains rest = asked_then Drains (rest Closed)
requested request.Stops rest = stopped

abbrev pub stream_section : ℕ → Open → List (List ℕ) → Cards
stream_section n pending [] = refused_on_line n Truncated
stream_section n Closed (line ∷ lines) =
    option_map_or (refused_on_line n) (option_or (line_refusal 200 line) (stream_refusal line))
    (requested (request_on line) (λ pending. stream_section (n + 1) pending lines))
stream_section n (InList list) (line ∷ lines) =
    option_map_or (refused_on_line n) (list_line_refusal line)
    (if is_dollar_line line then asked_then (Commands (set_acl_of list)) (stream_section (n + 1) Closed lines)
    else stream_section (n + 1) (InList (with_line list line)) lines)
stream_section n (InJob job) (line ∷ lines) =
    option_map_or (refused_on_line n) (job_line_refusal job line)
    (if ends_job line then asked_then (Enters job) (stream_section (n + 1) Closed lines)
    else stream_section (n + 1) (InJob (after_job_line job line)) lines)

-- a deck that is refused before its stream
abbrev pub refused_early : ℕ → DeckError → List Account → Deck
refused_early n code accounts = record { accounts = accounts; catalogue = []; cards = refused_on_line n code }

abbrev pub catalogue_section : ℕ → List Account → Progress → List (List ℕ) → Deck
catalogue_section n accounts p [] = refused_early n Truncated accounts
catalogue_section n accounts p (line ∷ lines) =
    option_map_or (λ code. refused_early n code accounts) (option_or (line_refusal 5000 line) (catalogue_refusal p line))
    (if ends_catalogue p line then record { accounts = accounts; catalogue = sets_of p; cards = stream_section (n + 1) Closed lines }
    else catalogue_section (n + 1) accounts (step p line) lines)

-- the account table after a line of it
abbrev pub table_after : List Account → List ℕ → List Account
table_after accounts line = if is_blank_line line then accounts else accounts ++ account_on (words line) ∷ []

abbrev pub accounts_section : ℕ → List Account → List (List ℕ) → Deck
accounts_section n accounts [] = refused_early n Truncated accounts
accounts_section n accounts (line ∷ lines) =
    option_map_or (λ code. refused_early n code accounts) (option_or (line_refusal 200 line) (accounts_refusal accounts line))
    (if is_dollar_line line then catalogue_section (n + 1) accounts (progress.SetDue (unwrap_or (version_on (words line)) One) 0 []) lines
    else accounts_section (n + 1) (table_after accounts line) lines)

abbrev pub opening_section : ℕ → List (List ℕ) → Deck
opening_section n [] = refused_early n Truncated []
opening_section n (line ∷ lines) =
    option_map_or (λ code. refused_early n code []) (option_or (line_refusal 200 line) (opening_refusal line))
    (if is_blank_line line then opening_section (n + 1) lines else accounts_section (n + 1) [] lines)

-- the deck that these lines are
abbrev pub deck_of : List (List ℕ) → Deck
deck_of lines = opening_section 1 lines
