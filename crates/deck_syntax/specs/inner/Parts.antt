-- Parts of what a line is refused for, and of what it gives, by names of their own: for the code and for proofs.
use Rattle.std.specs.Prelude.{ℕ, ◌==◌, Bool, not, List, [], ◌∷◌, ◌++◌, length, drop, if◌then◌else◌, nat_lt, unwrap_or, Option, Some, None, is_some}
use Rattle.sno_cards.specs.declared.limits.Limits.{Limits}
use Rattle.deck_syntax.specs.declared.job_deck.UnitCard.{UnitCard}
use Rattle.deck_syntax.specs.declared.job.OpenJob.{OpenJob}
use Rattle.deck_lines.specs.Cards.{word_at}
use Rattle.deck_lines.specs.Refusing.{is_dollar_line, unless, due_card_refusal}
use Rattle.std.specs.List.{list_all}
use Rattle.mon_text.specs.Names.{is_name}
use Rattle.mon_catalogue.specs.declared.version.Version.{Version}
use Rattle.mon_catalogue.specs.declared.version.Version.TheVariants.{One}
use Rattle.mon_catalogue.specs.Progress.{Progress}
use Rattle.deck_lines.specs.declared.deck_error.DeckError.{DeckError}
use Rattle.deck_lines.specs.declared.deck_error.DeckError.TheVariants.{BadName, BadCard}
use Rattle.std.specs.Option.{option_or}
use Rattle.deck_syntax.specs.Sections.{version_on}
use Rattle.deck_lines.specs.Codes.{code_of_catalogue}
use Rattle.deck_syntax.specs.Requests.{names_refusal, mode_on}
use Rattle.deck_lines.specs.declared.card.Card.TheVariants as card
use Rattle.mon_catalogue.specs.Progress as progress

abbrev pub words_refusal : List (List ℕ) → Option DeckError
words_refusal ws = option_or (unless (nat_lt 1 (length ws)) BadCard) (unless (list_all is_name ws) BadName)

abbrev pub heading_refusal : List (List ℕ) → Option DeckError
heading_refusal ws = due_card_refusal card.Catalogue (is_some (version_on ws)) ws

abbrev pub version_in : List (List ℕ) → Version
version_in ws = unwrap_or (version_on ws) One

abbrev pub text_refusal : Progress → Option DeckError
text_refusal now = elim now [ progress.Refused e ↦ Some (code_of_catalogue e) | other ↦ None ]

abbrev pub creation_refusal : List (List ℕ) → Option DeckError
creation_refusal ws = option_or (unless (is_some (mode_on ws)) BadCard) (names_refusal ws)

abbrev pub set_acl_refusal : List (List ℕ) → Option DeckError
set_acl_refusal ws = option_or (unless (nat_lt 2 (length ws)) BadCard) (names_refusal ws)

abbrev pub catalog_refusal : List (List ℕ) → Option DeckError
catalog_refusal ws = option_or (unless (length ws == 2) BadCard) (unless (is_name (word_at 1 ws)) BadName)

abbrev pub opened_job : List ℕ → Limits → OpenJob
opened_job account limits = record { account = account; limits = limits; ties = []; lines = [] }

abbrev pub with_unit : OpenJob → UnitCard → OpenJob
with_unit job card = record job { ties = job.ties ++ card ∷ [] }

abbrev pub with_program_line : OpenJob → List ℕ → OpenJob
with_program_line job text = record job { lines = job.lines ++ text ∷ [] }

abbrev pub program_text : List ℕ → List ℕ
program_text line = if is_dollar_line line then drop 1 line else line

abbrev pub has_begun : OpenJob → Bool
has_begun job = not (length job.lines == 0)
