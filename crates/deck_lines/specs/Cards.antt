-- The cards of a deck (own): a line's first word says which one it is.
use Rattle.std.specs.Prelude.{ℕ, Bool, List, [], Option, Some, codes, slice_get, unwrap_or, bytes_eq, ◌∷◌}
use Rattle.std.specs.Map.{lookup}
use denote.Enum.Bare.{sameb}
use Rattle.deck_lines.specs.contracts.card.Card.{the_type}
use Rattle.deck_lines.specs.declared.card.Card.{Card}
use Rattle.deck_lines.specs.declared.card.Card.TheVariants.{Accounts, Catalogue, Set, Stream, Create, Delete, SetAcl, EndAcl, ShowAcl, List as Listing, Catalog, Job, Tie, EndJob, Turn, Drain, Stop}
use Rattle.std.specs.Option.{option_eq}

-- the cards of jobs and of turns, by their words
abbrev pub job_cards : List (List ℕ × Card)
job_cards = (codes "$JOB", Job) ∷ (codes "$UNIT", Tie) ∷ (codes "$EOJ", EndJob) ∷ (codes "$TURN", Turn) ∷ (codes "$DRAIN", Drain) ∷ []

-- those of the stream: the commands, its end, and those
abbrev pub stream_cards : List (List ℕ × Card)
stream_cards = (codes "$CREATE", Create) ∷ (codes "$DELETE", Delete) ∷ (codes "$SETACL", SetAcl) ∷ (codes "$ENDACL", EndAcl)
    ∷ (codes "$SHOWACL", ShowAcl) ∷ (codes "$LIST", Listing) ∷ (codes "$CATALOG", Catalog) ∷ (codes "$STOP", Stop) ∷ job_cards

-- and all: those of the sections, and of the stream
abbrev pub cards : List (List ℕ × Card)
cards = (codes "$ACCOUNTS", Accounts) ∷ (codes "$CATALOGUE", Catalogue) ∷ (codes "$SET", Set) ∷ (codes "$STREAM", Stream) ∷ stream_cards

abbrev pub card_of : List ℕ → Option Card
card_of word = lookup (bytes_eq word) cards

-- the card that was found is this one (derived `==`)
abbrev pub is_card : Card → Option Card → Bool
is_card due found = option_eq (sameb the_type) found (Some due)

-- the word at a place, or nothing
abbrev pub word_at : ℕ → List (List ℕ) → List ℕ
word_at place ws = unwrap_or (slice_get ws place) []

-- the card that the first of these words names
abbrev pub card_among : List (List ℕ) → Option Card
card_among ws = card_of (word_at 0 ws)
