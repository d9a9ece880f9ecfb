-- What holds of decks, whatever their lines: each is the contract of a function in `laws`.
use Rattle.std.specs.Prelude.{◌≡◌, ◌↔◌, ◌⊎◌, ℕ, ◌+◌, ◌-◌, ◌≤◌, List, [], ◌∷◌, ◌++◌, length, take, codes}
use Rattle.std.specs.Str.Lines.{lines}
use Rattle.mon_access.specs.declared.account.Account.{Account}
use Rattle.mon_access.specs.Accounts.{HaveDifferentNames}
use Rattle.mon_catalogue.specs.Sets.{Sets}
use Rattle.mon_catalogue.specs.Stored.{IsStored, ArePrintable}
use Rattle.mon_catalogue.specs.Text.{catalogue_lines, text_of}
use Rattle.acl_text.specs.declared.text.AclText.TheVariants.{Long}
use Rattle.deck_lines.specs.declared.command.Command.TheVariants as command
use Rattle.deck_lines.specs.declared.deck_error.DeckError.{DeckError}
use Rattle.deck_lines.specs.declared.deck_error.DeckError.TheVariants.{Truncated}
use Rattle.deck_syntax.specs.declared.job.OpenJob.{OpenJob}
use Rattle.deck_syntax.specs.Decks.{Deck, Asked, Commands, Enters, Ending, Stopped, Refused}
use Rattle.deck_syntax.specs.Sections.{stopped, deck_of}
use Rattle.deck_syntax.specs.Spelling.{SpellsAccounts, IsDeck}

abbrev pub ending_of : Deck → Ending
ending_of deck = deck.cards.ending

-- the deck that is computed of lines comes to its `$STOP` exactly where they are a good deck, and it is that one
abbrev pub ReadingSpells : Type 0
ReadingSpells = (ls : List (List ℕ)) (deck : Deck) → IsDeck ls deck ↔ ((deck_of ls ≡ deck) × (ending_of deck ≡ Stopped))

-- lines are one good deck at the most
abbrev pub OneDeck : Type 0
OneDeck = (ls : List (List ℕ)) (deck other : Deck) → IsDeck ls deck → IsDeck ls other → deck ≡ other

-- the lines up to number n say all that the deck says, however it goes on, and no deck that begins with them is good
pub record Decides (n : ℕ) (ls : List (List ℕ)) : Type 0 where
  pub within : n ≤ length ls
  pub whatever_follows : (more : List (List ℕ)) → deck_of (take n ls ++ more) ≡ deck_of ls
  pub never_good : (more : List (List ℕ)) (deck : Deck) → IsDeck (take n ls ++ more) deck → ⊥

-- a refusal at line n is settled by the lines up to it; but for one behind the last line, where more is wanted
abbrev pub RefusalsStand : Type 0
RefusalsStand = (ls : List (List ℕ)) (n : ℕ) (code : DeckError) → ending_of (deck_of ls) ≡ Refused n code
    → Decides n ls ⊎ ((n ≡ length ls + 1) × (code ≡ Truncated))

-- nothing, or what stood open: a permission list whose lines come on cards of their own, or a job
abbrev pub IsLeftOpen : List Asked → Type 0
IsLeftOpen asked =
    (asked ≡ [])
    ⊎ ((account name text : List ℕ) × (asked ≡ Commands (command.SetAcl account name (Long text)) ∷ []))
    ⊎ ((job : OpenJob) × (asked ≡ Enters job ∷ []))

-- All lines before number n, and some behind them, are this good deck. It has the accounts of the deck that is refused at
-- line n, and asks for what that one does, over the same data sets; and then for the permission list or the job that stood open
-- there, if one did.
pub record BeginsGood (n : ℕ) (ls : List (List ℕ)) (deck : Deck) (last : List Asked) : Type 0 where
  pub counted : 1 ≤ n
  pub rest : List (List ℕ)
  pub good : IsDeck (take (n - 1) ls ++ rest) deck
  pub accounts : deck.accounts ≡ (deck_of ls).accounts
  pub asked : deck.cards.asked ≡ (deck_of ls).cards.asked ++ last
  pub over : ((deck_of ls).cards.asked ≡ []) ⊎ (deck.catalogue ≡ (deck_of ls).catalogue)
  pub left_open : IsLeftOpen last

-- the line at which a deck is refused is the first that is wrong: the lines before it begin a good deck, which says what the
-- refused one said up to there
abbrev pub GoodBeginnings : Type 0
GoodBeginnings = (ls : List (List ℕ)) (n : ℕ) (code : DeckError) → ending_of (deck_of ls) ≡ Refused n code
    → (deck : Deck) × (last : List Asked) × BeginsGood n ls deck last

-- an account table, a catalogue as it is written, and an empty stream
abbrev pub deck_lines : List (List ℕ) → Sets → List (List ℕ)
deck_lines table sets =
    codes "$ACCOUNTS" ∷ table ++ (codes "$CATALOGUE 2" ∷ catalogue_lines sets ++ codes "$STREAM" ∷ codes "$STOP" ∷ [])

abbrev pub deck_over : List Account → Sets → Deck
deck_over accounts sets = record { accounts = accounts; catalogue = sets; cards = stopped }

-- what is written of a catalogue is good in the next deck, behind any good account table, and is there the same data sets;
-- so it is where the lines are written as a text, each ended by LF
abbrev pub CataloguesComeBack : Type 0
CataloguesComeBack = (table : List (List ℕ)) (accounts : List Account) (sets : Sets)
    → SpellsAccounts table accounts → HaveDifferentNames accounts → IsStored sets → ArePrintable sets
    → IsDeck (deck_lines table sets) (deck_over accounts sets)
    × IsDeck (lines (text_of (deck_lines table sets))) (deck_over accounts sets)
