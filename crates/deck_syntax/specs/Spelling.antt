-- Which lines are which deck (own): four sections, each begun by its card, up to a `$STOP`. What stands behind that is not
-- read.
use Rattle.std.specs.Prelude.{◌≡◌, ◌⊎◌, ℕ, ◌≤◌, ◌&&◌, codes, false, List, [], ◌∷◌, ◌++◌, length, IsTrue}
use Rattle.std.specs.List.{list_all, AllByRecursion}
use Rattle.mon_text.specs.Names.{is_name}
use Rattle.mon_text.specs.Lines.{is_blank_line, words}
use Rattle.acl_text.specs.declared.text.AclText.TheVariants.{Short, Long}
use Rattle.mon_access.specs.declared.account.Account.{Account}
use Rattle.mon_access.specs.Accounts.{HaveDifferentNames}
use Rattle.mon_catalogue.specs.declared.mode.Mode.{Mode}
use Rattle.mon_catalogue.specs.declared.mode.Mode.TheVariants.{Seq}
use Rattle.mon_catalogue.specs.declared.version.Version.{Version}
use Rattle.mon_catalogue.specs.declared.version.Version.TheVariants.{One, Two}
use Rattle.mon_catalogue.specs.Modes.{mode_word}
use Rattle.mon_catalogue.specs.Spelling.{IsCatalogueText}
use Rattle.mon_catalogue.specs.Text.{text_of}
use Rattle.deck_lines.specs.declared.command.Command.{Command}
use Rattle.deck_lines.specs.declared.command.Command.TheVariants as command
use Rattle.deck_lines.specs.declared.card.Card.{Card}
use Rattle.deck_lines.specs.declared.card.Card.TheVariants as card
use Rattle.deck_lines.specs.CardLines.{IsLineWithin, IsCard}
use Rattle.deck_syntax.specs.Decks.{Deck, Asked, Commands, Enters, Gives, Drains, Stopped}
use Rattle.deck_syntax.specs.JobSpelling.{SpellsJob, SpellsTurn, SpellsDrain}
use Rattle.deck_lines.specs.Refusing.{is_dollar_line}
use Rattle.deck_syntax.specs.Requests.{acl_on, is_list_character}

-- blank lines of at most 200 characters
abbrev pub AreBlank : List (List ℕ) → Type 0
AreBlank lines = AllByRecursion (λ line. (length line ≤ 200) × IsTrue (is_blank_line line)) lines

-- the line of an account: its name, its primary group, and at most 16 further groups
pub record SpellsAccount (line : List ℕ) (account : Account) : Type 0 where
  pub line_is : IsLineWithin 200 line
  pub words_are : words line ≡ account.name ∷ account.primary ∷ account.groups
  pub names_are : IsTrue (list_all is_name (words line))
  pub few : length account.groups ≤ 16

-- the lines of these accounts, with blank lines before, between and after them
abbrev pub SpellsAccounts : List (List ℕ) → List Account → Type 0
SpellsAccounts lines [] = AreBlank lines
SpellsAccounts lines (account ∷ accounts) =
    (blanks : List (List ℕ)) × (line : List ℕ) × (rest : List (List ℕ)) × (lines ≡ blanks ++ line ∷ rest)
    × AreBlank blanks × SpellsAccount line account × SpellsAccounts rest accounts

-- a card and names alone
abbrev pub NamesOn : Card → List (List ℕ) → List ℕ → Type 0
NamesOn card names line = IsCard 200 card names line × IsTrue (list_all is_name names)

-- the words that ask for a mode: its own, or none for SEQ
abbrev pub AskForMode : Mode → List (List ℕ) → Type 0
AskForMode mode others = (others ≡ mode_word mode ∷ []) ⊎ ((mode ≡ Seq) × (others ≡ []))

-- a `$CREATE` card: two names, and the words for the mode
pub record SpellsCreation (account name : List ℕ) (mode : Mode) (line : List ℕ) : Type 0 where
  pub others : List (List ℕ)
  pub card_is : IsCard 200 card.Create (account ∷ name ∷ others) line
  pub names_are : IsTrue (is_name account && is_name name)
  pub mode_is : AskForMode mode others

-- a `$SETACL` card with a short text behind its two names
pub record SpellsShort (account name text line : List ℕ) : Type 0 where
  pub first : List ℕ
  pub others : List (List ℕ)
  pub card_is : IsCard 200 card.SetAcl (account ∷ name ∷ first ∷ others) line
  pub names_are : IsTrue (is_name account && is_name name)
  pub text_is : text ≡ acl_on line

-- a line of a long text: it may have tabs, and does not begin with `$`
abbrev pub IsListLine : List ℕ → Type 0
IsListLine line = (length line ≤ 200) × IsTrue (list_all is_list_character line) × (is_dollar_line line ≡ false)

-- the lines of a long text, and `$ENDACL`, with no blank before it
pub record SpellsLong (lines : List (List ℕ)) (text : List ℕ) : Type 0 where
  pub list : List (List ℕ)
  pub end_card : List ℕ
  pub lines_are : lines ≡ list ++ end_card ∷ []
  pub list_is : AllByRecursion IsListLine list
  pub ends : IsCard 200 card.EndAcl [] end_card
  pub at_once : IsTrue (is_dollar_line end_card)
  pub text_is : text ≡ text_of list

-- the lines of a command: its card, and those behind the card
abbrev pub SpellsCommand : List ℕ → List (List ℕ) → Command → Type 0
SpellsCommand line more (command.Create account name mode) = SpellsCreation account name mode line × (more ≡ [])
SpellsCommand line more (command.Delete account name) = NamesOn card.Delete (account ∷ name ∷ []) line × (more ≡ [])
SpellsCommand line more (command.ShowAcl account name) = NamesOn card.ShowAcl (account ∷ name ∷ []) line × (more ≡ [])
SpellsCommand line more (command.List account name) = NamesOn card.List (account ∷ name ∷ []) line × (more ≡ [])
SpellsCommand line more (command.Catalog account) = NamesOn card.Catalog (account ∷ []) line × (more ≡ [])
SpellsCommand line more (command.SetAcl account name (Short text)) = SpellsShort account name text line × (more ≡ [])
SpellsCommand line more (command.SetAcl account name (Long text)) = NamesOn card.SetAcl (account ∷ name ∷ []) line × SpellsLong more text

-- the lines of what a card asks for: the card, and those behind it that are its own
abbrev pub SpellsAsked : List ℕ → List (List ℕ) → Asked → Type 0
SpellsAsked line more (Commands command) = SpellsCommand line more command
SpellsAsked line more (Enters job) = SpellsJob line more job
SpellsAsked line more (Gives turn) = SpellsTurn line turn × (more ≡ [])
SpellsAsked line more Drains = SpellsDrain line × (more ≡ [])

-- the lines of all that is asked, with blank lines before, between and after them
abbrev pub SpellsStream : List (List ℕ) → List Asked → Type 0
SpellsStream lines [] = AreBlank lines
SpellsStream lines (one ∷ others) =
    (blanks : List (List ℕ)) × (line : List ℕ) × (more : List (List ℕ)) × (rest : List (List ℕ)) × (lines ≡ blanks ++ (line ∷ more ++ rest))
    × AreBlank blanks × SpellsAsked line more one × SpellsStream rest others

-- the words behind the catalogue's card, by the version of the text
abbrev pub version_words : Version → List (List ℕ)
version_words One = []
version_words Two = codes "2" ∷ []

-- the lines are a good deck, and it is this one
pub record IsDeck (lines : List (List ℕ)) (deck : Deck) : Type 0 where
  pub blanks : List (List ℕ)
  pub accounts_card : List ℕ
  pub table : List (List ℕ)
  pub catalogue_card : List ℕ
  pub version : Version
  pub text : List (List ℕ)
  pub stream_card : List ℕ
  pub stream : List (List ℕ)
  pub stop_card : List ℕ
  pub unread : List (List ℕ)
  pub lines_are : lines ≡ blanks ++ (accounts_card ∷ table ++ (catalogue_card ∷ text ++ (stream_card ∷ stream ++ stop_card ∷ unread)))
  pub blanks_are : AreBlank blanks
  pub accounts_begin : IsCard 200 card.Accounts [] accounts_card
  pub table_is : SpellsAccounts table deck.accounts
  pub names_differ : HaveDifferentNames deck.accounts
  pub catalogue_begins : IsCard 200 card.Catalogue (version_words version) catalogue_card
  pub at_once : IsTrue (is_dollar_line catalogue_card)
  pub text_is : IsCatalogueText version text deck.catalogue
  pub text_fits : AllByRecursion (IsLineWithin 5000) text
  pub stream_begins : IsCard 5000 card.Stream [] stream_card
  pub stream_is : SpellsStream stream deck.cards.asked
  pub stops : IsCard 200 card.Stop [] stop_card
  pub ends : deck.cards.ending ≡ Stopped
