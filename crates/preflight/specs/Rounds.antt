-- A round's deck (own): an account table, a catalogue as it was written, and the texts that were handed in, one after the
-- other. Behind each stands `$DRAIN`: its jobs have ended before the next text begins.
use Rattle.std.specs.Prelude.{ℕ, List, [], ◌∷◌, ◌++◌, codes}
use Rattle.std.specs.List.{AllByRecursion}
use Rattle.mon_access.specs.declared.account.Account.{Account}
use Rattle.mon_catalogue.specs.Sets.{Sets}
use Rattle.mon_catalogue.specs.Text.{catalogue_lines}
use Rattle.deck_syntax.specs.Decks.{Deck, Asked, Drains, Stopped}
use Rattle.preflight.specs.Examined.{IsSubmission}

-- a text that was handed in: for this account, these lines, which ask for this
pub record Handed : Type 0 where
  pub own : List ℕ
  pub lines : List (List ℕ)
  pub asked : List Asked

abbrev pub IsHanded : Handed → Type 0
IsHanded text = IsSubmission text.own text.lines text.asked

abbrev pub AreHanded : List Handed → Type 0
AreHanded texts = AllByRecursion IsHanded texts

abbrev pub stream_lines : List Handed → List (List ℕ)
stream_lines [] = []
stream_lines (text ∷ texts) = text.lines ++ codes "$DRAIN" ∷ stream_lines texts

abbrev pub stream_asks : List Handed → List Asked
stream_asks [] = []
stream_asks (text ∷ texts) = text.asked ++ Drains ∷ stream_asks texts

abbrev pub round_lines : List (List ℕ) → Sets → List Handed → List (List ℕ)
round_lines table sets texts =
    codes "$ACCOUNTS" ∷ table ++ (codes "$CATALOGUE 2" ∷ catalogue_lines sets ++ (codes "$STREAM" ∷ stream_lines texts ++ codes "$STOP" ∷ []))

abbrev pub round_deck : List Account → Sets → List Handed → Deck
round_deck accounts sets texts = record { accounts = accounts; catalogue = sets; cards = record { asked = stream_asks texts; ending = Stopped } }
