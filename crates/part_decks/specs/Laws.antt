-- The decks of parts, as they are written (own).
use Rattle.std.specs.Prelude.{◌≡◌, ℕ, false, List, [], ◌∷◌, ◌++◌, codes}
use Rattle.mon_access.specs.declared.account.Account.{Account}
use Rattle.mon_access.specs.Accounts.{HaveDifferentNames}
use Rattle.mon_catalogue.specs.Sets.{Sets}
use Rattle.mon_catalogue.specs.Stored.{IsStored, ArePrintable}
use Rattle.mon_catalogue.specs.Text.{text_of}
use Rattle.scheduler.specs.Marks.{Marks}
use Rattle.deck_syntax.specs.Spelling.{SpellsAccounts}
use Rattle.deck_driver.specs.declared.options.Options.{Options}
use Rattle.preflight.specs.declared.submission.Submission.{Submission}
use Rattle.preflight.specs.Rounds.{Handed}
use Rattle.parts_laws.specs.Runs.{Split}
use Rattle.rounds.specs.Compositions.{AreAdmitted, round_text}
use Rattle.round_parts.specs.Outputs.{set_text}
use Rattle.job_numbers.specs.Alone.{RunsAlone}
use Rattle.deck_parts.specs.declared.deck.SetText.{SetText}
use Rattle.deck_parts.specs.declared.deck.Whole.{Whole}
use Rattle.deck_parts.specs.PartDecks.{deck_of_part}

-- each data set by its name, as a catalogue has it
abbrev pub AreSets : List SetText → Sets → Type 0
AreSets [] [] = Unit {0}
AreSets [] (named ∷ sets) = ⊥
AreSets (text ∷ texts) [] = ⊥
AreSets (text ∷ texts) (named ∷ sets) = (text.name ≡ named.0) × (text.text.items ≡ set_text named.0 named.1) × AreSets texts sets

-- a deck that was taken apart is that of a good round: of these accounts and data sets, and of texts that were handed in
pub record IsRound (whole : Whole) (table : List (List ℕ)) (accounts : List Account) (sets : Sets) (handed : List Handed) : Type 0 where
  pub front_is : whole.front.items ≡ codes "$ACCOUNTS\n" ++ (text_of table ++ codes "$CATALOGUE 2\n")
  pub table_is : SpellsAccounts table accounts
  pub names_differ : HaveDifferentNames accounts
  pub sets_are : AreSets whole.sets.items sets
  pub stored : IsStored sets
  pub printable : ArePrintable sets
  pub texts_are : AreAdmitted whole.texts.items handed

-- what is written for a part is the deck of a round, which run by itself writes what is told of the part
pub record IsWritten (options : Options) (accounts : List Account) (split : Split (List ℕ)) (handed : List Handed) (sets : Sets) (marks : ℕ → Marks)
    (k : ℕ) (whole : Whole) : Type 0 where
  pub head : List ℕ
  pub texts : List Submission
  pub deck_is : deck_of_part split k whole ≡ round_text head texts
  pub alone : RunsAlone options accounts split handed sets marks k head texts

abbrev pub PartsAreWritten : Type 0
PartsAreWritten = (options : Options) (whole : Whole) (table : List (List ℕ)) (accounts : List Account) (sets : Sets) (handed : List Handed)
    (split : Split (List ℕ)) (marks : ℕ → Marks) (k : ℕ) → options.check ≡ false → IsRound whole table accounts sets handed
    → IsWritten options accounts split handed sets marks k whole
