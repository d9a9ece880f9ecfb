-- The deck of a round, as bytes (own): the accounts, the data sets as they are written, each text with a fence behind it, and
-- `$STOP`. Behind the fence no job is left, so that each text runs alone.
use Rattle.std.specs.Prelude.{◌≡◌, ℕ, ◌-◌, List, [], ◌∷◌, ◌++◌, length, take, drop, codes}
use Rattle.std.specs.List.{flat_map}
use Rattle.mon_access.specs.declared.account.Account.{Account}
use Rattle.mon_access.specs.Accounts.{HaveDifferentNames}
use Rattle.mon_catalogue.specs.Sets.{Sets}
use Rattle.mon_catalogue.specs.Stored.{IsStored, ArePrintable}
use Rattle.mon_catalogue.specs.Text.{text_of}
use Rattle.scheduler.specs.Marks.{Marks}
use Rattle.mon_monitor.specs.Printed.{given_back}
use Rattle.deck_syntax.specs.Spelling.{SpellsAccounts}
use Rattle.deck_driver.specs.declared.options.Options.{Options}
use Rattle.deck_driver.specs.Printouts.{output_of}
use Rattle.preflight.specs.declared.submission.Submission.{Submission}
use Rattle.preflight.specs.Rounds.{Handed, IsHanded}

-- the card behind each text: all jobs come to their ends before the next text begins
abbrev pub fence : List ℕ
fence = codes "$DRAIN\n"

abbrev pub with_fence : Submission → List ℕ
with_fence submission = submission.text.items ++ fence

-- accounts as a table has them, and data sets as they are given back
abbrev pub head_text : List ℕ → Sets → List ℕ
head_text table sets = codes "$ACCOUNTS\n" ++ (table ++ (given_back sets ++ codes "$STREAM\n"))

-- behind such a head, the texts
abbrev pub front_text : List ℕ → List Submission → List ℕ
front_text head submissions = head ++ flat_map with_fence submissions

abbrev pub round_text : List ℕ → List Submission → List ℕ
round_text head submissions = front_text head submissions ++ codes "$STOP\n"

-- each text is that of lines that were handed in
abbrev pub AreAdmitted : List Submission → List Handed → Type 0
AreAdmitted [] [] = Unit {0}
AreAdmitted [] (text ∷ texts) = ⊥
AreAdmitted (submission ∷ submissions) [] = ⊥
AreAdmitted (submission ∷ submissions) (text ∷ texts) = (submission.text.items ≡ text_of text.lines) × IsHanded text × AreAdmitted submissions texts

-- a head of good accounts, and of data sets that can be written
pub record IsGoodHead (head : List ℕ) (table : List (List ℕ)) (accounts : List Account) (sets : Sets) : Type 0 where
  pub head_is : head ≡ head_text (text_of table) sets
  pub table_is : SpellsAccounts table accounts
  pub names_differ : HaveDifferentNames accounts
  pub stored : IsStored sets
  pub printable : ArePrintable sets

-- such a head, and texts that were admitted
pub record IsGoodRound (head : List ℕ) (submissions : List Submission) (table : List (List ℕ)) (accounts : List Account) (sets : Sets) (texts : List Handed) : Type 0 where
  pub begins : IsGoodHead head table accounts sets
  pub texts_are : AreAdmitted submissions texts

-- ---- whose is which part of the output

-- where the printout of each text ends: where the output of the deck ends that is cut behind its fence
abbrev pub ends_of : Options → Marks → List ℕ → List Submission → List ℕ
ends_of options m front [] = []
ends_of options m front (submission ∷ submissions) =
    let here = front ++ with_fence submission in length (output_of options m here) ∷ ends_of options m here submissions

-- a text, cut at these places, from this one on
abbrev pub cut_at : ℕ → List ℕ → List ℕ → List (List ℕ)
cut_at begin [] text = drop begin text ∷ []
cut_at begin (end ∷ ends) text = take (end - begin) (drop begin text) ∷ cut_at end ends text
