-- What holds of a site's life: each is the contract of a function in `laws`.
use Rattle.std.specs.Prelude.{◌≡◌, ℕ, false, List, [], ◌∷◌, ◌++◌, map, Some}
use Rattle.std.specs.List.{concat}
use Rattle.mon_access.specs.declared.account.Account.{Account}
use Rattle.mon_monitor.specs.Printed.{given_back}
use Rattle.deck_driver.specs.declared.options.Options.{Options}
use Rattle.deck_driver.specs.Printouts.{output_of}
use Rattle.preflight.specs.Rounds.{Handed}
use Rattle.rounds.specs.Delivery.{delivered}
use Rattle.ledger_laws.specs.Course.{folded, AreHonest}
use Rattle.ledger_run.specs.Meaning.{Event, State, machine_of, start}
use Rattle.ledger_sets.specs.Applying.{Site}
use Rattle.ledger_stretches.specs.Stretches.{Course, run_all, IsStretch, outs_of, texts_in}
use Rattle.ledger_machine.specs.Steps.{text_in, step_over, site_after, slots, site_step}
use Rattle.ledger_machine.specs.Written.{LeavesWrittenBehind}
use Rattle.ledger_machine.specs.Decks.{deck_text, output_behind, StandsAt, AreFiles, site_behind, IsWritten, AreWritten}

-- ONE TEXT: it is run as a text of a round, over the site; and behind what it changed stands the site that it left, if that can be written:
-- a call that ran it saw to that.
pub record StepsSo (behind : List (List ℕ)) (file : List ℕ) (site : Site) (accounts : List Account) (text : Handed) : Type 0 where
  pub is : site_step file behind ≡ step_over site accounts text
  pub stands : IsWritten site accounts text → StandsAt (behind ++ (step_over site accounts text).1 ∷ []) (site_after site accounts text) accounts
  pub ran : LeavesWrittenBehind file behind → StandsAt (behind ++ (step_over site accounts text).1 ∷ []) (site_after site accounts text) accounts

abbrev pub StepsAreTexts : Type 0
StepsAreTexts = (behind : List (List ℕ)) (file : List ℕ) (site : Site) (accounts : List Account) (text : Handed) → StandsAt behind site accounts
    → text_in file ≡ Some text → StepsSo behind file site accounts text

-- texts one after the other
abbrev pub course : List (ℕ × List ℕ) → List (List ℕ) → Course (List ℕ) (List (List ℕ))
course files behind = run_all (machine_of site_step) files behind

-- what all of these printed
abbrev pub text_printed : List (ℕ × List ℕ) → List ℕ
text_printed outs = concat (map (λ out. out.1) outs)

-- They are one deck: each printed what it prints in a round of them all; the deck of them gives these printouts, and the data sets that
-- are left; and the site behind them stands.
pub record AreOneDeck (site : Site) (accounts : List Account) (texts : List Handed) (outs : List (ℕ × List ℕ)) (behind : List (List ℕ)) : Type 0 where
  pub each : map (λ out. out.1) outs ≡ (delivered slots accounts site.jobs [] site.sets texts).printed
  pub deck : (options : Options) → options.check ≡ false → options.slots.number ≡ slots
      → output_behind site.jobs options [] (deck_text site texts) ≡ text_printed outs ++ given_back (site_behind site accounts texts).sets
  pub plain : (options : Options) → options.check ≡ false → options.slots.number ≡ slots → site.jobs ≡ 0
      → output_of options [] (deck_text site texts) ≡ text_printed outs ++ given_back (site_behind site accounts texts).sets
  pub stands : StandsAt behind (site_behind site accounts texts) accounts

abbrev pub StepsAreADeck : Type 0
StepsAreADeck = (files : List (ℕ × List ℕ)) (behind : List (List ℕ)) (site : Site) (accounts : List Account) (texts : List Handed)
    → StandsAt behind site accounts → AreFiles files texts → AreWritten site accounts texts
    → AreOneDeck site accounts texts (course files behind).printed (course files behind).state

-- A SITE'S LIFE: in an honest ledger each stretch of records between two acts of the operator is one deck, of the texts that ran there: over
-- the site behind all records before it.
abbrev pub kept_behind : List Event → State
kept_behind events = folded (machine_of site_step) events start

abbrev pub EachStretchIsADeck : Type 0
EachStretchIsADeck = (before stretch behind : List Event) (site : Site) (accounts : List Account) (texts : List Handed)
    → AreHonest (machine_of site_step) (before ++ (stretch ++ behind)) start → IsStretch stretch
    → StandsAt (kept_behind before).state site accounts
    → AreFiles (texts_in (machine_of site_step) stretch (kept_behind before)) texts → AreWritten site accounts texts
    → AreOneDeck site accounts texts (outs_of stretch) (kept_behind (before ++ stretch)).state
