-- Jobs on data sets of their own print the same, however a deck gives them turns (own). Nothing is claimed of the order in which
-- they end, of a deck in which a command or a further job comes between the turns, or of one for which memory is short.
use Rattle.std.specs.Prelude.{◌≡◌, ◌⊎◌, ℕ, false, List, [], ◌∷◌, ◌++◌, IsPermutation}
use Rattle.std.specs.List.{AllByRecursion, flat_map}
use Rattle.std.specs.Str.Lines.{lines}
use Rattle.deck_syntax.specs.declared.job_deck.UnitCard.{UnitCard}
use Rattle.job_end.specs.declared.job_end.JobEnd.{JobEnd}
use Rattle.job_end.specs.Printouts.{printout}
use Rattle.scheduler.specs.Marks.{Marks}
use Rattle.mon_monitor.specs.Printouts.{printouts_text}
use Rattle.mon_monitor.specs.Played.{Played}
use Rattle.scheduler.specs.Ties.{Independent}
use Rattle.mon_monitor.specs.Schedules.{EndsAlone}
use Rattle.deck_syntax.specs.declared.job.OpenJob.{OpenJob}
use Rattle.deck_syntax.specs.Decks.{Deck, Asked, Commands, Enters, Gives, Drains, Stopped}
use Rattle.deck_syntax.specs.Sections.{deck_of}
use Rattle.deck_driver.specs.declared.options.Options.{Options}
use Rattle.deck_driver.specs.Printouts.{closing, output_of}
use Rattle.deck_run.specs.Runs.{run_state_of, catalogue_after}
use Rattle.deck_run.specs.Laws.{done}

-- a card that gives turns, and nothing else
abbrev pub GivesTurns : Asked → Type 0
GivesTurns (Commands command) = ⊥
GivesTurns (Enters job) = ⊥
GivesTurns (Gives turn) = Unit {0}
GivesTurns Drains = Unit {0}

-- a deck of these cards, of turns behind them, and of its `$STOP`
pub record EndsInTurns (deck : Deck) (before turns : List Asked) : Type 0 where
  pub asked : deck.cards.asked ≡ before ++ turns
  pub only_turns : AllByRecursion GivesTurns turns
  pub stops : deck.cards.ending ≡ Stopped

-- two decks of one account table and one catalogue, and of the same cards but for the turns behind them
pub record DifferInTurns (before turns others : List Asked) (deck other : Deck) : Type 0 where
  pub accounts : deck.accounts ≡ other.accounts
  pub catalogue : deck.catalogue ≡ other.catalogue
  pub here : EndsInTurns deck before turns
  pub there : EndsInTurns other before others

-- what these cards print and leave, where memory is not short
abbrev pub done_before : Options → List ℕ → List Asked → Played
done_before options bytes before = let run_state = run_state_of options bytes in done 0 before [] run_state.system

-- The outputs are one text up to the turns. Behind it come the printouts of the same jobs, in the one order or the other; each
-- job has ended as it does where its slot alone is given turns; and last comes one catalogue.
pub record SameInAnyTurns (options : Options) (bytes others : List ℕ) (earlier : Played) : Type 0 where
  pub ends : List JobEnd
  pub other_ends : List JobEnd
  pub here : output_of options [] bytes ≡ printouts_text earlier.printouts ++ (flat_map printout ends ++ closing (catalogue_after options [] bytes) Stopped)
  pub there : output_of options [] others ≡ printouts_text earlier.printouts ++ (flat_map printout other_ends ++ closing (catalogue_after options [] others) Stopped)
  pub same : IsPermutation ends other_ends
  pub alone : AllByRecursion (EndsAlone earlier.after.scheduler) ends
  pub catalogue : catalogue_after options [] bytes ≡ catalogue_after options [] others

-- Where no data set is tied by jobs in two slots, it doesn't matter which turns come behind the other cards.
abbrev pub AnyTurns : Type 0
AnyTurns = (options : Options) (bytes others : List ℕ) (before turns other_turns : List Asked) → options.check ≡ false
    → DifferInTurns before turns other_turns (deck_of (lines bytes)) (deck_of (lines others)) → (let earlier = done_before options bytes before in
    Independent earlier.after.scheduler → SameInAnyTurns options bytes others earlier)

-- one of these `$UNIT` cards names the data set
abbrev pub IsNamedOn : List ℕ → List UnitCard → Type 0
IsNamedOn name [] = ⊥
IsNamedOn name (card ∷ cards) = (card.set ≡ name) ⊎ IsNamedOn name cards

-- a card that is no job's, or a job's that names no data set that this one names
abbrev pub SharesNone : OpenJob → Asked → Type 0
SharesNone job (Commands command) = Unit {0}
SharesNone job (Enters other) = (name : List ℕ) → IsNamedOn name job.ties → ¬ IsNamedOn name other.ties
SharesNone job (Gives turn) = Unit {0}
SharesNone job Drains = Unit {0}

-- no two jobs of these cards name one data set
abbrev pub NameApart : List Asked → Type 0
NameApart [] = Unit {0}
NameApart (Commands command ∷ asked) = NameApart asked
NameApart (Enters job ∷ asked) = AllByRecursion (SharesNone job) asked × NameApart asked
NameApart (Gives turn ∷ asked) = NameApart asked
NameApart (Drains ∷ asked) = NameApart asked

-- The cards show it: where no two jobs name one data set, none is tied by jobs in two slots, whatever else the cards ask for.
abbrev pub ApartByTheirCards : Type 0
ApartByTheirCards = (options : Options) (m : Marks) (bytes : List ℕ) (before : List Asked) → NameApart before
    → (let run_state = run_state_of options bytes in
    let earlier = done 0 before m run_state.system in
    Independent earlier.after.scheduler)
