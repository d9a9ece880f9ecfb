-- What is written (own): the printouts of all events, and then the catalogue as it stands.
use Rattle.std.specs.Prelude.{◌≡◌, ℕ, Bool, true, List, [], ◌++◌, codes, if◌then◌else◌}
use Rattle.std.specs.List.{flat_map}
use Rattle.std.specs.Str.Lines.{lines}
use Rattle.mon_catalogue.specs.declared.version.Version.TheVariants.{Two}
use Rattle.mon_catalogue.specs.Sets.{Sets}
use Rattle.mon_catalogue.specs.Text.{catalogue_text}
use Rattle.mon_catalogue.specs.Progress.{is_due, loaded}
use Rattle.mon_catalogue.specs.Stored.{ArePrintable}
use Rattle.scheduler.specs.Marks.{Marks}
use Rattle.mon_monitor.specs.Printouts.{printout_text}
use Rattle.deck_syntax.specs.Decks.{Ending, Stopped, Refused}
use Rattle.deck_syntax.specs.Sections.{sets_of}
use Rattle.deck_driver.specs.declared.options.Options.{Options}
use Rattle.deck_driver.specs.RunStates.{RunState, run_state_of, events_in}
use Rattle.mon_monitor.specs.Played.{played}

-- a deck that was not refused gives its data sets back as a deck has them: behind the card that opens their section
abbrev pub closing : Sets → Ending → List ℕ
closing sets ending = elim ending [ Stopped ↦ codes "$CATALOGUE 2\n" ++ catalogue_text sets | Refused n code ↦ [] ]

-- The bytes that are written of these data sets, cut into lines, are read as these data sets and end none of them too early, so that each
-- name, list and record is one (`ReadBackIsStored` of deck_run); and so they are in a deck, as each record is printable.
pub record ReadsBack (sets : Sets) : Type 0 where
  pub whole : is_due (loaded Two (lines (catalogue_text sets))) ≡ true
  pub same : sets_of (loaded Two (lines (catalogue_text sets))) ≡ sets
  pub printable : ArePrintable sets

-- the output of a deck that is run, from here on, behind so many jobs
abbrev pub output_of_run_state : ℕ → Marks → RunState → List ℕ
output_of_run_state jobs m s =
    let p = played (events_in jobs s) m s.system in flat_map printout_text p.printouts ++ closing p.after.scheduler.sets s.cards.ending

-- what a deck is answered, where it is only to be checked or is to be run
abbrev pub answer_to : Bool → ℕ → Marks → RunState → List ℕ
answer_to check jobs m s = if check then elim s.cards.ending [ Stopped ↦ codes "DECK OK\n" | Refused n code ↦ [] ] else output_of_run_state jobs m s

-- what is written for these bytes, where memory breaks turns off as the marks say
abbrev pub output_of : Options → Marks → List ℕ → List ℕ
output_of options m bytes = answer_to options.check 0 m (run_state_of options bytes)
