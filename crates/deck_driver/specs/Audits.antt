-- What an audit is told of a deck (own): the lines of all that happens in it; none, where the deck is only to be checked.
use Rattle.std.specs.Prelude.{ℕ, Bool, List, [], if◌then◌else◌}
use Rattle.std.specs.List.{flat_map}
use Rattle.scheduler.specs.Marks.{Marks}
use Rattle.mon_monitor.specs.History.{history}
use Rattle.mon_monitor.specs.Audit.{audit_line, audit_of}
use Rattle.deck_driver.specs.declared.options.Options.{Options}
use Rattle.deck_driver.specs.declared.section.DeckState.{DeckState}
use Rattle.deck_driver.specs.declared.section.DeckState.TheVariants as state
use Rattle.deck_driver.specs.RunStates.{RunState, run_state_of, events_in}
use Rattle.deck_driver.specs.Feeds.{run_state_from}

-- THE AUDIT of these bytes, where memory breaks turns off as the marks say: the lines of each entry of the history, in its order
abbrev pub audit_for : Options → Marks → List ℕ → List ℕ
audit_for options m bytes = let s = run_state_of options bytes in if options.check then [] else flat_map audit_line (history (events_in 0 s) m s.system)

-- FROM THE MIDDLE OF A DECK ON

-- of a run_state, behind so many jobs
abbrev pub told_to : Bool → ℕ → Marks → RunState → List ℕ
told_to check jobs m s = if check then [] else audit_of (events_in jobs s) m s.system

-- of the lines from number n on, behind so many jobs
abbrev pub told_from : Options → ℕ → Marks → DeckState → ℕ → List (List ℕ) → List ℕ
told_from options jobs m (state.Reading section) n ls = told_to options.check jobs m (run_state_from options.slots.number section n ls)
told_from options jobs m (state.Stopped sets) n ls = []
told_from options jobs m (state.Refused k code) n ls = []
told_from options jobs m state.NoMemory n ls = []
