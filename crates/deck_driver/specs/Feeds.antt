-- What comes of a deck from the middle of it on: what was read so far is a section, and the lines that are left are a deck
-- by the same sections, over the system as it stands.
use Rattle.std.specs.Prelude.{◌≡◌, ℕ, ◌==◌, Bool, true, false, not, List, [], ◌∷◌, ◌++◌, length, Option, Some, None, Result, Ok, Err, if◌then◌else◌}
use Rattle.mon_catalogue.specs.Sets.{Sets}
use Rattle.scheduler.specs.Marks.{Marks}
use Rattle.mon_monitor.specs.Abstraction.{system_of}
use Rattle.deck_lines.specs.declared.deck_error.DeckError.{DeckError}
use Rattle.deck_driver.specs.declared.fault.RunError.{RunError}
use Rattle.deck_driver.specs.declared.fault.RunError.TheVariants.{DeckRefused, Memory}
use Rattle.deck_driver.specs.declared.options.Counts.{Counts}
use Rattle.deck_driver.specs.declared.options.Options.{Options}
use Rattle.mon_text.specs.Feeding.{taken_of}
use Rattle.mon_text.specs.declared.stop.Stop.{Stop}
use Rattle.mon_text.specs.declared.stop.Stop.TheVariants as stop
use Rattle.deck_driver.specs.declared.section.Section.{Section}
use Rattle.deck_driver.specs.declared.section.Section.TheVariants as section
use Rattle.deck_driver.specs.declared.section.DeckState.{DeckState}
use Rattle.deck_driver.specs.declared.section.DeckState.TheVariants as state
use Rattle.deck_syntax.specs.Decks.{Ending, Stopped, Refused}
use Rattle.deck_syntax.specs.Sections.{refused_on_line, refused_early}
use Rattle.deck_syntax.specs.Reading.{deck_ahead, accounts_read, lines_read}
use Rattle.deck_syntax.specs.Events.{cards_ahead}
use Rattle.deck_driver.specs.RunStates.{RunState, over, opening, sets_after, nothing_counted, both_counted, all_counted}
use Rattle.deck_driver.specs.Printouts.{answer_to, ReadsBack}

-- the state of the run that the lines from number n on make, where there are so many slots
abbrev pub run_state_from : ℕ → Section → ℕ → List (List ℕ) → RunState
run_state_from slots (section.Front r) n ls = opening slots (deck_ahead r n ls)
run_state_from slots (section.Stream r w) n ls = over (system_of w) (cards_ahead r n ls)

-- the state of the run that line n ends by a refusal
abbrev pub refused_from : ℕ → Section → ℕ → DeckError → RunState
refused_from slots (section.Front r) n code = opening slots (refused_early n code (accounts_read r))
refused_from slots (section.Stream r w) n code = over (system_of w) (refused_on_line n code)

-- how a deck came out: so many jobs and commands and these data sets, or refused at a line
pub data Conclusion : Type 0 where
  Good : Counts → Sets → Conclusion
  Bad : ℕ → DeckError → Conclusion

-- what is written of a deck, and how it comes out
pub record Outcome : Type 0 where
  pub written : List ℕ
  pub conclusion : Conclusion

abbrev pub concluded : Counts → Sets → Ending → Conclusion
concluded counts sets Stopped = Good counts sets
concluded counts sets (Refused n code) = Bad n code

-- a deck that is only read changes no data set
abbrev pub sets_left : Bool → ℕ → Marks → RunState → Sets
sets_left check jobs m s = if check then s.system.scheduler.sets else sets_after jobs m s

-- what comes of a run_state, behind so many jobs
abbrev pub outcome_of : Bool → ℕ → Marks → RunState → Outcome
outcome_of check jobs m s =
    record { written = answer_to check jobs m s; conclusion = concluded (all_counted s.cards.asked) (sets_left check jobs m s) s.cards.ending }

abbrev pub refused_at : ℕ → DeckError → Outcome
refused_at n code = record { written = []; conclusion = Bad n code }

-- where a feed stands after an error
abbrev pub stopped_by : RunError → DeckState
stopped_by (DeckRefused n code) = state.Refused n code
stopped_by _ = state.NoMemory

-- the error that a feed has answered
abbrev pub error_at : DeckState → Option RunError
error_at (state.Refused n code) = Some (DeckRefused n code)
error_at state.NoMemory = Some Memory
error_at _ = None

-- whether a deck is still read
abbrev pub is_reading : DeckState → Bool
is_reading (state.Reading section) = true
is_reading _ = false

-- whether these bytes may take memory: none may behind `$STOP` or a refusal, and want of memory is told again
abbrev pub may_grow : DeckState → List ℕ → Bool
may_grow (state.Reading section) bytes = not (length bytes == 0)
may_grow (state.Stopped sets) bytes = false
may_grow (state.Refused n code) bytes = false
may_grow state.NoMemory bytes = true

-- how many bytes of a piece are taken at once: at most a line; behind `$STOP`, where there are no cards, all
abbrev pub used_by : DeckState → List ℕ → ℕ
used_by (state.Stopped sets) piece = length piece
used_by _ piece = taken_of piece

-- a refused deck, or want of memory
abbrev pub IsOwn : RunError → Type 0
IsOwn (DeckRefused n code) = Unit {0}
IsOwn Memory = Unit {0}
IsOwn _ = ⊥

-- what a refusal of line n, or want of memory, is for the run
abbrev pub fault_at : ℕ → Stop DeckError → RunError
fault_at n (stop.Refused code) = DeckRefused n code
fault_at n stop.Memory = Memory

-- what comes of the lines from number n on, behind so many jobs
abbrev pub outcome : Options → ℕ → Marks → DeckState → ℕ → List (List ℕ) → Outcome
outcome options jobs m (state.Reading section) n ls = outcome_of options.check jobs m (run_state_from options.slots.number section n ls)
outcome options jobs m (state.Stopped sets) n ls = record { written = []; conclusion = Good nothing_counted sets.value }
outcome options jobs m (state.Refused k code) n ls = refused_at k code
outcome options jobs m state.NoMemory n ls = record { written = []; conclusion = Good nothing_counted [] }

abbrev pub more : Counts → Conclusion → Conclusion
more counts (Good others sets) = Good (both_counted counts others) sets
more counts (Bad n code) = Bad n code

-- an outcome, with a text that was written before it, and so many jobs and commands
abbrev pub behind : List ℕ → Counts → Outcome → Outcome
behind text counts later = record { written = text ++ later.written; conclusion = more counts later.conclusion }

-- a text begins with this one
abbrev pub Begins : List ℕ → List ℕ → Type 0
Begins front text = (rest : List ℕ) × (text ≡ front ++ rest)

-- the last of these bytes ends a line
abbrev pub EndsLine : List ℕ → Type 0
EndsLine bytes = (front : List ℕ) × (bytes ≡ front ++ 10 ∷ [])

-- it was answered: memory did not run out
abbrev pub OnAnswer : {T : Type 0} → Result T RunError → Type 0 → Type 0
OnAnswer (Ok x) P = P
OnAnswer (Err (DeckRefused n code)) P = P
OnAnswer (Err _) P = Unit {0}

-- how many lines of the catalogue were taken, where it is still read
abbrev pub lines_loaded : DeckState → ℕ
lines_loaded (state.Reading (section.Front r)) = lines_read r
lines_loaded _ = 0

-- a deck that was run to its end has written data sets that are read back
abbrev pub IsReadBack : Bool → DeckState → Type 0
IsReadBack check (state.Stopped sets) = check ≡ false → ReadsBack sets.value
IsReadBack check _ = Unit {0}
