-- What one line does, with some marks for the turns in it, and whatever marks and lines follow: to what is printed, and to an audit, whose
-- sink stands as a says before and as b says then.
use Rattle.std.specs.Prelude.{◌≡◌, ℕ, ◌+◌, Bool, false, Option, Some, None, List, ◌∷◌, ◌++◌}
use Rattle.std.specs.declared.alloc.Global.{Global}
use Rattle.std.specs.declared.rc.Rc.{Rc}
use Rattle.mon_catalogue.specs.Sets.{Sets}
use Rattle.mon_device.specs.Putting.{Standing, Puts}
use Rattle.scheduler.specs.Marks.{Marks}
use Rattle.mon_monitor.specs.declared.monitor.Monitor.{Monitor}
use Rattle.mon_monitor.specs.SystemStates.{SystemState, first_system}
use Rattle.mon_monitor.specs.Abstraction.{system_of}
use Rattle.deck_syntax.specs.Decks.{Cards as AllCards}
use Rattle.deck_syntax.specs.Sections.{stopped}
use Rattle.deck_syntax.specs.declared.front_reader.Front.{Front}
use Rattle.deck_syntax.specs.declared.stream_reader.StreamReader.TheVariants.{Cards}
use Rattle.deck_syntax.specs.declared.stream_reader.Event.{Event}
use Rattle.deck_syntax.specs.declared.stream_reader.Event.TheVariants as event
use Rattle.deck_syntax.specs.Events.{event_then}
use Rattle.deck_driver.specs.declared.options.Counts.{Counts}
use Rattle.deck_driver.specs.declared.options.Options.{Options}
use Rattle.deck_driver.specs.declared.section.Section.TheVariants as section
use Rattle.deck_driver.specs.declared.section.DeckState.{DeckState}
use Rattle.deck_driver.specs.declared.section.DeckState.TheVariants as state
use Rattle.deck_driver.specs.RunStates.{over, nothing_counted}
use Rattle.deck_driver.specs.Printouts.{ReadsBack, answer_to}
use Rattle.deck_driver.specs.Audits.{told_to, told_from}
use Rattle.deck_driver.specs.Feeds.{Conclusion, outcome, outcome_of, sets_left, behind, Begins}

-- a line was taken
pub record TookLine (options : Options) (s : DeckState) (line before : List ℕ) (counts : Counts) (s' : DeckState) (after : List ℕ) (counts' : Counts) (a b : Standing) : Type 0 where
  pub marks : Marks
  pub is : (rest : Marks) → (n : ℕ) → (ls : List (List ℕ))
      → behind after counts' (outcome options counts'.jobs rest s' (n + 1) ls) ≡ behind before counts (outcome options counts.jobs (marks ++ rest) s n (line ∷ ls))
  pub lines : List ℕ
  pub tells : (rest : Marks) → (n : ℕ) → (ls : List (List ℕ))
      → told_from options counts.jobs (marks ++ rest) s n (line ∷ ls) ≡ lines ++ told_from options counts'.jobs rest s' (n + 1) ls
  pub audited : Puts a b lines

-- memory ran out within a line, or it was refused: a beginning of what it tells was put to the audit
pub record LineBreaks (options : Options) (s : DeckState) (line : List ℕ) (counts : Counts) (a b : Standing) : Type 0 where
  pub marks : Marks
  pub lines : List ℕ
  pub tells : (rest : Marks) → (n : ℕ) → (ls : List (List ℕ)) → Begins lines (told_from options counts.jobs (marks ++ rest) s n (line ∷ ls))
  pub audited : Puts a b lines

-- the system, where the deck's stream is read
abbrev pub monitor_in : DeckState → Option Monitor
monitor_in (state.Reading (section.Stream r w)) = Some w
monitor_in _ = None

-- its front is read
abbrev pub IsFront : DeckState → Type 0
IsFront (state.Reading (section.Front r)) = Unit {0}
IsFront _ = ⊥

-- a stream begins over what was read before it
abbrev pub IsOver : ℕ → Front → DeckState → Type 0
IsOver slots front s = (w : Monitor) × (s ≡ state.Reading (section.Stream Cards w)) × (system_of w ≡ first_system slots front.accounts front.catalogue)

-- the deck does not end by this
abbrev pub GoesOn : Event → Type 0
GoesOn event.Stops = ⊥
GoesOn _ = Unit {0}

-- how an event counts
abbrev pub counted_by : Event → Counts
counted_by (event.Asks command) = record { jobs = 0; commands = 1 }
counted_by (event.Enters job) = record { jobs = 1; commands = 0 }
counted_by _ = nothing_counted

-- what a line brings happened
pub record Served (check : Bool) (e : Event) (w : SystemState) (before : List ℕ) (counts : Counts) (w' : SystemState) (after : List ℕ) (counts' : Counts) (a b : Standing) : Type 0 where
  pub marks : Marks
  pub is : (rest : Marks) → (others : AllCards)
      → behind after counts' (outcome_of check counts'.jobs rest (over w' others)) ≡ behind before counts (outcome_of check counts.jobs (marks ++ rest) (over w (event_then e others)))
  pub lines : List ℕ
  pub tells : (rest : Marks) → (others : AllCards) → told_to check counts.jobs (marks ++ rest) (over w (event_then e others)) ≡ lines ++ told_to check counts'.jobs rest (over w' others)
  pub audited : Puts a b lines

-- or memory ran out meanwhile
pub record ServeBreaks (check : Bool) (e : Event) (w : SystemState) (jobs : ℕ) (a b : Standing) : Type 0 where
  pub marks : Marks
  pub lines : List ℕ
  pub tells : (rest : Marks) → (others : AllCards) → Begins lines (told_to check jobs (marks ++ rest) (over w (event_then e others)))
  pub audited : Puts a b lines

-- `$STOP` came, behind so many jobs, and these data sets are left
pub record Stopping (check : Bool) (jobs : ℕ) (w : SystemState) (before : List ℕ) (left : Sets) (after : List ℕ) (a b : Standing) : Type 0 where
  pub marks : Marks
  pub written : (rest : Marks) → after ≡ before ++ answer_to check jobs (marks ++ rest) (over w stopped)
  pub sets : (rest : Marks) → left ≡ sets_left check jobs (marks ++ rest) (over w stopped)
  pub lines : List ℕ
  pub tells : (rest : Marks) → told_to check jobs (marks ++ rest) (over w stopped) ≡ lines
  pub audited : Puts a b lines

-- or memory ran out meanwhile
pub record StopBreaks (check : Bool) (jobs : ℕ) (w : SystemState) (a b : Standing) : Type 0 where
  pub marks : Marks
  pub lines : List ℕ
  pub tells : (rest : Marks) → Begins lines (told_to check jobs (marks ++ rest) (over w stopped))
  pub audited : Puts a b lines

-- `$STOP` came where the deck's stream was read
abbrev pub StopsAt : Bool → Option Monitor → List ℕ → DeckState → List ℕ → Standing → Standing → Type 0
StopsAt check (Some w) before s' after a b =
    (sets : Rc Sets Global) × (s' ≡ state.Stopped sets) × ((jobs : ℕ) → Stopping check jobs (system_of w) before sets.value after a b) × (check ≡ false → ReadsBack sets.value)
StopsAt check None before s' after a b = Unit {0}

-- what the last lines come to, from number n on: this was put out, and so the deck came out
pub record Ended (options : Options) (s : DeckState) (n : ℕ) (ls : List (List ℕ)) (before : List ℕ) (counts : Counts) (after : List ℕ) (conclusion : Conclusion) (a b : Standing) : Type 0 where
  pub marks : Marks
  pub is : (rest : Marks) → behind before counts (outcome options counts.jobs (marks ++ rest) s n ls) ≡ record { written = after; conclusion = conclusion }
  pub lines : List ℕ
  pub tells : (rest : Marks) → told_from options counts.jobs (marks ++ rest) s n ls ≡ lines
  pub audited : Puts a b lines

-- what they come to begins so
pub record EndBegun (options : Options) (s : DeckState) (n : ℕ) (ls : List (List ℕ)) (before : List ℕ) (counts : Counts) (after : List ℕ) (a b : Standing) : Type 0 where
  pub marks : Marks
  pub is : (rest : Marks) → Begins after (behind before counts (outcome options counts.jobs (marks ++ rest) s n ls)).written
  pub lines : List ℕ
  pub tells : (rest : Marks) → Begins lines (told_from options counts.jobs (marks ++ rest) s n ls)
  pub audited : Puts a b lines
