-- What the calls of a run promise (own): what happens is what happens where memory is never short.
use Rattle.std.specs.Prelude.{◌≡◌, ◌≢◌, ℕ, suc, ◌+◌, List, [], ◌∷◌, ◌++◌}
use Rattle.std.specs.List.{AllByRecursion}
use Rattle.mon_device.specs.Putting.{Standing, Puts}
use Rattle.sno_run.specs.declared.ending.Ending.TheVariants.{Memory}
use Rattle.job_end.specs.declared.job_end.JobEnd.{JobEnd}
use Rattle.mon_monitor.specs.SystemStates.{SystemState}
use Rattle.mon_monitor.specs.Events.{Event}
use Rattle.mon_monitor.specs.Printouts.{printouts_text}
use Rattle.mon_monitor.specs.Played.{happened, played}
use Rattle.mon_monitor.specs.Audit.{event_lines, audit_of}
use Rattle.deck_syntax.specs.Decks.{Asked, Drains}
use Rattle.deck_syntax.specs.Sections.{Open}
use Rattle.deck_syntax.specs.declared.stream_reader.Event.{Event as Brought}
use Rattle.deck_syntax.specs.Events.{event_in, open_after}
use Rattle.deck_driver.specs.RunStates.{events_of}
use Rattle.deck_run.specs.Laws.{jobs_in}
use Rattle.preflight.specs.inner.Reading.{asks_of}

-- An event happened: so much is printed behind what was there before, this system is left, and its lines were put to an audit, whose sink
-- stands as a says before and as b says then.
pub record HappensTo (event : Event) (w : SystemState) (before : List ℕ) (w' : SystemState) (after : List ℕ) (a b : Standing) : Type 0 where
  pub printed : after ≡ before ++ printouts_text (happened event [] w).printouts
  pub left : (happened event [] w).after ≡ w'
  pub audited : Puts a b (event_lines event [] w)

-- so did events one after the other
pub record PlaysTo (events : List Event) (w : SystemState) (before : List ℕ) (w' : SystemState) (after : List ℕ) (a b : Standing) : Type 0 where
  pub printed : after ≡ before ++ printouts_text (played events [] w).printouts
  pub left : (played events [] w).after ≡ w'
  pub audited : Puts a b (audit_of events [] w)

-- none of these jobs ended for want of memory
abbrev pub AreWhole : List JobEnd → Type 0
AreWhole ends = AllByRecursion (λ end. end.ending ≢ Memory) ends

-- ---- how far a text was run

-- so many jobs ran so far, this is still asked, this is the system, this is printed, and so the audit's sink stands
pub record Place : Type 0 where
  pub jobs : ℕ
  pub asked : List Asked
  pub system : SystemState
  pub printed : List ℕ
  pub standing : Standing

abbrev pub place : ℕ → List Asked → SystemState → List ℕ → Standing → Place
place jobs asked system printed standing = record { jobs = jobs; asked = asked; system = system; printed = printed; standing = standing }

-- what is asked for, and then all jobs come to their ends
abbrev pub asked_events : ℕ → List Asked → List Event
asked_events jobs asked = events_of (suc jobs) (asked ++ Drains ∷ [])

-- so it ends, from this place on
abbrev pub EndsAt : Place → SystemState → List ℕ → Standing → Type 0
EndsAt p w after c = PlaysTo (asked_events p.jobs p.asked) p.system p.printed w after p.standing c

-- how the later place ends, the earlier does; and it counts the same jobs
pub record Reaches (p q : Place) : Type 0 where
  pub ends : (w : SystemState) (after : List ℕ) (c : Standing) → EndsAt q w after c → EndsAt p w after c
  pub counted : p.jobs + jobs_in p.asked ≡ q.jobs + jobs_in q.asked

-- what an event brings: whatever is asked behind it is still asked
abbrev pub Brings : Brought → ℕ → SystemState → List ℕ → Standing → ℕ → SystemState → List ℕ → Standing → Type 0
Brings event jobs w before a jobs' w' after b =
    (later : List Asked) → Reaches (place jobs (asks_of event ++ later) w before a) (place jobs' later w' after b)

-- what lines ask for, where this is open
abbrev pub asked_ahead : Open → List (List ℕ) → List Asked
asked_ahead pending [] = []
asked_ahead pending (line ∷ ls) = asks_of (event_in pending line) ++ asked_ahead (open_after pending line) ls
