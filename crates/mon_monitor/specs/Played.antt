-- What events do (own): each prints printouts and leaves a system. Memory may break turns off, as the marks say.
use Rattle.std.specs.Prelude.{ℕ, List, [], ◌∷◌, ◌++◌, Result, Ok, Err, map, replicate}
use Rattle.deck_lines.specs.declared.command.Command.{Command}
use Rattle.mon_command.specs.Commanded.{answered, printed}
use Rattle.deck_syntax.specs.declared.job_deck.JobDeck.{JobDeck}
use Rattle.load_refusal.specs.declared.load_error.LoadError.{LoadError}
use Rattle.scheduler.specs.Marks.{Marks, Past, until, never, rounds_until, is_done, has_free_slot}
use Rattle.scheduler.specs.Loads.{job_loaded}
use Rattle.mon_monitor.specs.SystemStates.{SystemState}
use Rattle.mon_monitor.specs.Events.{Event, Serve, Load, Give, Drain}
use Rattle.mon_monitor.specs.Printouts.{Printout, OfCommand, OfJob, OfRefused}

-- the printouts in order; what is left; and the marks that no turn took
pub record Played : Type 0 where
  pub printouts : List Printout
  pub after : SystemState
  pub marks : Marks

-- turns print what the jobs print that end in them
abbrev pub of_turns : SystemState → Past → Played
of_turns w p = record { printouts = map OfJob (map (λ e. e.1) p.ends); after = record w { scheduler = p.after }; marks = p.marks }

-- a job is loaded into the lowest free slot, or refused
abbrev pub of_loading : JobDeck → Marks → SystemState → Played
of_loading deck m w =
    let l = job_loaded w.accounts deck w.scheduler.slots in
    let refused : List Printout = elim l.0 [ Ok slot ↦ [] | Err refusal ↦ OfRefused deck.number deck.account refusal ∷ [] ] in
    record { printouts = refused; after = record w { scheduler = record (w.scheduler) { slots = l.1 } }; marks = m }

-- one event and then another
abbrev pub then_played : Played → (Marks → SystemState → Played) → Played
then_played p next = let later = next p.marks p.after in record later { printouts = p.printouts ++ later.printouts }

-- one event. Where no slot is free for a job, turns are given in rounds until one is.
abbrev pub happened : Event → Marks → SystemState → Played
happened (Serve command) m w =
    let s = answered w.accounts w.scheduler.sets command in
    record { printouts = OfCommand (printed command s.answer) ∷ []; after = record w { scheduler = record (w.scheduler) { sets = s.sets } }; marks = m }
happened (Load deck) m w = then_played (of_turns w (rounds_until has_free_slot m w.scheduler)) (of_loading deck)
happened (Give slot count) m w = of_turns w (until never (replicate count slot) m w.scheduler)
happened Drain m w = of_turns w (rounds_until is_done m w.scheduler)

-- events in order
abbrev pub played : List Event → Marks → SystemState → Played
played [] m w = record { printouts = []; after = w; marks = m }
played (event ∷ events) m w = then_played (happened event m w) (played events)

-- FOR THE CODE AND FOR LAWS: what loading a job answers, and leaves
abbrev pub loading : JobDeck → SystemState → Result ℕ LoadError × SystemState
loading deck w =
    let l = job_loaded w.accounts deck w.scheduler.slots in
    (l.0, record w { scheduler = record (w.scheduler) { slots = l.1 } })
