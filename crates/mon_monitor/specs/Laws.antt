-- What holds of all events, whatever the system and the marks are. Each is the contract of a function in `laws`.
use Rattle.std.specs.Prelude.{◌≡◌, ◌≢◌, ℕ, List, [], ◌++◌, length, None, Err}
use Rattle.std.specs.List.{AllByRecursion}
use Rattle.sno_run.specs.declared.ending.Ending.TheVariants.{Memory}
use Rattle.deck_lines.specs.declared.command.Command.{Command}
use Rattle.deck_syntax.specs.declared.job_deck.JobDeck.{JobDeck}
use Rattle.load_refusal.specs.declared.load_error.LoadError.TheVariants.{NoSlot}
use Rattle.scheduler.specs.States.{job_in}
use Rattle.scheduler.specs.Marks.{Marks, room}
use Rattle.mon_monitor.specs.SystemStates.{SystemState, with_scheduler}
use Rattle.mon_monitor.specs.Events.{Event, Serve, Drain}
use Rattle.mon_monitor.specs.Printouts.{Printout, OfCommand, OfJob, OfRefused, printouts_text}
use Rattle.mon_monitor.specs.Played.{Played, loading, then_played, happened, played}

-- events, and then others
abbrev pub CardByCard : Type 0
CardByCard = (E F : List Event) (m : Marks) (w : SystemState) → played (E ++ F) m w ≡ then_played (played E m w) (played F)

abbrev pub PrintedInOrder : Type 0
PrintedInOrder = (E F : List Event) (m : Marks) (w : SystemState)
    → (let p = played E m w in
    printouts_text (played (E ++ F) m w).printouts ≡ printouts_text p.printouts ++ printouts_text (played F p.marks p.after).printouts)

-- not that a job has ended for want of memory
abbrev pub NotByMemory : Printout → Type 0
NotByMemory (OfCommand text) = Unit
NotByMemory (OfJob end) = end.ending ≢ Memory
NotByMemory (OfRefused n account refusal) = Unit

-- without marks
pub record AsUnmarked (p q : Played) : Type 0 where
  pub printouts : p.printouts ≡ q.printouts
  pub after : p.after ≡ q.after

abbrev pub PlayedUnmarked : Type 0
PlayedUnmarked = (E : List Event) (m : Marks) (w : SystemState) → AllByRecursion NotByMemory (played E m w).printouts → AsUnmarked (played E m w) (played E [] w)

abbrev pub DrainEmpties : Type 0
DrainEmpties = (m : Marks) (w : SystemState) (s : ℕ) → job_in s (happened Drain m w).after.scheduler ≡ None

-- what is answered of a job that enters
abbrev pub LoadHasRoom : Type 0
LoadHasRoom = (deck : JobDeck) (m : Marks) (w : SystemState) → length w.scheduler.slots ≢ 0 → (loading deck (with_scheduler w (room m w.scheduler).after)).0 ≢ Err NoSlot

pub record OnlySets (p : Played) (m : Marks) (w : SystemState) : Type 0 where
  pub slots : p.after.scheduler.slots ≡ w.scheduler.slots
  pub marks : p.marks ≡ m

abbrev pub CommandsKeepSlots : Type 0
CommandsKeepSlots = (command : Command) (m : Marks) (w : SystemState) → OnlySets (happened (Serve command) m w) m w

abbrev pub AccountsStay : Type 0
AccountsStay = (E : List Event) (m : Marks) (w : SystemState) → (played E m w).after.accounts ≡ w.accounts

abbrev pub SlotsStay : Type 0
SlotsStay = (E : List Event) (m : Marks) (w : SystemState) → length (played E m w).after.scheduler.slots ≡ length w.scheduler.slots
