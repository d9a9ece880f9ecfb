-- Jobs by other numbers (own): what is told of each has its new number in the place of the old one.
use Rattle.std.specs.Prelude.{ℕ}
use Rattle.deck_syntax.specs.declared.job_deck.JobDeck.{JobDeck}
use Rattle.job_end.specs.declared.job_end.JobEnd.{JobEnd}
use Rattle.scheduler.specs.Exchanged.{Exchanged}
use Rattle.mon_monitor.specs.Events.{Event, Serve, Load, Give, Drain}
use Rattle.mon_monitor.specs.Printouts.{Printout, OfCommand, OfJob, OfRefused}
use Rattle.mon_monitor.specs.History.{Entry, Entered, Refused, Asked, Ended, Ordered}

abbrev pub deck_as : (ℕ → ℕ) → JobDeck → JobDeck
deck_as f deck = record deck { number = f deck.number }

abbrev pub event_as : (ℕ → ℕ) → Event → Event
event_as f (Serve command) = Serve command
event_as f (Load deck) = Load (deck_as f deck)
event_as f (Give slot count) = Give slot count
event_as f Drain = Drain

abbrev pub end_as : (ℕ → ℕ) → JobEnd → JobEnd
end_as f end = record end { number = f end.number }

abbrev pub printout_as : (ℕ → ℕ) → Printout → Printout
printout_as f (OfCommand text) = OfCommand text
printout_as f (OfJob end) = OfJob (end_as f end)
printout_as f (OfRefused n account refusal) = OfRefused (f n) account refusal

abbrev pub exchanged_as : (ℕ → ℕ) → Exchanged → Exchanged
exchanged_as f e = record e { number = f e.number }

abbrev pub entry_as : (ℕ → ℕ) → Entry → Entry
entry_as f (Entered deck) = Entered (deck_as f deck)
entry_as f (Refused deck refusal) = Refused (deck_as f deck) refusal
entry_as f (Asked e) = Asked (exchanged_as f e)
entry_as f (Ended end) = Ended (end_as f end)
entry_as f (Ordered known sets command answer) = Ordered known sets command answer
