-- What happens in a deck (own): its stream's cards ask for events, over a system.
use Rattle.std.specs.Prelude.{ℕ, suc, ◌+◌, List, [], ◌∷◌, ◌++◌}
use Rattle.std.specs.Str.Lines.{lines}
use Rattle.mon_catalogue.specs.Sets.{Sets}
use Rattle.scheduler.specs.Marks.{Marks}
use Rattle.mon_monitor.specs.SystemStates.{SystemState, first_system}
use Rattle.mon_monitor.specs.Events.{Event, Serve, Load, Give, Drain}
use Rattle.mon_monitor.specs.Played.{Played, played}
use Rattle.deck_syntax.specs.Decks.{Deck, Cards, Asked, Commands, Enters, Gives, Drains, Ending, Stopped, Refused}
use Rattle.deck_syntax.specs.Jobs.{job_deck_of}
use Rattle.deck_syntax.specs.Sections.{deck_of}
use Rattle.deck_driver.specs.declared.options.Counts.{Counts}
use Rattle.deck_driver.specs.declared.options.Options.{Options}

-- a deck from its stream on: the system, and the cards that are still to come
pub record RunState : Type 0 where
  pub system : SystemState
  pub cards : Cards

abbrev pub over : SystemState → Cards → RunState
over w cards = record { system = w; cards = cards }

-- a deck's stream begins over its accounts and its catalogue, with so many slots
abbrev pub opening : ℕ → Deck → RunState
opening slots deck = record { system = first_system slots deck.accounts deck.catalogue; cards = deck.cards }

-- where the stream of these bytes begins
abbrev pub run_state_of : Options → List ℕ → RunState
run_state_of options bytes = let d = deck_of (lines bytes) in record { system = first_system options.slots.number d.accounts d.catalogue; cards = d.cards }

-- what the cards ask for, where the next job has number k
abbrev pub events_of : ℕ → List Asked → List Event
events_of k [] = []
events_of k (Commands command ∷ asked) = Serve command ∷ events_of k asked
events_of k (Enters job ∷ asked) = Load (job_deck_of k job) ∷ events_of (suc k) asked
events_of k (Gives turn ∷ asked) = Give turn.slot turn.count ∷ events_of k asked
events_of k (Drains ∷ asked) = Drain ∷ events_of k asked

-- all events of a run_state, behind so many jobs; `$STOP` gives all turns that there are to give, and a refusal gives none
abbrev pub events_in : ℕ → RunState → List Event
events_in jobs s = events_of (suc jobs) s.cards.asked ++ elim s.cards.ending [ Stopped ↦ Drain ∷ [] | Refused n code ↦ [] ]

abbrev pub played_run_state : ℕ → Marks → RunState → Played
played_run_state jobs m s = played (events_in jobs s) m s.system

-- the data sets after them
abbrev pub sets_after : ℕ → Marks → RunState → Sets
sets_after jobs m s = let p = played_run_state jobs m s in p.after.scheduler.sets

-- how many jobs and commands there are
abbrev pub all_counted : List Asked → Counts
all_counted [] = record { jobs = 0; commands = 0 }
all_counted (Commands command ∷ asked) = let later = all_counted asked in record later { commands = 1 + later.commands }
all_counted (Enters job ∷ asked) = let later = all_counted asked in record later { jobs = 1 + later.jobs }
all_counted (other ∷ asked) = all_counted asked

abbrev pub nothing_counted : Counts
nothing_counted = record { jobs = 0; commands = 0 }

abbrev pub both_counted : Counts → Counts → Counts
both_counted a b = record { jobs = a.jobs + b.jobs; commands = a.commands + b.commands }
