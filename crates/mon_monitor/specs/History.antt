-- The history (own): the one list of all that jobs ask and commands order, each over the data sets as they stand then, with
-- what was answered; and of the jobs that enter and end. It goes as `played` does: event by event, turn by turn, and all that a
-- turn asks stands together.
use Rattle.std.specs.Prelude.{ℕ, ◌==◌, Bool, false, List, [], ◌∷◌, ◌++◌, length, map, filter, Option, Result, Ok, Err, if◌then◌else◌, drop, replicate}
use Rattle.std.specs.List.{flat_map}
use Rattle.mon_access.specs.declared.account.Account.{Account}
use Rattle.mon_access.specs.Accounts.{find_account}
use Rattle.mon_catalogue.specs.Sets.{Sets}
use Rattle.deck_lines.specs.declared.command.Command.{Command}
use Rattle.deck_lines.specs.Commands.{account_of}
use Rattle.mon_command.specs.Commanded as commands
use Rattle.mon_command.specs.Commanded.{answered, printed}
use Rattle.deck_syntax.specs.declared.job_deck.JobDeck.{JobDeck}
use Rattle.job_end.specs.declared.job_end.JobEnd.{JobEnd}
use Rattle.load_refusal.specs.declared.load_error.LoadError.{LoadError}
use Rattle.job_end.specs.declared.turned.Turned.{Turned}
use Rattle.job_end.specs.declared.turned.Turned.TheVariants as turn
use Rattle.scheduler.specs.States.{SchedulerState, seat_at}
use Rattle.scheduler.specs.Loads.{job_loaded}
use Rattle.scheduler.specs.Marks.{Mark, Marks, mark_of, turn_as, never, rounds, turns_left, rounds_until, is_done, has_free_slot}
use Rattle.scheduler.specs.Exchanged.{Exchanged, asked_in}
use Rattle.mon_monitor.specs.SystemStates.{SystemState}
use Rattle.mon_monitor.specs.Events.{Event, Serve, Load, Give, Drain}
use Rattle.mon_monitor.specs.Printouts.{Printout, OfCommand, OfJob, OfRefused}
use Rattle.mon_monitor.specs.Played.{happened}

-- what happened, one thing at a time
pub data Entry : Type 0 where
  -- a job is loaded
  Entered : JobDeck → Entry
  -- a job is not loaded, and why
  Refused : JobDeck → LoadError → Entry
  -- a job asks, and is answered
  Asked : Exchanged → Entry
  -- a job has ended
  Ended : JobEnd → Entry
  -- a command of this account, if it is known, is served over these data sets, and is answered
  Ordered : Option Account → Sets → Command → commands.Answer → Entry

-- a job that has ended with its turn
abbrev pub end_entry : Turned → List Entry
end_entry turned = elim turned [ turn.Ended e ↦ Ended e ∷ [] | _ ↦ [] ]

-- a turn of the job in a slot
abbrev pub turn_entries : Option Mark → ℕ → SchedulerState → List Entry
turn_entries m s w = map Asked (asked_in m (seat_at s w.slots) w.sets) ++ end_entry (turn_as m s w).0

-- turns of the jobs in these slots, until the scheduler is one to stop at
abbrev pub entries_until : (SchedulerState → Bool) → List ℕ → Marks → SchedulerState → List Entry
entries_until stop [] m w = []
entries_until stop (s ∷ E) m w =
    if stop w then []
    else turn_entries (mark_of m) s w ++ entries_until stop E (drop 1 m) (turn_as (mark_of m) s w).1

-- rounds of turns, until the scheduler is one to stop at
abbrev pub entries_of_rounds : (SchedulerState → Bool) → Marks → SchedulerState → List Entry
entries_of_rounds stop m w = entries_until stop (rounds (turns_left w.slots) (length w.slots)) m w

-- a job that is loaded, or refused
abbrev pub load_entry : JobDeck → Result ℕ LoadError → List Entry
load_entry deck loaded = elim loaded [ Ok slot ↦ Entered deck ∷ [] | Err refusal ↦ Refused deck refusal ∷ [] ]

-- one event: a command is served; a job enters, behind the turns that make room for it; turns are taken
abbrev pub event_entries : Event → Marks → SystemState → List Entry
event_entries (Serve command) m w =
    Ordered (find_account w.accounts (account_of command)) w.scheduler.sets command (answered w.accounts w.scheduler.sets command).answer ∷ []
event_entries (Load deck) m w =
    entries_of_rounds has_free_slot m w.scheduler ++ load_entry deck (job_loaded w.accounts deck (rounds_until has_free_slot m w.scheduler).after.slots).0
event_entries (Give slot count) m w = entries_until never (replicate count slot) m w.scheduler
event_entries Drain m w = entries_of_rounds is_done m w.scheduler

-- all of these events
abbrev pub history : List Event → Marks → SystemState → List Entry
history [] m w = []
history (event ∷ events) m w = event_entries event m w ++ history events (happened event m w).marks (happened event m w).after

-- what an entry prints: a command its answer, a job what it printed up to its end, or why it was refused
abbrev pub printout_of : Entry → List Printout
printout_of (Entered deck) = []
printout_of (Refused deck refusal) = OfRefused deck.number deck.account refusal ∷ []
printout_of (Asked e) = []
printout_of (Ended e) = OfJob e ∷ []
printout_of (Ordered known sets command answer) = OfCommand (printed command answer) ∷ []

-- what entries print, in order
abbrev pub printouts_in : List Entry → List Printout
printouts_in entries = flat_map printout_of entries

-- the card that an entry answers, if it answers one
abbrev pub card_of : Entry → List Event
card_of (Entered deck) = Load deck ∷ []
card_of (Refused deck refusal) = Load deck ∷ []
card_of (Asked e) = []
card_of (Ended e) = []
card_of (Ordered known sets command answer) = Serve command ∷ []

-- the cards that entries answer, in order
abbrev pub cards_in : List Entry → List Event
cards_in entries = flat_map card_of entries

-- an entry is of the job of this number
abbrev pub is_of : ℕ → Entry → Bool
is_of n (Entered deck) = deck.number == n
is_of n (Refused deck refusal) = deck.number == n
is_of n (Asked e) = e.number == n
is_of n (Ended e) = e.number == n
is_of n (Ordered known sets command answer) = false

-- the job's own entries
abbrev pub own : ℕ → List Entry → List Entry
own n entries = filter (is_of n) entries
