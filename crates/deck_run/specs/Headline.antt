-- The headline (own): what a deck that is run does, and what it prints, told by one list.
use Rattle.std.specs.Prelude.{◌≡◌, ℕ, false, List, ◌++◌, None, replicate}
use Rattle.std.specs.List.{AllByRecursion}
use Rattle.std.specs.Str.Lines.{lines}
use Rattle.scheduler.specs.States.{job_in}
use Rattle.scheduler.specs.Marks.{Marks}
use Rattle.mon_monitor.specs.Events.{Event}
use Rattle.mon_monitor.specs.Printouts.{printouts_text}
use Rattle.mon_monitor.specs.Played.{Played}
use Rattle.mon_monitor.specs.History.{Entry, history, printouts_in, cards_in, own}
use Rattle.mon_monitor.specs.Headline.{IsJob, job_of, cards_of, Lead, IsRight}
use Rattle.mon_monitor.specs.Turns.{BringInOrder, IsUnbroken}
use Rattle.deck_syntax.specs.Decks.{Deck, Stopped}
use Rattle.deck_syntax.specs.Sections.{deck_of}
use Rattle.deck_driver.specs.declared.options.Options.{Options}
use Rattle.deck_driver.specs.RunStates.{events_in, played_run_state}
use Rattle.deck_driver.specs.Printouts.{closing, output_of}
use Rattle.deck_run.specs.Runs.{run_state_of}

-- what the cards of a deck ask for, in order: its jobs are numbered from 1
abbrev pub asked_of : Options → List ℕ → List Event
asked_of options bytes = events_in 0 (run_state_of options bytes)

-- the list: all that its jobs ask and its commands order, each with its answer, and who enters and ends
abbrev pub history_of : Options → Marks → List ℕ → List Entry
history_of options m bytes = let run_state = run_state_of options bytes in history (asked_of options bytes) m run_state.system

-- These entries tell all of a deck, from its account table and its catalogue on.
pub record TellsAll (options : Options) (m : Marks) (bytes : List ℕ) (deck : Deck) (entries : List Entry) (last : Played) : Type 0 where
  -- In its order, each command and each job that its cards ask for is there, and no other.
  pub cards : cards_in entries ≡ cards_of (asked_of options bytes)
  -- Of each job there is what its program means, up to its end or to where a mark breaks it off, and nothing else: what it
  -- asks, as it is answered, and what it prints.
  pub jobs : (n : ℕ) → IsJob deck.accounts last.after.scheduler.slots (job_of n (asked_of options bytes)) (own n entries)
  -- Behind `$STOP` each job has ended.
  pub ended : deck.cards.ending ≡ Stopped → (s : ℕ) → job_in s last.after.scheduler ≡ None
  -- Each entry is answered over the data sets as the one before it left them, the first over the deck's catalogue; and the last
  -- leaves the catalogue that is written.
  pub lead : Lead deck.accounts deck.catalogue entries last.after.scheduler.sets
  -- A record is got, a data set changed, a record, list or name shown, exactly where that is asked, then granted, and fit for the
  -- set's mode. Each denial names the entry that decides, what is missing, or MODE, which comes after the grant; and it changes
  -- no data set. Every other answer, too, is given exactly where the data sets and their lists say so.
  pub granted : AllByRecursion (IsRight deck.accounts) entries
  -- The output is what the entries print, in order, and then the catalogue.
  pub output : output_of options m bytes ≡ printouts_text (printouts_in entries) ++ closing last.after.scheduler.sets deck.cards.ending
  -- All slots are empty at first. Each card brings its turns and its entry in its time, and no other: `$TURN` turns of its slot, one
  -- statement of the job in it each; a job into full slots, `$DRAIN` and `$STOP` turns of slot after slot, round and round, just as long
  -- as needed; and a job sits in the slot that was the lowest free one.
  pub turns : BringInOrder deck.accounts (asked_of options bytes) (record { seats = replicate options.slots.number None; marks = m }) entries (record { seats = last.after.scheduler.slots; marks = last.marks })
  -- A job ends for want of memory only in a turn with a mark (`IsTurn`): so where there are none, no job does.
  pub memory : AllByRecursion (λ mark. mark ≡ None) m → AllByRecursion IsUnbroken entries

-- For every deck that is run, wherever memory breaks its turns off.
abbrev pub Headline : Type 0
Headline = (options : Options) (m : Marks) (bytes : List ℕ) → options.check ≡ false
    → TellsAll options m bytes (deck_of (lines bytes)) (history_of options m bytes) (played_run_state 0 m (run_state_of options bytes))
