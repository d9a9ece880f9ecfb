-- When turns come (own): what each card brings, turn by turn, told of the slots and of the marks alone. That each entry is answered
-- over the data sets that the one before it left, `Lead` of Headline says.
use Rattle.std.specs.Prelude.{◌≡◌, ◌≢◌, ◌⊎◌, ℕ, suc, ◌+◌, ◌%◌, ◌<◌, ◌≤◌, nat_lt, Bool, List, [], ◌∷◌, ◌++◌, length, map, take, drop, Option, Some, None, IsSome, is_none, if◌then◌else◌, replicate}
use Rattle.std.specs.List.{AllByRecursion, flat_map, list_all, list_any}
use Rattle.interaction.specs.Asking.{Exchange}
use Rattle.interaction.specs.Asking as asking
use Rattle.interaction.specs.Counting.{Passed, IsTrace, requests_in, statements_in}
use Rattle.sno_run.specs.declared.ending.Ending.TheVariants.{Memory}
use Rattle.sno_run.specs.declared.ending.Step.{Step}
use Rattle.sno_run.specs.declared.ending.Step.TheVariants as step
use Rattle.sno_run.specs.Jobs.{Job, counted_turn, turn_of, statements_begun}
use Rattle.mon_access.specs.declared.account.Account.{Account}
use Rattle.mon_catalogue.specs.Sets.{Sets}
use Rattle.mon_command.specs.Commanded as commands
use Rattle.mon_unit.specs.State.{UnitState}
use Rattle.deck_syntax.specs.declared.job_deck.JobDeck.{JobDeck}
use Rattle.load_refusal.specs.declared.load_error.LoadError.{LoadError}
use Rattle.scheduler.specs.States.{SlotState, seat_at, with_seat}
use Rattle.scheduler.specs.Loads.{slot_in}
use Rattle.scheduler.specs.Turns.{seat, told}
use Rattle.scheduler.specs.Marks.{Mark, Marks, mark_of}
use Rattle.mon_monitor.specs.SystemStates.{first_system}
use Rattle.mon_monitor.specs.Events.{Event, Serve, Load, Give, Drain}
use Rattle.mon_monitor.specs.Played.{played}
use Rattle.scheduler.specs.Exchanged.{Exchanged}
use Rattle.mon_monitor.specs.History.{Entry, Entered, Refused, Asked, Ended, Ordered, end_entry, history}
use Rattle.mon_monitor.specs.Headline.{exchanges, Follow}

abbrev pub Seats : Type 0
Seats = List (Option SlotState)

-- what turns find: the slots with their jobs, and the marks of the turns that are still to come
pub record Stage : Type 0 where
  pub seats : Seats
  pub marks : Marks

-- A TURN

-- Memory broke a turn off, at the mark that is its own: its statement's first moment has passed, and so many more as the mark says.
pub record IsBrokenAt (mark : Option Mark) (before : Job) (x : List Exchange) (end : Step) (after : Job) : Type 0 where
  pub at : Mark
  pub stands : mark ≡ Some at
  pub memory : end ≡ step.Ended Memory
  pub all : List Passed
  pub statement : (whole : Step × Job) × IsTrace (counted_turn before) all whole
  pub asked : x ≡ requests_in (take (suc at.moments) all)
  pub counted : statements_begun after ≡ statements_begun before + statements_in (take (suc at.moments) all)

-- a job in its slot, after a turn
abbrev pub left_as : SlotState → Job → UnitState → SlotState
left_as slot job units = record slot { job = job; units = units }

-- A turn of the job in slot s is one statement of its program.
pub record IsTurn (mark : Option Mark) (s : ℕ) (slot : SlotState) (before : Seats) (entries : List Entry) (after : Seats) : Type 0 where
  -- All that is asked meanwhile is asked by this job, for its account, each request by the units as the one before it left them.
  pub asked : List Exchanged
  pub units : UnitState
  pub follow : Follow slot.number slot.account slot.units asked units
  -- It is what the statement asks: all of it, or so much as memory let pass, where the turn has a mark.
  pub end : Step
  pub job : Job
  pub asks : (asking.IsTrace (turn_of slot.job) (exchanges asked) (end, job) × (end ≢ step.Ended Memory)) ⊎ IsBrokenAt mark slot.job (exchanges asked) end job
  -- That is added, and the job's end if it has ended.
  pub adds : entries ≡ map Asked asked ++ end_entry (told end (left_as slot job units))
  -- The job stays in its slot, or has ended and leaves it; each other slot is as it was.
  pub leaves : after ≡ with_seat s (seat end (left_as slot job units)) before

-- a turn of slot s; where no job sits in it, nothing is asked and nothing changes
abbrev pub TurnOf : Option Mark → ℕ → Option SlotState → Seats → List Entry → Seats → Type 0
TurnOf mark s None before entries after = (entries ≡ []) × (after ≡ before)
TurnOf mark s (Some slot) before entries after = IsTurn mark s slot before entries after

-- THE TURNS OF A CARD

-- Which slot is due for a card's turn of this number, over these slots; or none, and the card gives no more turns. Turns are numbered
-- from 0.

-- `$TURN`: its slot, so many times
abbrev pub given : ℕ → ℕ → ℕ → Seats → Option ℕ
given slot count i seats = if nat_lt i count then Some slot else None

-- round and round, from slot 1 upward, until it is enough
abbrev pub in_rounds : (Seats → Bool) → ℕ → Seats → Option ℕ
in_rounds enough i seats = if enough seats then None else Some (suc (i % length seats))

-- Turns from this number on, each of the slot that is due, until none is: each takes the first of the marks that are left, as its own.
-- What each adds is one of these lists.
abbrev pub Take : (ℕ → Seats → Option ℕ) → ℕ → Stage → List (List Entry) → Stage → Type 0
Take due i before [] after = (due i before.seats ≡ None) × (after ≡ before)
Take due i before (added ∷ more) after = (s : ℕ) × (mid : Seats) × (due i before.seats ≡ Some s)
    × TurnOf (mark_of before.marks) s (seat_at s before.seats) before.seats added mid
    × Take due (suc i) (record { seats = mid; marks = drop 1 before.marks }) more after

abbrev pub Turns : (ℕ → Seats → Option ℕ) → Stage → List Entry → Stage → Type 0
Turns due before entries after = (turns : List (List Entry)) × (entries ≡ flat_map (λ added. added) turns) × Take due 0 before turns after

-- CARDS

-- the lowest free slot: there is one of this number, it is empty, and each below it is taken
pub record IsLowestFree (s : ℕ) (seats : Seats) : Type 0 where
  pub free : (0 < s) × (s ≤ length seats) × (seat_at s seats ≡ None)
  pub lowest : (t : ℕ) → 0 < t → t < s → IsSome (seat_at t seats)

-- a job is loaded: into the lowest free slot, and each other slot is as it was
pub record IsLoaded (accounts : List Account) (deck : JobDeck) (before after : Seats) : Type 0 where
  pub slot : ℕ
  pub lowest : IsLowestFree slot before
  pub sits : after ≡ with_seat slot (slot_in accounts deck) before

-- it is loaded; or refused, and then nothing changes
abbrev pub Loads : List Account → JobDeck → Seats → Entry → Seats → Type 0
Loads accounts deck before entry after = ((entry ≡ Entered deck) × IsLoaded accounts deck before after)
    ⊎ ((refusal : LoadError) × (entry ≡ Refused deck refusal) × (after ≡ before))

-- What one card brings: a command its one entry, and no turn; a job, where all slots are taken, turns until one is free, and then its
-- one entry; `$TURN` turns of its slot; `$DRAIN` and `$STOP` turns until all slots are empty.
abbrev pub Brings : List Account → Event → Stage → List Entry → Stage → Type 0
Brings accounts (Serve command) before entries after =
    (known : Option Account) × (sets : Sets) × (answer : commands.Answer) × (entries ≡ Ordered known sets command answer ∷ []) × (after ≡ before)
Brings accounts (Load deck) before entries after = (turns : List Entry) × (entry : Entry) × (mid : Stage) × (entries ≡ turns ++ entry ∷ [])
    × Turns (in_rounds (list_any is_none)) before turns mid × Loads accounts deck mid.seats entry after.seats × (after.marks ≡ mid.marks)
Brings accounts (Give slot count) before entries after = Turns (given slot count) before entries after
Brings accounts Drain before entries after = Turns (in_rounds (list_all is_none)) before entries after

-- what cards bring: first all that the first brings, and then what the others do, over what that leaves
abbrev pub BringInOrder : List Account → List Event → Stage → List Entry → Stage → Type 0
BringInOrder accounts [] before entries after = (entries ≡ []) × (after ≡ before)
BringInOrder accounts (event ∷ events) before entries after = (first rest : List Entry) × (mid : Stage) × (entries ≡ first ++ rest)
    × Brings accounts event before first mid × BringInOrder accounts events mid rest after

-- not that a job has ended for want of memory
abbrev pub IsUnbroken : Entry → Type 0
IsUnbroken (Ended end) = end.ending ≢ Memory
IsUnbroken _ = Unit {0}

-- From empty slots on, whatever is asked and wherever memory breaks turns off: each card brings its turns and its entry in its time;
-- and where no turn has a mark, no job ends for want of memory.
abbrev pub TurnsCome : Type 0
TurnsCome = (slots : ℕ) (accounts : List Account) (sets : Sets) (events : List Event) (m : Marks) → slots ≢ 0
    → (let w = first_system slots accounts sets in
    let p = played events m w in
    BringInOrder accounts events (record { seats = replicate slots None; marks = m }) (history events m w) (record { seats = p.after.scheduler.slots; marks = p.marks })
    × (AllByRecursion (λ mark. mark ≡ None) m → AllByRecursion IsUnbroken (history events m w)))
