-- What turns do where memory may break some off, and rounds of turns (own).
use Rattle.std.specs.Prelude.{ℕ, zero, suc, ◌+◌, Bool, false, List, [], ◌∷◌, ◌++◌, length, if◌then◌else◌, Option, is_some, is_none, slice_get, drop}
use Rattle.std.specs.Option.{option_map_or, option_flatten}
use Rattle.std.specs.List.{list_all, range_with_len}
use Rattle.mon_catalogue.specs.Sets.{Sets}
use Rattle.sno_run.specs.declared.ending.Step.{Step}
use Rattle.sno_run.specs.declared.ending.Step.TheVariants as step
use Rattle.sno_run.specs.declared.ending.Ending.TheVariants.{Memory}
use Rattle.interaction.specs.Counting.{Passed, requests_in, statements_in}
pub use Rattle.sno_run.specs.Jobs.{counted, may_break}
use Rattle.sno_run.specs.Jobs.{Job, counted_turn, turn_of, statements_left}
use Rattle.mon_unit.specs.Runs.{run_cut, passed}
use Rattle.mon_unit.specs.Serving.{Reach, serve}
use Rattle.job_end.specs.declared.job_end.JobEnd.{JobEnd}
use Rattle.job_end.specs.declared.turned.Turned.{Turned}
use Rattle.job_end.specs.declared.turned.Turned.TheVariants.{Empty}
use Rattle.scheduler.specs.States.{SlotState, SchedulerState, seat_at, first_free}
use Rattle.scheduler.specs.Turns.{reached, ran, turned, ends_by}

-- where memory breaks a turn off: behind its first moment, in which its own statement begins, and so many more
pub record Mark : Type 0 where
  pub moments : ℕ

-- for each turn, where memory breaks it off, if it does; no turn beyond the list is broken off
abbrev pub Marks : Type 0
Marks = List (Option Mark)

abbrev pub mark_of : Marks → Option Mark
mark_of marks = option_flatten (slice_get marks 0)

-- what has passed of a turn there: the statements that have begun, and what was asked
abbrev pub passed_at : Mark → SlotState → Sets → List Passed
passed_at m slot sets = passed (serve slot.account) (suc m.moments) (counted_turn slot.job) (reached sets slot)

-- how many exchanges that are
abbrev pub exchanges_at : Mark → SlotState → Sets → ℕ
exchanges_at m slot sets = length (requests_in (passed_at m slot sets))

abbrev pub broken_at : Mark → SlotState → Sets → (Step × Job) × Reach
broken_at m slot sets =
    ((step.Ended Memory, counted (statements_in (passed_at m slot sets)) slot.job), run_cut (serve slot.account) (exchanges_at m slot sets) (turn_of slot.job) (reached sets slot))

-- one turn of a job; where it is broken off, what has passed stands and the job has ended
abbrev pub ran_as : Option Mark → SlotState → Sets → (Step × Job) × Reach
ran_as m slot sets = option_map_or (λ mark. if may_break slot.job then broken_at mark slot sets else ran slot sets) m (ran slot sets)

-- one turn of the job in a slot, if there is one
abbrev pub turn_as : Option Mark → ℕ → SchedulerState → Turned × SchedulerState
turn_as m s w = option_map_or (λ slot. turned s (ran_as m slot w.sets) slot w) (seat_at s w.slots) (Empty, w)

-- the jobs that ended, in order, each with its slot; what is left; and the marks that no turn took
pub record Past : Type 0 where
  pub ends : List (ℕ × JobEnd)
  pub after : SchedulerState
  pub marks : Marks

abbrev pub nothing : Marks → SchedulerState → Past
nothing m w = record { ends = []; after = w; marks = m }

-- turns of the jobs in these slots, in this order, until a scheduler is one to stop at
abbrev pub until : (SchedulerState → Bool) → List ℕ → Marks → SchedulerState → Past
until stop [] m w = nothing m w
until stop (s ∷ E) m w =
    if stop w then nothing m w
    else let later = until stop E (drop 1 m) (turn_as (mark_of m) s w).1 in record later { ends = ends_by s (turn_as (mark_of m) s w).0 ++ later.ends }

abbrev pub never : SchedulerState → Bool
never w = false

-- all of these turns
abbrev pub marked : List ℕ → Marks → SchedulerState → Past
marked E m w = until never E m w

-- k rounds of one turn for each of n slots, from the first upward
abbrev pub rounds : ℕ → ℕ → List ℕ
rounds zero n = []
rounds (suc k) n = range_with_len 1 n ++ rounds k n

-- how many turns the jobs can have, as each turn begins a statement or is a job's last
abbrev pub turns_left : List (Option SlotState) → ℕ
turns_left [] = 0
turns_left (seat ∷ seats) = option_map_or (λ slot. suc (statements_left slot.job)) seat 0 + turns_left seats

-- round and round, until a scheduler is one to stop at: no more rounds than there are turns that the jobs can have
abbrev pub rounds_until : (SchedulerState → Bool) → Marks → SchedulerState → Past
rounds_until stop m w = until stop (rounds (turns_left w.slots) (length w.slots)) m w

abbrev pub is_done : SchedulerState → Bool
is_done w = list_all is_none w.slots

abbrev pub has_free_slot : SchedulerState → Bool
has_free_slot w = is_some (first_free w.slots)

-- until all slots are empty
abbrev pub drain : Marks → SchedulerState → Past
drain m w = rounds_until is_done m w

-- until a slot is free
abbrev pub room : Marks → SchedulerState → Past
room m w = rounds_until has_free_slot m w
