-- Jobs on data sets of their own do the same under every schedule (own). Nothing is claimed of the order of ending, or where a
-- command or a load comes between. Each law is the contract of a function in `isolation`.
use Rattle.std.specs.Prelude.{◌≡◌, ◌≢◌, ◌==◌, ℕ, suc, List, [], ◌∷◌, filter, map, if◌then◌else◌, Some, None, replicate}
use Rattle.std.specs.List.{AllByRecursion}
use Rattle.sno_run.specs.declared.ending.Ending.TheVariants.{Memory}
use Rattle.mon_catalogue.specs.Sets.{NamesDiffer}
use Rattle.mon_unit.specs.Laws.{Same, TiedTo}
use Rattle.job_end.specs.declared.job_end.JobEnd.{JobEnd}
use Rattle.scheduler.specs.States.{SlotState, SchedulerState, job_in}
use Rattle.scheduler.specs.Ties.{Independent}
use Rattle.scheduler.specs.Turns.{turns}
use Rattle.scheduler.specs.Marks.{Marks, drain}
use Rattle.scheduler.specs.Rounds.{NoneByMemory}

-- how many turns a list gives a slot
abbrev pub turns_given : ℕ → List ℕ → ℕ
turns_given s [] = 0
turns_given s (t ∷ E) = if t == s then suc (turns_given s E) else turns_given s E

-- the ends in one slot
abbrev pub of_slot : ℕ → List (ℕ × JobEnd) → List (ℕ × JobEnd)
of_slot s ends = filter (λ e. e.0 == s) ends

-- A job does what it does where its slot alone is given its turns: it ends so, or goes on so, and leaves the same in its sets.
pub record AsAlone (w : SchedulerState) (E : List ℕ) (s : ℕ) : Type 0 where
  pub ends : of_slot s (turns E w).ends ≡ (turns (replicate (turns_given s E) s) w).ends
  pub job : job_in s (turns E w).after ≡ job_in s (turns (replicate (turns_given s E) s) w).after
  pub sets : (slot : SlotState) → job_in s w ≡ Some slot → (name : List ℕ) → TiedTo slot.units name
      → Same name (turns E w).after.sets (turns (replicate (turns_given s E) s) w).after.sets

abbrev pub EachAsAlone : Type 0
EachAsAlone = (w : SchedulerState) → Independent w → (E : List ℕ) (s : ℕ) → AsAlone w E s

-- the job of some slot ends so when that slot alone is given turns
abbrev pub EndsAlone : SchedulerState → JobEnd → Type 0
EndsAlone w e = (s n : ℕ) × ((turns (replicate n s) w).ends ≡ (s, e) ∷ [])

-- each that ends, ends as it does alone
abbrev pub EndsAsAlone : Type 0
EndsAsAlone = (w : SchedulerState) → Independent w → (E : List ℕ) → AllByRecursion (EndsAlone w) (map (λ e. e.1) (turns E w).ends)

abbrev pub AllEnded : SchedulerState → Type 0
AllEnded w = (s : ℕ) → job_in s w ≡ None

-- a list that gives each slot as many turns as one that ends all jobs, ends them all too: one job after another, say
abbrev pub Rearranged : Type 0
Rearranged = (w : SchedulerState) → Independent w → (E F : List ℕ) → ((s : ℕ) → turns_given s F ≡ turns_given s E)
    → AllEnded (turns E w).after → AllEnded (turns F w).after

-- and two lists that end all jobs end each alike, and leave one catalogue
pub record SameOutcome (w : SchedulerState) (E F : List ℕ) : Type 0 where
  pub ends : (s : ℕ) → of_slot s (turns E w).ends ≡ of_slot s (turns F w).ends
  pub sets : (turns E w).after.sets ≡ (turns F w).after.sets

abbrev pub AnySchedule : Type 0
AnySchedule = (w : SchedulerState) → Independent w → NamesDiffer w.sets → (E F : List ℕ)
    → AllEnded (turns E w).after → AllEnded (turns F w).after → SameOutcome w E F

-- A drain in which no job ends for want of memory: each ends as it does alone, and the catalogue is that of every list of turns
-- that ends all jobs.
pub record Settles (w : SchedulerState) (m : Marks) : Type 0 where
  pub alone : AllByRecursion (EndsAlone w) (map (λ e. e.1) (drain m w).ends)
  pub sets : NamesDiffer w.sets → (E : List ℕ) → AllEnded (turns E w).after → (drain m w).after.sets ≡ (turns E w).after.sets

abbrev pub DrainSettles : Type 0
DrainSettles = (w : SchedulerState) (m : Marks) → Independent w → NoneByMemory (drain m w).ends → Settles w m

-- A call gave turns, which led from w to w' and ended these jobs. Each ended as it does alone; and where all slots are empty then,
-- the data sets are those of every list of turns that empties them.
pub record AnyOrder (w : SchedulerState) (ends : List JobEnd) (w' : SchedulerState) : Type 0 where
  pub alone : AllByRecursion (EndsAlone w) ends
  pub sets : NamesDiffer w.sets → AllEnded w' → (E : List ℕ) → AllEnded (turns E w).after → w'.sets ≡ (turns E w).after.sets

-- and so it is where no data set was tied by units of two slots, and no job ended for want of memory
pub record InAnyOrder (w : SchedulerState) (ends : List JobEnd) (w' : SchedulerState) : Type 0 where
  pub is : Independent w → AllByRecursion (λ e. e.ending ≢ Memory) ends → AnyOrder w ends w'

-- a drain: all slots are empty then
pub record DrainedInAnyOrder (w : SchedulerState) (ends : List JobEnd) (w' : SchedulerState) : Type 0 where
  pub empty : AllEnded w'
  pub order : InAnyOrder w ends w'
