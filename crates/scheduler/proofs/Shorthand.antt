-- Parts of the definitions by names of their own.
use Rattle.std.proofs.Common.{◌≡◌, ◌∙◌, ℕ, suc, ◌-◌, Bool, List, [], drop, Option, Result, if◌then◌else◌}
use Rattle.scheduler.proofs.Common.{option_map_or, result_ok, SyntaxError, ProgramText, Sets, Step, Job, statements_begun, Reach, Empty, SlotState, SchedulerState, ran, turned, Mark, broken_at, ran_as, Turned}

abbrev pub data_of : List (List ℕ) → Result ProgramText SyntaxError → List (List ℕ)
data_of lines cards = option_map_or (λ good. drop good.data_from lines) (result_ok cards) []

abbrev pub turns_ahead : Option SlotState → ℕ
turns_ahead seat = option_map_or (λ slot. suc (slot.job.limits.statements - statements_begun slot.job)) seat 0

abbrev pub broken_by : Bool → Mark → SlotState → Sets → (Step × Job) × Reach
broken_by breaks m slot sets = if breaks then broken_at m slot sets else ran slot sets

abbrev pub turn_as_by : Option Mark → ℕ → Option SlotState → SchedulerState → Turned × SchedulerState
turn_as_by m s seat w = option_map_or (λ slot. turned s (ran_as m slot w.sets) slot w) seat (Empty, w)

-- the same loans as those that were the same
pub then_loans : {g g' g'' c c' c'' a a' a'' : ℕ} → (g' ≡ g) × (c' ≡ c) × (a' ≡ a) → (g'' ≡ g') × (c'' ≡ c') × (a'' ≡ a') → (g'' ≡ g) × (c'' ≡ c) × (a'' ≡ a)
then_loans p q = (q.0 ∙ p.0, q.1 ∙ p.1, q.2 ∙ p.2)
