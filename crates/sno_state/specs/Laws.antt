-- What holds of the state of a job.
use Rattle.sno_semantics.specs.Limits.{Counts}
use Rattle.sno_cards.specs.declared.limits.Limits.{Limits}
use Rattle.sno_state.specs.State.{keeping, allowed}

-- it counts its statements, so that the limit is exact
abbrev pub StateCounts : Type 0
StateCounts = (limits : Limits) → Counts (keeping limits) (allowed limits)
