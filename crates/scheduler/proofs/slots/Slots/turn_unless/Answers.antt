use Rattle.std.proofs.Common.{arith, refl, sym, ◌∙◌, inl}
use Rattle.scheduler.proofs.{Common.{stop_of}, Rounding.{no_turn}}
use Rattle.scheduler.proofs.slots.Slots.turn_unless.Goals.{else-has_job-via-then-has_job+else-not-is_met_beside_a_job, else-has_job-via-else-has_job}
use Rattle.scheduler.proofs.slots.Slots.turn_unless.Goals as goal

pub turn_into-requires : goal.turn_into-requires
turn_into-requires g c = omega (arith, c.requires.room)

pub returns-else-has_job-clause-turn : goal.returns-else-has_job-clause-turn
returns-else-has_job-clause-turn g c = elim c.else-has_job.branch [
  | else-has_job-via-then-has_job+else-not-is_met_beside_a_job w ↦
      inl (sym (w.is_met_beside_a_job.ensures c.args.floor.now.catalogue.now c.args.slot (sym c.has_job.ensures ∙ w.if-has_job.true)) ∙ w.if-not-is_met_beside_a_job.false, refl, refl, refl)
  | else-has_job-via-else-has_job w ↦ no_turn (stop_of c.args.goal) c.args.slot _ _ _ (sym c.has_job.ensures ∙ w.if-has_job.false)
]
