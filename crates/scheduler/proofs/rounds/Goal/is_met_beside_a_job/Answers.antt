use Rattle.std.proofs.Common.{◌∙◌, sym, ap}
use Rattle.scheduler.proofs.{Common.{slots_in, scheduler, Goal, stop_of}, Seats.{seated_not_done}}
use Rattle.scheduler.proofs.rounds.Goal.is_met_beside_a_job.Goals as goal

pub returns-in-Empty : goal.returns-in-Empty
returns-in-Empty c = λ sets s job.
    sym (ap (λ (g : Goal). stop_of g (scheduler sets (slots_in c.args.slots.now))) c.in-Empty.is ∙ seated_not_done s (slots_in c.args.slots.now) job)
