use Rattle.std.proofs.Common.{Some, refl, ◌∙◌}
use Rattle.sno_run.specs.{declared.ending.Ending.TheVariants.{Memory}, declared.ending.Step.TheVariants.{Ended}, Abstraction.{job_of}}
use Rattle.sno_run.{specs.inner.Turning.{turned_of}, proofs.Turns.{stepped_mid, turn_told, turn_broken}}
use Rattle.sno_run.proofs.turning.statement_turn.Goals as goal

pub returns-in-Ok-clause-turn : goal.returns-in-Ok-clause-turn
returns-in-Ok-clause-turn g c =
    turn_told g.S.Service.answers c.args.job.now c.in-None.is c.args.service.now c.turn_at.new.service (turned_of c.in-Ok.turned) c.turn_at.new.state c.in-Ok.ensures.held c.step.result (job_of c.step.new.self)
    (c.step.ensures ∙ stepped_mid (job_of c.args.job.now) c.turn_at.new.state (turned_of c.in-Ok.turned) c.turn_at.new.state)

pub returns-in-Err-clause-turn : goal.returns-in-Err-clause-turn
returns-in-Err-clause-turn g c =
    turn_broken g.S.Service.answers c.args.job.now c.in-None.is c.args.service.now c.turn_at.new.service (Ended Memory)
    (record (job_of c.args.job.now) { state = c.turn_at.new.state; ended = Some Memory }) c.in-Err.ensures.cut c.in-Err.ensures.line c.in-Err.ensures.started refl refl refl refl
