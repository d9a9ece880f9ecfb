use Rattle.interaction.{proofs.InteractionRuns.{goes_on}, specs.Fitting.{Fits}, proofs.Answering.{some_answer}}
use Rattle.sno_run.specs.Jobs.{turn_of}
use Rattle.sno_run.proofs.laws.broken_goes_on.Goals as goal

pub returns : goal.returns
returns c = λ job x h. goes_on Fits some_answer (turn_of job) x h
