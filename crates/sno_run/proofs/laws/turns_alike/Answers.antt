use Rattle.interaction.{proofs.InteractionRuns.{alike_first}, specs.Fitting.{Fits}}
use Rattle.sno_run.specs.Jobs.{turn_of}
use Rattle.sno_run.proofs.laws.turns_alike.Goals as goal

pub returns : goal.returns
returns c = λ job x y more others p q h k same. alike_first Fits (turn_of job) x y more others p q h k same
