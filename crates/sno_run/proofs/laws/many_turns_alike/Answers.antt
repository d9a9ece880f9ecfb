use Rattle.interaction.{proofs.InteractionRuns.{alike_first}, specs.Fitting.{Fits}}
use Rattle.sno_run.specs.Jobs.{turns_of}
use Rattle.sno_run.proofs.laws.many_turns_alike.Goals as goal

pub returns : goal.returns
returns c = λ k job x y more others p q h l same. alike_first Fits (turns_of k job) x y more others p q h l same
