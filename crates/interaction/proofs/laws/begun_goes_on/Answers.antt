use Rattle.interaction.{proofs.InteractionRuns.{goes_on}, specs.Fitting.{Fits}, proofs.Answering.{some_answer}}
use Rattle.interaction.proofs.laws.begun_goes_on.Goals as goal

pub returns : goal.returns
returns g c = λ t x h. goes_on Fits some_answer t x h
