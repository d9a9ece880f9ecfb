use Rattle.interaction.{proofs.InteractionRuns.{alike_first}, specs.Fitting.{Fits}}
use Rattle.interaction.proofs.laws.runs_alike.Goals as goal

pub returns : goal.returns
returns g c = λ t x y more others a b h k same. alike_first Fits t x y more others a b h k same
