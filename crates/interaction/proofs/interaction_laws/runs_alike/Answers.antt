use Rattle.interaction.proofs.InteractionRuns.{alike_first}
use Rattle.interaction.proofs.interaction_laws.runs_alike.Goals as goal

pub returns : goal.returns
returns g c = λ t x y more others a b h k same. alike_first _ t x y more others a b h k same
