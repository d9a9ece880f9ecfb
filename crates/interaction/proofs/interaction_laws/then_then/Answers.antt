use Rattle.interaction.proofs.Binds.{then_then}
use Rattle.interaction.proofs.interaction_laws.then_then.Goals as goal

pub returns : goal.returns
returns g c = λ t k l. then_then t k l
