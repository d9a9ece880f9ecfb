use Rattle.interaction.proofs.InteractionRuns.{one_run}
use Rattle.interaction.proofs.interaction_laws.one_run.Goals as goal

pub returns : goal.returns
returns g c = λ one t s x y a b u v h p k q. one_run _ _ one t s x y a b u v h p k q
