use Rattle.interaction.proofs.Held.{held_of}
use Rattle.interaction.proofs.interaction_laws.traces_are_run.Goals as goal

pub returns : goal.returns
returns g c = λ t s x a s1 h j. held_of _ _ t s x a s1 h j
