use Rattle.interaction.proofs.Held.{held_then}
use Rattle.interaction.proofs.interaction_laws.parts_run.Goals as goal

pub returns : goal.returns
returns g c = λ t k s a m b s1 h j. held_then _ _ t k s a m b s1 h j
