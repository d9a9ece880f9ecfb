use Rattle.interaction.proofs.Held.{told}
use Rattle.interaction.proofs.interaction_laws.runs_are_traced.Goals as goal

pub returns : goal.returns
returns g c = λ t s a s1 h. told _ _ t s a s1 h
