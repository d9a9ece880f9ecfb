use Rattle.interaction.proofs.Held.{begun}
use Rattle.interaction.proofs.interaction_laws.stops_had_begun.Goals as goal

pub returns : goal.returns
returns g c = λ t s s1 h. begun _ _ t s s1 h
