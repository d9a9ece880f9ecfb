use Rattle.interaction.proofs.Broken.{broken_goes_on}
use Rattle.interaction.proofs.interaction_laws.broken_goes_on.Goals as goal

pub returns : goal.returns
returns g c = λ some t s s1 h. broken_goes_on _ _ _ some t s s1 h
