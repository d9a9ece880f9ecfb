use Rattle.interaction.proofs.Hosts.{held_through}
use Rattle.interaction.proofs.interaction_laws.runs_interpreted.Goals as goal

pub returns : goal.returns
returns g c = λ puts state other each t a v b h. held_through _ _ puts state other _ _ each t a v b h
