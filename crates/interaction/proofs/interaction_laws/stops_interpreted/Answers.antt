use Rattle.interaction.proofs.Hosts.{cut_through}
use Rattle.interaction.proofs.interaction_laws.stops_interpreted.Goals as goal

pub returns : goal.returns
returns g c = λ puts state other each breaks t a b h. cut_through _ _ puts state other _ _ each _ _ breaks t a b h
