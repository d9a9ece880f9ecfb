use Rattle.interaction.proofs.InteractionRuns.{goes_on}
use Rattle.interaction.proofs.interaction_laws.begun_goes_on.Goals as goal

pub returns : goal.returns
returns g c = λ some t x h. goes_on _ some t x h
