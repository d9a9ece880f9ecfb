use Rattle.interaction.proofs.Held.{cut_here, cut_first, cut_then}
use Rattle.interaction.proofs.interaction_laws.parts_stop.Goals as goal

pub returns : goal.returns
returns g c = λ t k s s1. (cut_here _ _ _ t s, λ h. cut_first _ _ _ t k s s1 h, λ a m h j. cut_then _ _ _ t k s a m s1 h j)
