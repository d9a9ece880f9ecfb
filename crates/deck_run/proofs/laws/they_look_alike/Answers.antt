use Rattle.deck_run.proofs.LookingAlike.{they_look_alike}
use Rattle.deck_run.proofs.laws.they_look_alike.Goals as goal

pub returns : goal.returns
returns c = they_look_alike c.they_agree.ensures
