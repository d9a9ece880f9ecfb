use Rattle.deck_syntax.proofs.Standing.{refusals_stand}
use Rattle.deck_syntax.proofs.laws.refusals_stand.Goals as goal

pub returns : goal.returns
returns c = refusals_stand
