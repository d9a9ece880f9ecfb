use Rattle.sno_store.proofs.Nesting.{levels_stay}
use Rattle.sno_store.proofs.laws.levels_stay.Goals as goal

pub returns : goal.returns
returns c = levels_stay
