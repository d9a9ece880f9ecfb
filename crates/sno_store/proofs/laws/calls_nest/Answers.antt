use Rattle.sno_store.proofs.Nesting.{calls_nest}
use Rattle.sno_store.proofs.laws.calls_nest.Goals as goal

pub returns : goal.returns
returns c = calls_nest
