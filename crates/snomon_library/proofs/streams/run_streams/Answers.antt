-- What is told at first is told.
use Rattle.snomon_library.proofs.Moved.{at_first}
use Rattle.snomon_library.proofs.streams.run_streams.Goals as goal

pub returns : goal.returns
returns g c = at_first c.args.options _ _ _ (g.R.Read.remaining c.args.input) _ (g.W.Write.contents c.args.output) _ c.run_told.result.outcome c.run_told.result.shortage c.run_told.ensures
