use Rattle.sno_state.proofs.Counting.{state_counts}
use Rattle.sno_state.proofs.laws.state_counts.Goals as goal

pub returns : goal.returns
returns c = state_counts
