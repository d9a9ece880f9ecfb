use Rattle.sno_state.proofs.Counting.{changed_counts}
use Rattle.sno_state.proofs.primitives.change_state.Goals as goal

pub returns-in-Ok-clause-counted : goal.returns-in-Ok-clause-counted
returns-in-Ok-clause-counted c = changed_counts c.args.which c.args.first.now c.args.second.now c.args.third.now c.args.state.now c.make_change.new.state c.in-Ok.ensures.answered
