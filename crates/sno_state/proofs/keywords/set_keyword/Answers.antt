use Rattle.sno_state.proofs.Counting.{keyword_counts}
use Rattle.sno_state.proofs.keywords.set_keyword.Goals as goal

pub returns-in-Ok-clause-counted : goal.returns-in-Ok-clause-counted
returns-in-Ok-clause-counted c = keyword_counts c.in-Some.keyword c.args.value.now c.args.state.now c.set_keyword.new.self c.in-Ok.ensures
