use Rattle.deck_run.specs.{Runs.{run_state_of}, Headline.{asked_of}}
use Rattle.deck_run.proofs.laws.reads_see_writes.Goals as goal

pub returns : goal.returns
returns c = λ options m bytes. c.reads_see_writes.ensures (asked_of options bytes) m (run_state_of options bytes).system
