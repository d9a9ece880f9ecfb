use Rattle.mon_monitor.specs.SystemStates.{SystemState}
use Rattle.deck_run.specs.{Runs.{run_state_of}, Headline.{asked_of}}
use Rattle.deck_run.proofs.laws.append_only.Goals as goal

pub returns : goal.returns
returns c = λ options m bytes name set there mode none.
    let w : SystemState = (run_state_of options bytes).system in
    c.append_only.ensures (asked_of options bytes) m w name set there mode none
