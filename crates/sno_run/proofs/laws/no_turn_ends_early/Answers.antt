use Rattle.std.proofs.Common.{◌≤◌, arith}
use Rattle.sno_semantics.proofs.Depth.{exact_turn}
use Rattle.sno_state.{specs.State.{keeping, allowed}, proofs.Counting.{state_counts}}
use Rattle.sno_run.proofs.laws.no_turn_ends_early.Goals as goal

pub returns : goal.returns
returns c = λ job n le.
    let few : allowed job.limits job.state ≤ job.limits.statements = omega arith in
    let fewer : allowed job.limits job.state ≤ n = omega (arith, few, le) in
    exact_turn (allowed job.limits) (keeping job.limits) (state_counts job.limits) job.program n job.limits.statements job.point job.state fewer few
