use Rattle.std.proofs.lemmas.Result.{err_from_is_err_and}
use Rattle.rounds.proofs.{Standing.{finishes, bad_at_end, passed_up}, Stopping.{ending_of}}
use Rattle.rounds.proofs.running.finish_round.Goals as goal

pub returns-in_err-finish-clause-refused : goal.returns-in_err-finish-clause-refused
returns-in_err-finish-clause-refused g c = λ n code same.
    let answer = err_from_is_err_and c.from_residual.result c.from_residual.ensures.1 in
    bad_at_end c.args.running.feed c.args.running.printed c.finish.new.out n code _ _ c.requires
    (c.in_err-finish.ensures.refused n code (passed_up c.from_residual.result _ answer.0 _ answer.1 answer.2 same))

pub returns-clause-ended : goal.returns-clause-ended
returns-clause-ended g c = finishes c.args.running _ c.args.running.printed c.finish.new.out _ _ _ c.requires c.in_ok-finish.ensures.ended c.in_ok-move_out.ensures.moved

pub returns-in_err-finish-clause-begun : goal.returns-in_err-finish-clause-begun
returns-in_err-finish-clause-begun g c =
    let begun = c.finish.ensures.begun in
    ending_of c.args.running.feed _ _ begun.0 begun.2 begun.3 begun.4

pub returns-in_err-move_out-clause-begun : goal.returns-in_err-move_out-clause-begun
returns-in_err-move_out-clause-begun g c =
    let begun = c.finish.ensures.begun in
    ending_of c.args.running.feed _ _ begun.0 begun.2 begun.3 begun.4

pub returns-clause-begun : goal.returns-clause-begun
returns-clause-begun g c =
    let begun = c.finish.ensures.begun in
    ending_of c.args.running.feed _ _ begun.0 begun.2 begun.3 begun.4
