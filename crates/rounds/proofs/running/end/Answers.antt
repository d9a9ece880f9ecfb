use Rattle.std.{specs.Prelude.{codes}, proofs.lemmas.Result.{err_from_is_err_and}}
use Rattle.rounds.proofs.{Standing.{ends_so, refused_by_stop, refused_at_end, passed_up}, Stopping.{stops_within, stops_behind}}
use Rattle.rounds.proofs.running.end.Goals as goal

pub returns-in_err-serve-clause-refused : goal.returns-in_err-serve-clause-refused
returns-in_err-serve-clause-refused g c = λ options head done a s n code same.
    let answer = err_from_is_err_and c.from_residual.result c.from_residual.ensures.1 in
    refused_by_stop options head done c.args.running n code a _ s (c.in_err-serve.ensures.refused n code (passed_up c.from_residual.result _ answer.0 _ answer.1 answer.2 same))

pub returns-clause-ended : goal.returns-clause-ended
returns-clause-ended g c = λ options head done a s.
    ends_so options head done c.args.running c.serve.new.running c.finish_round.result a _ _ _ s c.in_ok-serve.ensures.told (c.in_ok-serve.ensures.reads_back s.back) c.serve.ensures.options
    c.serve.ensures.ends c.finish_round.ensures.ends c.finish_round.ensures.ended

pub returns-clause-refused : goal.returns-clause-refused
returns-clause-refused g c = λ options head done a s n code same.
    refused_at_end options head done c.args.running c.serve.new.running n code a _ _ s c.in_ok-serve.ensures.told (c.finish_round.ensures.refused n code same)

pub returns-in_err-serve-clause-begun : goal.returns-in_err-serve-clause-begun
returns-in_err-serve-clause-begun g c = λ options head done a s. stops_within options head done c.args.running a _ s _ (codes "$STOP\n") c.serve.ensures.begun

pub returns-clause-begun : goal.returns-clause-begun
returns-clause-begun g c = λ options head done a s.
    stops_behind options head done c.args.running a _ s _ (codes "$STOP\n") _ c.serve.new.running.feed _ c.in_ok-serve.ensures.told c.finish_round.ensures.begun
