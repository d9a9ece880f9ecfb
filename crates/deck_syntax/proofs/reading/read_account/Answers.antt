use Rattle.std.proofs.Common.{◌≤◌, length, arith}
use Rattle.std.proofs.lemmas.Result.{err_from_is_err_and}
use Rattle.deck_syntax.proofs.AccountWords.{first_refused, second_refused}
use Rattle.deck_syntax.proofs.reading.read_account.Goals as goal

pub returns-in_err-name-clause-answers : goal.returns-in_err-name-clause-answers
returns-in_err-name-clause-answers c =
    let stop = err_from_is_err_and c.from_residual.result c.from_residual.ensures.1 in
    let two : 2 ≤ length c.args.words.now = omega arith in
    rw (stop.1, stop.2) (first_refused c.args.words.now c.at.result.now two c.at.ensures _ c.in_err-name.ensures.answers)

pub returns-in_err-primary-clause-answers : goal.returns-in_err-primary-clause-answers
returns-in_err-primary-clause-answers c =
    let stop = err_from_is_err_and c.from_residual-in_err-primary.result c.from_residual-in_err-primary.ensures.1 in
    let two : 2 ≤ length c.args.words.now = omega arith in
    rw (stop.1, stop.2) (second_refused c.args.words.now c.at.result.now c.at-2.result.now two c.at.ensures c.at-2.ensures c.in_ok-name.ensures.answers _ c.in_err-primary.ensures.answers)
