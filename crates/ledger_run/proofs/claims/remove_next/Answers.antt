use Rattle.std.proofs.Common.{rules}
use Rattle.ledger_laws.specs.Claims.{removals}
use Rattle.ledger_run.proofs.Refusing.{did_one}
use Rattle.ledger_run.proofs.claims.remove_next.Goals as goal

pub returns-in_err-push-clause-err : goal.returns-in_err-push-clause-err
returns-in_err-push-clause-err g c =
    let a = did_one g.D.Disk.calls removals c.args.drop c.args.disk.now c.remove_one.new.disk (c.in_ok-removed.ensures.removed c.if-removed.true) in search (rules, a)
