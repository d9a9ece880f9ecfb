use Rattle.std.proofs.Common.{rules}
use Rattle.ledger_laws.specs.Claims.{links}
use Rattle.ledger_run.proofs.Refusing.{did_one, links_none, links_one}
use Rattle.ledger_run.proofs.claims.link_next.Goals as goal

pub returns-in_err-push-clause-err : goal.returns-in_err-push-clause-err
returns-in_err-push-clause-err g c =
    let a = did_one g.D.Disk.calls (links c.args.number) c.args.drop c.args.disk.now c.link_one.new.disk (c.in_ok-linked.ensures.linked c.if-linked.true) in search (rules, a)

pub returns-then-linked-clause-ok : goal.returns-then-linked-clause-ok
returns-then-linked-clause-ok g c =
    links_one g.D.Disk.calls c.args.number c.args.drop c.args.made.now.items c.push.new.self.items c.args.disk.now c.link_one.new.disk c.in_ok-push.ensures.items
    (c.in_ok-linked.ensures.linked c.if-linked.true)

pub returns-clause-ok : goal.returns-clause-ok
returns-clause-ok g c =
    links_none g.D.Disk.calls c.args.number c.args.drop c.args.made.now.items c.args.disk.now c.link_one.new.disk (c.in_ok-linked.ensures.stays c.if-linked.false)
