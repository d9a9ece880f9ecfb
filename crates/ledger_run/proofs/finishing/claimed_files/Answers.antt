use Rattle.std.proofs.Common.{rules, ℕ, Option, ◌^◌, subst}
use Rattle.ledger_run.{specs.Finishing.{Looks, Gathered, bound}, proofs.Looking.{gathers_none, gathers_then, gathers_on, gathers_any}}
use Rattle.ledger_run.proofs.finishing.claimed_files.Goals as goal

pub loop-init : goal.loop-init
loop-init g c = gathers_none g.D.Disk.calls c.new-files.result.items c.args.disk.now c.new-files.ensures.items

pub loop-preserved : goal.loop-preserved
loop-preserved g c =
    gathers_then g.D.Disk.calls c.loop.files.items c.add_next.new.files.items c.loop.from c.in-Some.next c.args.disk.now c.loop.disk c.add_next.new.disk c.loop.invariant
    (subst (λ (o : Option ℕ). Looks g.D.Disk.calls (λ which. Gathered c.loop.files.items c.loop.from which → Gathered c.add_next.new.files.items (bound o) which) c.loop.disk c.add_next.new.disk)
    c.in-Some.is c.in_ok-next.ensures.ok)

pub returns-in-None-clause-ok : goal.returns-in-None-clause-ok
returns-in-None-clause-ok g c =
    gathers_then g.D.Disk.calls c.loop.files.items c.add_next.new.files.items c.loop.from (2 ^ 64) c.args.disk.now c.loop.disk c.add_next.new.disk c.loop.invariant
    (subst (λ (o : Option ℕ). Looks g.D.Disk.calls (λ which. Gathered c.loop.files.items c.loop.from which → Gathered c.add_next.new.files.items (bound o) which) c.loop.disk c.add_next.new.disk)
    c.in-None.is c.in_ok-next.ensures.ok)

pub returns-in_err-next-clause-err : goal.returns-in_err-next-clause-err
returns-in_err-next-clause-err g c = let a = gathers_on g.D.Disk.calls c.loop.files.items c.loop.from c.args.disk.now c.loop.disk c.add_next.new.disk c.loop.invariant c.in_err-next.ensures.err in search (rules, a)

pub returns-clause-err : goal.returns-clause-err
returns-clause-err g c = gathers_any g.D.Disk.calls c.loop.files.items c.loop.from c.args.disk.now c.loop.disk c.loop.invariant
