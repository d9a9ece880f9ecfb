use Rattle.std.proofs.Common.{rules, List, sym, subst}
use Rattle.ledger_disk.specs.declared.{identity.Identity.{Identity}, name.Name.TheVariants.{Claimed}}
use Rattle.ledger_run.{specs.Finishing.{Looks, Adds}, proofs.Looking.{looks_none, looked_any, adds_file, adds_none}}
use Rattle.ledger_run.proofs.finishing.add_file.Goals as goal

pub returns-in_err-file-clause-err : goal.returns-in_err-file-clause-err
returns-in_err-file-clause-err g c = let a = looks_none g.D.Disk.calls c.args.disk.now c.look.new.self c.in_err-file.ensures.none in search (rules, a)

pub returns-in_err-push-in-Some-clause-err : goal.returns-in_err-push-in-Some-clause-err
returns-in_err-push-in-Some-clause-err g c = let a = looked_any g.D.Disk.calls (Claimed c.args.number) c.in_ok-file.field-0 c.args.disk.now c.look.new.self c.in_ok-file.ensures.did in search (rules, a)

pub returns-in_ok-push-in-Some-clause-ok : goal.returns-in_ok-push-in-Some-clause-ok
returns-in_ok-push-in-Some-clause-ok g c =
    subst (λ (l : List Identity). Looks g.D.Disk.calls (Adds c.args.number c.args.files.now.items l) c.args.disk.now c.look.new.self) (sym c.in_ok-push-in-Some.ensures.items)
    (adds_file g.D.Disk.calls c.args.number c.in-Some.file c.in_ok-file.field-0 c.args.files.now.items c.args.disk.now c.look.new.self c.in-Some.is c.in_ok-file.ensures.did)

pub returns-in-None-clause-ok : goal.returns-in-None-clause-ok
returns-in-None-clause-ok g c = adds_none g.D.Disk.calls c.args.number c.in_ok-file.field-0 c.args.files.now.items c.args.disk.now c.look.new.self c.in-None.is c.in_ok-file.ensures.did
