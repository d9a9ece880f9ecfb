use Rattle.std.proofs.Common.{rules, List, sym, subst}
use Rattle.ledger_disk.specs.declared.name.Name.TheVariants.{Dropped}
use Rattle.ledger_names.specs.declared.sorting.Boxed.{Boxed}
use Rattle.ledger_run.{specs.Finishing.{Looks}, specs.Sorting.{SeesOne}, proofs.Looking.{looks_none, looked_any}, proofs.Sorting.{sees_file, sees_none}}
use Rattle.ledger_run.proofs.finishing.see_drop.Goals as goal

pub returns-in_err-file-clause-err : goal.returns-in_err-file-clause-err
returns-in_err-file-clause-err g c = let a = looks_none g.D.Disk.calls c.args.disk.now c.look.new.self c.in_err-file.ensures.none in search (rules, a)

pub returns-in_err-push-in-Some-clause-err : goal.returns-in_err-push-in-Some-clause-err
returns-in_err-push-in-Some-clause-err g c = let a = looked_any g.D.Disk.calls (Dropped c.args.drop) c.in_ok-file.field-0 c.args.disk.now c.look.new.self c.in_ok-file.ensures.did in search (rules, a)

pub returns-in_ok-push-in-Some-clause-ok : goal.returns-in_ok-push-in-Some-clause-ok
returns-in_ok-push-in-Some-clause-ok g c =
    subst (λ (l : List Boxed). Looks g.D.Disk.calls (SeesOne c.args.drop c.args.boxed.now.items l) c.args.disk.now c.look.new.self) (sym c.in_ok-push-in-Some.ensures.items)
    (sees_file g.D.Disk.calls c.args.drop c.in-Some.file c.in_ok-file.field-0 c.args.boxed.now.items c.args.disk.now c.look.new.self c.in-Some.is c.in_ok-file.ensures.did)

pub returns-in-None-clause-ok : goal.returns-in-None-clause-ok
returns-in-None-clause-ok g c = sees_none g.D.Disk.calls c.args.drop c.in_ok-file.field-0 c.args.boxed.now.items c.args.disk.now c.look.new.self c.in-None.is c.in_ok-file.ensures.did
