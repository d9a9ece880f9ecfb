use Rattle.std.proofs.Common.{rules}
use Rattle.ledger_run.proofs.Looking.{looks_none, none_next, adds_next, next_then}
use Rattle.ledger_run.proofs.finishing.add_next.Goals as goal

pub returns-in_err-number-clause-err : goal.returns-in_err-number-clause-err
returns-in_err-number-clause-err g c = let a = looks_none g.D.Disk.calls c.args.disk.now c.next_claimed.new.self c.in_err-number.ensures.none in search (rules, a)

pub returns-in_default-clause-ok : goal.returns-in_default-clause-ok
returns-in_default-clause-ok g c =
    none_next g.D.Disk.calls c.args.from c.in_ok-number.field-0 c.args.files.now.items c.args.disk.now c.next_claimed.new.self c.in_default.is c.in_ok-number.ensures.did

pub returns-in_err-add_file-clause-err : goal.returns-in_err-add_file-clause-err
returns-in_err-add_file-clause-err g c = let a = next_then g.D.Disk.calls c.args.from c.in_ok-number.field-0 c.args.disk.now c.next_claimed.new.self c.add_file.new.disk c.in_ok-number.ensures.did c.in_err-add_file.ensures.err in search (rules, a)

pub returns-clause-ok : goal.returns-clause-ok
returns-clause-ok g c =
    adds_next g.D.Disk.calls c.args.from c.in-Some.number c.in_ok-number.field-0 c.behind.result c.args.files.now.items c.add_file.new.files.items c.args.disk.now c.next_claimed.new.self c.add_file.new.disk
    c.in-Some.is c.in_ok-number.ensures.did c.in_ok-add_file.ensures.ok c.behind.ensures
