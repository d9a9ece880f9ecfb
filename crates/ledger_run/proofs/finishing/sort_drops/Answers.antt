use Rattle.std.proofs.Common.{rules, ◌≡◌, ◌^◌}
use Rattle.ledger_names.specs.Sorting.{done_of, left_of}
use Rattle.ledger_run.proofs.{Looking.{gathers_on}, Sorting.{sorts, sorts_on}}
use Rattle.ledger_run.proofs.finishing.sort_drops.Goals as goal

pub returns-in_err-boxed-clause-err : goal.returns-in_err-boxed-clause-err
returns-in_err-boxed-clause-err g c =
    let a = gathers_on g.D.Disk.calls c.in_ok-files.files.items (2 ^ 64) c.args.disk.now c.claimed_files.new.disk c.see_drops.new.disk c.in_ok-files.ensures.ok c.in_err-boxed.ensures.err in search (rules, a)

pub returns-in_err-sorted-clause-err : goal.returns-in_err-sorted-clause-err
returns-in_err-sorted-clause-err g c =
    let a = sorts_on g.D.Disk.calls c.in_ok-files.files.items c.args.drops.now c.in_ok-boxed.boxed.items c.args.disk.now c.claimed_files.new.disk c.see_drops.new.disk
    c.in_ok-files.ensures.ok c.in_ok-boxed.ensures.ok in search (rules, a)

pub returns-clause-ok : goal.returns-clause-ok
returns-clause-ok g c =
    let done : c.in_ok-sorted.sorted.done.items ≡ done_of c.in_ok-files.files.items c.in_ok-boxed.boxed.items = search rules in
    let left : c.in_ok-sorted.sorted.left.items ≡ left_of c.in_ok-files.files.items c.in_ok-boxed.boxed.items c.in_ok-boxed.boxed.items = search rules in
    sorts g.D.Disk.calls c.in_ok-files.files.items c.args.drops.now c.in_ok-sorted.sorted.done.items c.in_ok-sorted.sorted.left.items c.in_ok-boxed.boxed.items
    c.args.disk.now c.claimed_files.new.disk c.see_drops.new.disk done left c.in_ok-files.ensures.ok c.in_ok-boxed.ensures.ok
