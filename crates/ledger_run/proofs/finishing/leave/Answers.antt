use Rattle.std.proofs.Common.{[], ◌∷◌}
use Rattle.ledger_disk.specs.{Disks.{SyncFolder}, declared.name.Folder.TheVariants.{Boxes}}
use Rattle.ledger_run.proofs.{Planned.{whole}, Refusing.{left_begun, left_some}}
use Rattle.ledger_run.proofs.finishing.leave.Goals as goal

pub returns-in_err-remove_each-clause-began : goal.returns-in_err-remove_each-clause-began
returns-in_err-remove_each-clause-began g c = left_some g.D.Disk.calls c.args.done.now c.args.disk.now c.remove_each.new.disk c.in_err-remove_each.ensures.err

pub returns-in_err-sync_folder-clause-began : goal.returns-in_err-sync_folder-clause-began
returns-in_err-sync_folder-clause-began g c =
    left_begun g.D.Disk.calls c.args.done.now c.args.disk.now c.remove_each.new.disk c.sync_folder.new.self
    (record { some = c.remove_each.new.gone.items; does = c.in_ok-remove_each.ensures.ok }) c.in_err-sync_folder.ensures.began

pub returns-clause-began : goal.returns-clause-began
returns-clause-began g c =
    left_begun g.D.Disk.calls c.args.done.now c.args.disk.now c.remove_each.new.disk c.sync_folder.new.self
    (record { some = c.remove_each.new.gone.items; does = c.in_ok-remove_each.ensures.ok })
    (whole g.D.Disk.calls (SyncFolder Boxes ∷ []) c.remove_each.new.disk c.sync_folder.new.self c.in_ok-sync_folder.ensures.did)
