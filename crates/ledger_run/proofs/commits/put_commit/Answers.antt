use Rattle.std.proofs.Common.{[], ◌∷◌}
use Rattle.ledger_run.proofs.Planned.{both, then, within}
use Rattle.ledger_disk.specs.{Disks.{Write, SyncFile, Rename, SyncFolder}, declared.name.Name.TheVariants.{Commit, Draft}}
use Rattle.ledger_disk.specs.declared.name.Folder.TheVariants.{Ledger}
use Rattle.ledger_run.proofs.commits.put_commit.Goals as goal

pub returns-in_err-sync_file-clause-began : goal.returns-in_err-sync_file-clause-began
returns-in_err-sync_file-clause-began g c =
    then g.D.Disk.calls (Write Draft c.args.bytes.now ∷ []) (SyncFile Draft ∷ Rename Draft (Commit c.args.number) ∷ SyncFolder Ledger ∷ []) c.args.disk.now c.write.new.self c.sync_file.new.self c.in_ok-write.ensures.did
    (within g.D.Disk.calls (SyncFile Draft ∷ []) (Rename Draft (Commit c.args.number) ∷ SyncFolder Ledger ∷ []) c.write.new.self c.sync_file.new.self c.in_err-sync_file.ensures.began)

pub returns-in_err-rename-clause-began : goal.returns-in_err-rename-clause-began
returns-in_err-rename-clause-began g c =
    then g.D.Disk.calls (Write Draft c.args.bytes.now ∷ SyncFile Draft ∷ []) (Rename Draft (Commit c.args.number) ∷ SyncFolder Ledger ∷ []) c.args.disk.now c.sync_file.new.self c.rename.new.self
    (both g.D.Disk.calls (Write Draft c.args.bytes.now ∷ []) (SyncFile Draft ∷ []) c.args.disk.now c.write.new.self c.sync_file.new.self c.in_ok-write.ensures.did c.in_ok-sync_file.ensures.did)
    (within g.D.Disk.calls (Rename Draft (Commit c.args.number) ∷ []) (SyncFolder Ledger ∷ []) c.sync_file.new.self c.rename.new.self c.in_err-rename.ensures.began)

pub returns-clause-began : goal.returns-clause-began
returns-clause-began g c =
    then g.D.Disk.calls (Write Draft c.args.bytes.now ∷ SyncFile Draft ∷ Rename Draft (Commit c.args.number) ∷ []) (SyncFolder Ledger ∷ []) c.args.disk.now c.rename.new.self c.sync_folder.new.self
    (both g.D.Disk.calls (Write Draft c.args.bytes.now ∷ SyncFile Draft ∷ []) (Rename Draft (Commit c.args.number) ∷ []) c.args.disk.now c.sync_file.new.self c.rename.new.self
    (both g.D.Disk.calls (Write Draft c.args.bytes.now ∷ []) (SyncFile Draft ∷ []) c.args.disk.now c.write.new.self c.sync_file.new.self c.in_ok-write.ensures.did c.in_ok-sync_file.ensures.did)
    c.in_ok-rename.ensures.did)
    c.sync_folder.ensures.began
