use Rattle.std.proofs.Common.{[], ◌∷◌}
use Rattle.ledger_run.proofs.Planned.{both, then, within}
use Rattle.ledger_disk.specs.{Disks.{Write, SyncFile, Rename}, declared.name.Name.TheVariants.{Answer, Unfinished}}
use Rattle.ledger_run.proofs.answers.put_answer.Goals as goal

pub returns-in_err-sync_file-clause-began : goal.returns-in_err-sync_file-clause-began
returns-in_err-sync_file-clause-began g c =
    then g.D.Disk.calls (Write Unfinished c.args.bytes.now ∷ []) (SyncFile Unfinished ∷ Rename Unfinished (Answer c.args.number) ∷ []) c.args.disk.now c.write.new.self c.sync_file.new.self c.in_ok-write.ensures.did
    (within g.D.Disk.calls (SyncFile Unfinished ∷ []) (Rename Unfinished (Answer c.args.number) ∷ []) c.write.new.self c.sync_file.new.self c.in_err-sync_file.ensures.began)

pub returns-clause-began : goal.returns-clause-began
returns-clause-began g c =
    then g.D.Disk.calls (Write Unfinished c.args.bytes.now ∷ SyncFile Unfinished ∷ []) (Rename Unfinished (Answer c.args.number) ∷ []) c.args.disk.now c.sync_file.new.self c.rename.new.self
    (both g.D.Disk.calls (Write Unfinished c.args.bytes.now ∷ []) (SyncFile Unfinished ∷ []) c.args.disk.now c.write.new.self c.sync_file.new.self c.in_ok-write.ensures.did c.in_ok-sync_file.ensures.did)
    c.rename.ensures.began
