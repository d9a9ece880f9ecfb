use Rattle.std.proofs.Common.{ℕ, List, [], ◌∷◌, subst}
use Rattle.ledger_disk.specs.{declared.name.Folder.TheVariants.{Boxes}, Disks.{SyncFolder}}
use Rattle.ledger_laws.specs.Claims.{removals}
use Rattle.ledger_run.{specs.Claiming.{DoesSome, DidSome}, proofs.Planned.{whole}, proofs.Refusing.{begun_links, begun_taken, begun_removals, begun_boxes}}
use Rattle.ledger_run.proofs.claims.make_claims.Goals as goal

pub returns-in_err-link_each-clause-began : goal.returns-in_err-link_each-clause-began
returns-in_err-link_each-clause-began g c = begun_links g.D.Disk.calls c.args.first c.args.drops.now c.args.disk.now c.link_each.new.disk c.in_err-link_each.ensures.err

pub returns-in_err-sync_folder-clause-began : goal.returns-in_err-sync_folder-clause-began
returns-in_err-sync_folder-clause-began g c =
    begun_taken g.D.Disk.calls c.args.first c.args.drops.now c.args.disk.now c.link_each.new.made.items c.link_each.new.disk c.in_ok-link_each.ensures.ok c.sync_folder.new.self c.in_err-sync_folder.ensures.began

pub returns-in_err-remove_each-clause-began : goal.returns-in_err-remove_each-clause-began
returns-in_err-remove_each-clause-began g c =
    begun_removals g.D.Disk.calls c.args.first c.args.drops.now c.args.disk.now c.link_each.new.made.items c.link_each.new.disk c.in_ok-link_each.ensures.ok c.sync_folder.new.self
    c.in_ok-sync_folder.ensures.did c.remove_each.new.disk
    (subst (λ (l : List ℕ). DidSome g.D.Disk.calls removals l c.sync_folder.new.self c.remove_each.new.disk) c.deref.ensures.value c.in_err-remove_each.ensures.err)

pub returns-in_err-sync_folder-2-clause-began : goal.returns-in_err-sync_folder-2-clause-began
returns-in_err-sync_folder-2-clause-began g c =
    begun_boxes g.D.Disk.calls c.args.first c.args.drops.now c.args.disk.now c.link_each.new.made.items c.link_each.new.disk c.in_ok-link_each.ensures.ok c.sync_folder.new.self
    c.in_ok-sync_folder.ensures.did c.remove_each.new.gone.items c.remove_each.new.disk
    (subst (λ (l : List ℕ). DoesSome g.D.Disk.calls removals l c.remove_each.new.gone.items c.sync_folder.new.self c.remove_each.new.disk) c.deref.ensures.value c.in_ok-remove_each.ensures.ok)
    c.sync_folder-2.new.self c.in_err-sync_folder-2.ensures.began

pub returns-clause-began : goal.returns-clause-began
returns-clause-began g c =
    begun_boxes g.D.Disk.calls c.args.first c.args.drops.now c.args.disk.now c.link_each.new.made.items c.link_each.new.disk c.in_ok-link_each.ensures.ok c.sync_folder.new.self
    c.in_ok-sync_folder.ensures.did c.remove_each.new.gone.items c.remove_each.new.disk
    (subst (λ (l : List ℕ). DoesSome g.D.Disk.calls removals l c.remove_each.new.gone.items c.sync_folder.new.self c.remove_each.new.disk) c.deref.ensures.value c.in_ok-remove_each.ensures.ok)
    c.sync_folder-2.new.self (whole g.D.Disk.calls (SyncFolder Boxes ∷ []) c.remove_each.new.disk c.sync_folder-2.new.self c.in_ok-sync_folder-2.ensures.did)
