use Rattle.std.proofs.Common.{[], ◌∷◌, refl}
use Rattle.ledger_disk.specs.{Disks.{Remove}, declared.name.Name.TheVariants.{Claimed}}
use Rattle.ledger_run.specs.Runs.{seen_ledger}
use Rattle.ledger_run.proofs.{Planned.{whole}, Safety.{still_safe}, Aside.{removed_aside, aside_safe_from, aside_carries_on}}
use Rattle.ledger_run.proofs.claims.remove_claimed.Goals as goal

pub returns-then-ledger-number-clause-any_moment : goal.returns-then-ledger-number-clause-any_moment
returns-then-ledger-number-clause-any_moment g c =
    still_safe g.D.Disk.calls g.M.Machine.step (seen_ledger c.args.ledger.now) (g.M.Machine.behind c.args.machine.now) c.args.disk.now c.args.disk.now refl

pub returns-in_err-remove-clause-any_moment : goal.returns-in_err-remove-clause-any_moment
returns-in_err-remove-clause-any_moment g c =
    still_safe g.D.Disk.calls g.M.Machine.step (seen_ledger c.args.ledger.now) (g.M.Machine.behind c.args.machine.now) c.args.disk.now c.remove.new.self c.in_err-remove.ensures.none

pub returns-clause-any_moment : goal.returns-clause-any_moment
returns-clause-any_moment g c =
    aside_safe_from g.D.Disk.calls g.M.Machine.step (seen_ledger c.args.ledger.now) (g.M.Machine.behind c.args.machine.now) (Remove (Claimed c.args.number) ∷ []) c.args.disk.now c.remove.new.self
    (removed_aside c.args.number) (whole g.D.Disk.calls (Remove (Claimed c.args.number) ∷ []) c.args.disk.now c.remove.new.self c.in_ok-remove.ensures.did)

pub returns-clause-done : goal.returns-clause-done
returns-clause-done g c =
    aside_carries_on g.D.Disk.calls g.M.Machine.step (seen_ledger c.args.ledger.now) (g.M.Machine.behind c.args.machine.now) (Remove (Claimed c.args.number) ∷ []) c.args.disk.now c.remove.new.self
    (removed_aside c.args.number) c.in_ok-remove.ensures.did
