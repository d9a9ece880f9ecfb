use Rattle.ledger_laws.specs.Claims.{claim_calls}
use Rattle.ledger_run.{specs.Runs.{seen_ledger}, proofs.Refusing.{keeps}, proofs.Aside.{claims_aside, aside_safe_from, aside_carries_on}}
use Rattle.ledger_run.proofs.claims.claim_beside.Goals as goal

pub returns-in_err-make_claims-clause-kept : goal.returns-in_err-make_claims-clause-kept
returns-in_err-make_claims-clause-kept g c = keeps g.D.Disk.calls c.args.first c.args.drops.now c.args.disk.now c.make_claims.new.disk c.in_err-make_claims.ensures.began

pub returns-clause-kept : goal.returns-clause-kept
returns-clause-kept g c = keeps g.D.Disk.calls c.args.first c.args.drops.now c.args.disk.now c.make_claims.new.disk c.in_ok-make_claims.ensures.began

pub returns-in_err-make_claims-clause-any_moment : goal.returns-in_err-make_claims-clause-any_moment
returns-in_err-make_claims-clause-any_moment g c =
    let b = c.in_err-make_claims.ensures.began in
    aside_safe_from g.D.Disk.calls g.M.Machine.step (seen_ledger c.args.ledger.now) (g.M.Machine.behind c.args.machine.now) (claim_calls c.args.first b.made b.gone) c.args.disk.now c.make_claims.new.disk
    (claims_aside c.args.first b.made b.gone) b.began

pub returns-clause-any_moment : goal.returns-clause-any_moment
returns-clause-any_moment g c =
    let b = c.in_ok-make_claims.ensures.began in
    aside_safe_from g.D.Disk.calls g.M.Machine.step (seen_ledger c.args.ledger.now) (g.M.Machine.behind c.args.machine.now) (claim_calls c.args.first b.made b.gone) c.args.disk.now c.make_claims.new.disk
    (claims_aside c.args.first b.made b.gone) b.began

pub returns-clause-done : goal.returns-clause-done
returns-clause-done g c =
    let d = c.in_ok-make_claims.ensures.did in
    aside_carries_on g.D.Disk.calls g.M.Machine.step (seen_ledger c.args.ledger.now) (g.M.Machine.behind c.args.machine.now)
    (claim_calls c.args.first c.make_claims.new.made.items c.make_claims.new.gone.items) c.args.disk.now c.make_claims.new.disk
    (claims_aside c.args.first c.make_claims.new.made.items c.make_claims.new.gone.items) d.did
