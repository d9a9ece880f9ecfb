use Rattle.std.proofs.Common.{rules, ◌≤◌, ℕ, ◌+◌, List, ◌++◌, length, refl, ap, ◌∙◌, subst}
use Rattle.ledger_run.specs.{Runs.{seen_ledger}, Claiming.{ClaimsSome}}
use Rattle.ledger_run.proofs.Safety.{still_safe, still_on, safe_then, on_then}
use Rattle.ledger_site.{specs.Claiming.{numbered}, proofs.InPasses.{starts, goes_on, ends, claims_keep, are_same, are_all}}
use Rattle.ledger_site.proofs.claiming.claim_all.Goals as goal

pub returns-in_err-to_vec-clause-any_moment : goal.returns-in_err-to_vec-clause-any_moment
returns-in_err-to_vec-clause-any_moment g c =
    still_safe g.D.Disk.calls g.M.Machine.step (seen_ledger c.args.ledger.now) (g.M.Machine.behind c.args.machine.now) c.args.disk.now c.args.disk.now refl

pub loop-init : goal.loop-init
loop-init g c = record {
  safe = still_safe g.D.Disk.calls g.M.Machine.step (seen_ledger c.args.ledger.now) (g.M.Machine.behind c.args.machine.now) c.args.disk.now c.args.disk.now refl;
  on = still_on g.D.Disk.calls g.M.Machine.step (seen_ledger c.args.ledger.now) (g.M.Machine.behind c.args.machine.now) c.args.disk.now c.args.disk.now refl;
  claimed = starts g.D.Disk.calls c.args.first c.args.drops.now c.new.result.items c.args.disk.now c.new.ensures.items;
  rest = are_same c.in_ok-to_vec.field-0.items c.args.drops.now (search rules);
}

pub returns-in_err-claims-clause-any_moment : goal.returns-in_err-claims-clause-any_moment
returns-in_err-claims-clause-any_moment g c =
    safe_then g.D.Disk.calls g.M.Machine.step (seen_ledger c.args.ledger.now) (seen_ledger c.args.ledger.now) (g.M.Machine.behind c.args.machine.now) (g.M.Machine.behind c.args.machine.now)
    c.args.disk.now c.loop.disk c.claim_some.new.disk c.loop.invariant.safe c.loop.invariant.on c.claim_some.ensures.any_moment

pub returns-in_err-follow-clause-any_moment : goal.returns-in_err-follow-clause-any_moment
returns-in_err-follow-clause-any_moment g c =
    safe_then g.D.Disk.calls g.M.Machine.step (seen_ledger c.args.ledger.now) (seen_ledger c.args.ledger.now) (g.M.Machine.behind c.args.machine.now) (g.M.Machine.behind c.args.machine.now)
    c.args.disk.now c.loop.disk c.claim_some.new.disk c.loop.invariant.safe c.loop.invariant.on c.claim_some.ensures.any_moment

pub loop-preserved : goal.loop-preserved
loop-preserved g c = record {
  safe =
      safe_then g.D.Disk.calls g.M.Machine.step (seen_ledger c.args.ledger.now) (seen_ledger c.args.ledger.now) (g.M.Machine.behind c.args.machine.now) (g.M.Machine.behind c.args.machine.now)
      c.args.disk.now c.loop.disk c.claim_some.new.disk c.loop.invariant.safe c.loop.invariant.on c.claim_some.ensures.any_moment;
  on =
      on_then g.D.Disk.calls g.M.Machine.step (seen_ledger c.args.ledger.now) (seen_ledger c.args.ledger.now) (seen_ledger c.args.ledger.now) (g.M.Machine.behind c.args.machine.now) (g.M.Machine.behind c.args.machine.now) (g.M.Machine.behind c.args.machine.now)
      c.args.disk.now c.loop.disk c.claim_some.new.disk c.loop.invariant.on c.in_ok-claims.ensures.done;
  claimed = (let did = (subst (λ (l : List ℕ). ClaimsSome g.D.Disk.calls c.loop.passes.next l c.in_ok-claims.claims.made.items c.in_ok-claims.claims.gone.items c.loop.disk c.claim_some.new.disk) c.deref.ensures.value
      c.in_ok-claims.ensures.did) in
      goes_on g.D.Disk.calls c.args.first c.args.drops.now c.loop.passes.next c.follow.new.self.next c.loop.passes.rest.items c.in_ok-claims.claims.made.items c.in_ok-claims.claims.gone.items
      c.loop.passes.all.items c.follow.new.self.all.items c.args.disk.now c.loop.disk c.claim_some.new.disk c.loop.invariant.claimed c.loop.invariant.rest did.are did.left did.did
      (c.in_ok-follow.ensures.all ∙ ap (λ (l : List ℕ). c.loop.passes.all.items ++ numbered c.loop.passes.next l) c.deref-in-loop.ensures.value)
      (subst (λ (l : List ℕ). c.loop.passes.next + length l ≤ c.follow.new.self.next) c.deref-in-loop.ensures.value c.in_ok-follow.ensures.next));
  rest = are_all c.follow.new.self.rest.items c.loop.passes.rest.items c.args.drops.now c.in_ok-follow.ensures.rest c.loop.invariant.rest;
}

pub returns-then-is_empty-clause-any_moment : goal.returns-then-is_empty-clause-any_moment
returns-then-is_empty-clause-any_moment g c =
    safe_then g.D.Disk.calls g.M.Machine.step (seen_ledger c.args.ledger.now) (seen_ledger c.args.ledger.now) (g.M.Machine.behind c.args.machine.now) (g.M.Machine.behind c.args.machine.now)
    c.args.disk.now c.loop.disk c.claim_some.new.disk c.loop.invariant.safe c.loop.invariant.on c.claim_some.ensures.any_moment

pub returns-then-is_empty-clause-done : goal.returns-then-is_empty-clause-done
returns-then-is_empty-clause-done g c =
    on_then g.D.Disk.calls g.M.Machine.step (seen_ledger c.args.ledger.now) (seen_ledger c.args.ledger.now) (seen_ledger c.args.ledger.now) (g.M.Machine.behind c.args.machine.now) (g.M.Machine.behind c.args.machine.now) (g.M.Machine.behind c.args.machine.now)
    c.args.disk.now c.loop.disk c.claim_some.new.disk c.loop.invariant.on c.in_ok-claims.ensures.done

pub returns-then-is_empty-clause-did : goal.returns-then-is_empty-clause-did
returns-then-is_empty-clause-did g c =
    ends g.D.Disk.calls c.args.first c.args.drops.now c.follow.new.self.next c.follow.new.self.all.items c.args.disk.now c.claim_some.new.disk
    (let did = (subst (λ (l : List ℕ). ClaimsSome g.D.Disk.calls c.loop.passes.next l c.in_ok-claims.claims.made.items c.in_ok-claims.claims.gone.items c.loop.disk c.claim_some.new.disk) c.deref.ensures.value
    c.in_ok-claims.ensures.did) in
    goes_on g.D.Disk.calls c.args.first c.args.drops.now c.loop.passes.next c.follow.new.self.next c.loop.passes.rest.items c.in_ok-claims.claims.made.items c.in_ok-claims.claims.gone.items
    c.loop.passes.all.items c.follow.new.self.all.items c.args.disk.now c.loop.disk c.claim_some.new.disk c.loop.invariant.claimed c.loop.invariant.rest did.are did.left did.did
    (c.in_ok-follow.ensures.all ∙ ap (λ (l : List ℕ). c.loop.passes.all.items ++ numbered c.loop.passes.next l) c.deref-in-loop.ensures.value)
    (subst (λ (l : List ℕ). c.loop.passes.next + length l ≤ c.follow.new.self.next) c.deref-in-loop.ensures.value c.in_ok-follow.ensures.next))

pub returns-then-is_empty-clause-kept : goal.returns-then-is_empty-clause-kept
returns-then-is_empty-clause-kept g c =
    claims_keep g.D.Disk.calls c.args.first c.args.drops.now c.follow.new.self.all.items c.args.disk.now c.claim_some.new.disk
    (ends g.D.Disk.calls c.args.first c.args.drops.now c.follow.new.self.next c.follow.new.self.all.items c.args.disk.now c.claim_some.new.disk
    (let did = (subst (λ (l : List ℕ). ClaimsSome g.D.Disk.calls c.loop.passes.next l c.in_ok-claims.claims.made.items c.in_ok-claims.claims.gone.items c.loop.disk c.claim_some.new.disk) c.deref.ensures.value
    c.in_ok-claims.ensures.did) in
    goes_on g.D.Disk.calls c.args.first c.args.drops.now c.loop.passes.next c.follow.new.self.next c.loop.passes.rest.items c.in_ok-claims.claims.made.items c.in_ok-claims.claims.gone.items
    c.loop.passes.all.items c.follow.new.self.all.items c.args.disk.now c.loop.disk c.claim_some.new.disk c.loop.invariant.claimed c.loop.invariant.rest did.are did.left did.did
    (c.in_ok-follow.ensures.all ∙ ap (λ (l : List ℕ). c.loop.passes.all.items ++ numbered c.loop.passes.next l) c.deref-in-loop.ensures.value)
    (subst (λ (l : List ℕ). c.loop.passes.next + length l ≤ c.follow.new.self.next) c.deref-in-loop.ensures.value c.in_ok-follow.ensures.next)))

pub returns-clause-did : goal.returns-clause-did
returns-clause-did g c = ends g.D.Disk.calls c.args.first c.args.drops.now c.loop.passes.next c.loop.passes.all.items c.args.disk.now c.loop.disk c.loop.invariant.claimed

pub returns-clause-kept : goal.returns-clause-kept
returns-clause-kept g c =
    claims_keep g.D.Disk.calls c.args.first c.args.drops.now c.loop.passes.all.items c.args.disk.now c.loop.disk
    (ends g.D.Disk.calls c.args.first c.args.drops.now c.loop.passes.next c.loop.passes.all.items c.args.disk.now c.loop.disk c.loop.invariant.claimed)
