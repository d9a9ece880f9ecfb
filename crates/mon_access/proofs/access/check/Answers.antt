use Rattle.std.proofs.Common.{rules, ◌≡◌, ◌∙◌, Bool, true, false, ap, if◌then◌else◌}
use Rattle.mon_access.specs.declared.access.{Decision.TheVariants.{Granted, Denied}, Decider.TheVariants.{UserObj as ByUserObj}}
use Rattle.mon_access.specs.{Matches.{is_owner}, AccessCheck.{decision}}
use Rattle.mon_access.proofs.access.check.Goals as goal

pub returns-then-eq : goal.returns-then-eq
unfolding decision
returns-then-eq c =
    let own : is_owner c.args.account.now c.args.owner.now ≡ true = search rules in
    rw (← c.index.ensures.value, own) (c.decided.ensures ∙ ap (λ (b : Bool). if b then Granted else Denied ByUserObj) c.type_holds.ensures)

pub returns-else-eq : goal.returns-else-eq
unfolding decision
returns-else-eq c =
    let other : is_owner c.args.account.now c.args.owner.now ≡ false = search rules in
    rw (← c.index.ensures.value, other) c.decision_of_others.ensures
