-- An entry is named where the check grants.
use Rattle.std.proofs.Common.{◌≡◌, rules, sym, ap, subst, ◌∙◌}
use Rattle.mon_access.{specs.declared.access.Decision.{Decision}, specs.AccessCheck.{case_of}, specs.Granting.{holder, granting}, proofs.Naming.{if_granted}}
use Rattle.mon_access.proofs.grantor.granting.Goals as goal

pub returns-in-Granted : goal.returns-in-Granted
unfolding granting
returns-in-Granted c =
    let named = holder (case_of c.args.account.now c.args.owner.now c.args.group.now c.args.acl.now) c.args.account.now c.args.group.now c.args.acl.now c.args.request in
    subst (λ (d : Decision). c.holder.result ≡ if_granted d named) (sym (sym c.check.ensures ∙ c.in-Granted.is)) (search rules)

pub returns-in-Denied : goal.returns-in-Denied
unfolding granting
returns-in-Denied c =
    let named = holder (case_of c.args.account.now c.args.owner.now c.args.group.now c.args.acl.now) c.args.account.now c.args.group.now c.args.acl.now c.args.request in
    ap (λ (d : Decision). if_granted d named) (sym (sym c.check.ensures ∙ c.in-Denied.is))
