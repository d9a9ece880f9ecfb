use Rattle.std.proofs.Common.{◌≡◌, ◌∙◌, Bool, ap, if◌then◌else◌}
use Rattle.mon_access.specs.declared.access.{Decision.TheVariants.{Granted, Denied}, Decider.TheVariants.{Mask as ByMask}}
use Rattle.mon_access.specs.{declared.finding.Found.TheVariants.{Nobody, Lacking, Holding}, Matches.{is_for_user}, inner.Kinds.{found}}
use Rattle.mon_access.proofs.Outcomes.{user_holds, user_lacks, no_user}
use Rattle.mon_access.proofs.access.decision_of_others.Goals as goal

pub returns-in-Holding : goal.returns-in-Holding
returns-in-Holding c =
    let h : Holding ≡ found (is_for_user c.args.account.now) c.args.acl.now c.args.request = cc in
    c.decided.ensures
    ∙ ap (λ (b : Bool). if b then Granted else Denied ByMask) c.type_holds.ensures
    ∙ user_holds c.args.account.now c.args.group.now c.args.acl.now c.args.request h

pub returns-in-Lacking : goal.returns-in-Lacking
returns-in-Lacking c =
    let h : Lacking c.in-Lacking.index ≡ found (is_for_user c.args.account.now) c.args.acl.now c.args.request = cc in
    user_lacks c.args.account.now c.args.group.now c.args.acl.now c.args.request c.in-Lacking.index h

pub returns-in-Nobody : goal.returns-in-Nobody
returns-in-Nobody c =
    let h : Nobody ≡ found (is_for_user c.args.account.now) c.args.acl.now c.args.request = cc in
    c.decision_by_groups.ensures ∙ no_user c.args.account.now c.args.group.now c.args.acl.now c.args.request h
