use Rattle.std.proofs.Common.{◌≡◌, ◌∙◌, Bool, ap, if◌then◌else◌}
use Rattle.mon_access.specs.declared.{access.Decision.TheVariants.{Granted, Denied}, finding.Found.TheVariants.{Nobody, Lacking, Holding}}
use Rattle.mon_access.specs.{declared.access.Decider.TheVariants.{Group as ByGroup, Mask as ByMask, Other as ByOther}, Matches.{is_for_group}}
use Rattle.mon_access.{specs.inner.Kinds.{found}, proofs.Outcomes.{group_holds, group_lacks, no_group}}
use Rattle.mon_access.proofs.access.decision_by_groups.Goals as goal

pub returns-in-Holding : goal.returns-in-Holding
returns-in-Holding c =
    let h : Holding ≡ found (is_for_group c.args.account.now c.args.group.now) c.args.acl.now c.args.request = cc in
    c.decided.ensures
    ∙ ap (λ (b : Bool). if b then Granted else Denied ByMask) c.is_granted_to_groups.ensures
    ∙ group_holds c.args.account.now c.args.group.now c.args.acl.now c.args.request h

pub returns-in-Lacking : goal.returns-in-Lacking
returns-in-Lacking c =
    let h : Lacking c.in-Lacking.index ≡ found (is_for_group c.args.account.now c.args.group.now) c.args.acl.now c.args.request = cc in
    c.decided-in-Lacking.ensures
    ∙ ap (λ (b : Bool). if b then Granted else Denied (ByGroup c.in-Lacking.index)) c.is_granted_to_groups-granted.ensures
    ∙ group_lacks c.args.account.now c.args.group.now c.args.acl.now c.args.request c.in-Lacking.index h

pub returns-in-Nobody : goal.returns-in-Nobody
returns-in-Nobody c =
    let h : Nobody ≡ found (is_for_group c.args.account.now c.args.group.now) c.args.acl.now c.args.request = cc in
    c.decided-in-Nobody.ensures
    ∙ ap (λ (b : Bool). if b then Granted else Denied ByOther) c.type_holds.ensures
    ∙ no_group c.args.account.now c.args.group.now c.args.acl.now c.args.request h
