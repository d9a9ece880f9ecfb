use Rattle.std.proofs.Common.{◌≡◌, ◌∙◌, ap₂, sym}
use Rattle.mon_access.specs.{declared.finding.Found.TheVariants.{Holding}, Matches.{is_for_named_group}, inner.Kinds.{found, joined}}
use Rattle.mon_access.proofs.Together.{owning_last, named_hold}
use Rattle.mon_access.proofs.finding.of_groups.Goals as goal

pub returns-in-Holding : goal.returns-in-Holding
returns-in-Holding c =
    let so : c.of_named_groups-named.result ≡ Holding = cc in
    let said : c.of_named_groups-named.result ≡ found (is_for_named_group c.args.account.now) c.args.acl.now c.args.request = c.of_named_groups-named.ensures in
    so ∙ named_hold c.args.account.now c.args.group.now c.args.acl.now c.args.request (sym so ∙ said)

pub returns : goal.returns
returns c =
    c.joined.ensures ∙ ap₂ joined c.of_named_groups-named.ensures c.of_owning_group_to.ensures ∙ owning_last c.args.account.now c.args.group.now c.args.acl.now c.args.request
