use Rattle.std.proofs.Common.{◌∙◌}
use Rattle.mon_access.proofs.Halves.{found_at, found_nowhere}
use Rattle.mon_access.proofs.finding.of_name.Goals as goal

pub returns-in-Some : goal.returns-in-Some
returns-in-Some c =
    c.judged.ensures
    ∙ found_at c.args.acl.now c.args.tag c.args.name.now c.requires c.args.request c.perms_at.result c.in-Some.index c.in-Some.ensures.0 c.in-Some.ensures.1 c.perms_at.ensures

pub returns-in-None : goal.returns-in-None
returns-in-None c = found_nowhere c.args.acl.now c.args.tag c.args.name.now c.args.request c.in-None.ensures
