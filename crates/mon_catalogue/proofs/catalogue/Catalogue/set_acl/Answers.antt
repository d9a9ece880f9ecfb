use Rattle.std.proofs.Common.{rules}
use Rattle.mon_catalogue.proofs.Changing.{with_list_there}
use Rattle.mon_catalogue.proofs.catalogue.Catalogue.set_acl.Goals as goal

pub returns-in-Some-clause-set : goal.returns-in-Some-clause-set
returns-in-Some-clause-set c =
    let there = with_list_there c.args.name.now c.args.self.now c.in-Some.set.now c.args.acl c.in-Some.ensures.found in
    search (rules, there)
