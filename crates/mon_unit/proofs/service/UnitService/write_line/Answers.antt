use Rattle.std.proofs.Common.{rules}
use Rattle.mon_catalogue.specs.Sets.{find_set}
use Rattle.mon_guard.specs.Acting.{Write}
use Rattle.mon_unit.proofs.Acting.{settles}
use Rattle.mon_unit.proofs.service.UnitService.write_line.Goals as goal

pub returns-in_ok-told-in-Set-clause-answered : goal.returns-in_ok-told-in-Set-clause-answered
returns-in_ok-told-in-Set-clause-answered c =
    let kept = settles c.args.self.now.account.now c.args.self.now.units.now c.args.unit (Write c.in-Some.tie.now.position c.args.line.now) (find_set c.in-Set.name c.args.self.now.catalogue.now) in
    search (rules, kept)
