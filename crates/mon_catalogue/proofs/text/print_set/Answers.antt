use Rattle.mon_catalogue.proofs.Putting.{set_put}
use Rattle.mon_catalogue.proofs.text.print_set.Goals as goal

pub returns : goal.returns
returns g c = set_put _ _ _ _ _ c.args.name.now c.args.set.now c.print_head.ensures c.print_short.ensures c.put.ensures c.print_lines.ensures
