use Rattle.acl_text.proofs.Putting.{line_put}
use Rattle.acl_text.proofs.forms.print_line.Goals as goal

pub returns : goal.returns
returns g c = line_put _ _ _ _ c.args.mask _ c.args.entry.now c.effective.ensures c.print_entry.ensures c.print_effective.ensures c.put.ensures
