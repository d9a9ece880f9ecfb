use Rattle.acl_text.proofs.Putting.{head_put}
use Rattle.acl_text.proofs.forms.print_head.Goals as goal

pub returns : goal.returns
returns g c = head_put _ _ _ _ _ _ _ c.args.entry.now c.word.ensures c.qualifier.ensures c.put.ensures c.put-2.ensures c.put-3.ensures c.put-4.ensures
