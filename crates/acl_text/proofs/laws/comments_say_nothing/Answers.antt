use Rattle.acl_text.proofs.Whole.{comments_say_nothing}
use Rattle.acl_text.proofs.laws.comments_say_nothing.Goals as goal

pub returns : goal.returns
returns c = comments_say_nothing
