use Rattle.std.proofs.Common.{◌∙◌}
use Rattle.sno_cards.proofs.Marks.{marks_found}
use Rattle.sno_cards.proofs.cutting.has_marks.Goals as goal

pub returns : goal.returns
returns c = c.is_some.ensures ∙ marks_found c.args.text.now c.memchr3.result c.memchr3.ensures
