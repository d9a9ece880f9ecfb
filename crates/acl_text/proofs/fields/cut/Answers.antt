use Rattle.std.proofs.Common.{sym}
use Rattle.acl_text.proofs.Parts.{cut_some, cut_none}
use Rattle.acl_text.proofs.fields.cut.Goals as goal

pub returns-in-Some-clause-parts : goal.returns-in-Some-clause-parts
returns-in-Some-clause-parts c = cut_some _ _ _ (sym c.in-Some.ensures)

pub returns-in-None-clause-parts : goal.returns-in-None-clause-parts
returns-in-None-clause-parts c = cut_none _ _ (sym c.in-None.ensures)
