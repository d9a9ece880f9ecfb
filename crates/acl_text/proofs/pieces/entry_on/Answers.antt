use Rattle.acl_text.proofs.Parts.{first_part}
use Rattle.acl_text.proofs.pieces.entry_on.Goals as goal

pub returns-then-commented : goal.returns-then-commented
returns-then-commented c = first_part c.args.line.now c.cut.result.0.now _ c.cut.ensures.parts
