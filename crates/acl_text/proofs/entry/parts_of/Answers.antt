use Rattle.acl_text.proofs.Parts.{four_fields}
use Rattle.acl_text.proofs.entry.parts_of.Goals as goal

pub returns-in-Some-rest : goal.returns-in-Some-rest
returns-in-Some-rest c =
    four_fields c.args.tag c.args.fields c.in_ok-fields.field-0 c.cut.result.0.now c.cut.result.1 c.in-Some.rest
    c.cut-in-Some.result.0.now c.cut-in-Some.result.1 c.in-Some-rest.field-0
    c.in_ok-fields.was c.cut.ensures.parts c.in-Some.is c.cut-in-Some.ensures.parts c.in-Some-rest.is
