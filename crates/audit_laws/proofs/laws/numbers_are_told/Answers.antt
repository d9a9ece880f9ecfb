use Rattle.audit_laws.proofs.Telling.{numbers_are_told}
use Rattle.audit_laws.proofs.laws.numbers_are_told.Goals as goal

pub returns : goal.returns
returns c = numbers_are_told
