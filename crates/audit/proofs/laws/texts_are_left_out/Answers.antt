use Rattle.std.proofs.Common.{refl}
use Rattle.audit.proofs.laws.texts_are_left_out.Goals as goal

pub returns : goal.returns
returns c = λ n account reach statement unit line other asked answer. (refl, refl)
