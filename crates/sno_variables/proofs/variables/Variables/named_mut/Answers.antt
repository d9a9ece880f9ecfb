-- Whatever is written, no two names are equal.
use Rattle.sno_variables.proofs.Places.{still_distinct}
use Rattle.sno_variables.proofs.variables.Variables.named_mut.Goals as goal

pub invariant_of-self-lent : goal.invariant_of-self-lent
invariant_of-self-lent c = λ _. (λ w. still_distinct c.self.inside.variables.entries _ w c.self.invariant, c.self.invariant)
