-- Whatever is written, it is a catalogue.
use Rattle.mon_catalogue.proofs.Changing.{still_catalogue}
use Rattle.mon_catalogue.proofs.catalogue.Catalogue.find_mut_near.Goals as goal

pub invariant_of-self-lent : goal.invariant_of-self-lent
invariant_of-self-lent c = λ _. (λ w. still_catalogue c.self.inside.sets.entries _ w c.self.invariant, c.self.invariant)
