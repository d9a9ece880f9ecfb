-- There are at most 100,000 records.
use Rattle.mon_catalogue.proofs.Written.{found_within}
use Rattle.mon_catalogue.proofs.data_set.Records.get.Goals as goal

pub returns-clause-within : goal.returns-clause-within
returns-clause-within c = found_within (λ line. line.now) c.self.inside.lines c.args.index c.get.result c.get.ensures.value c.self.invariant
