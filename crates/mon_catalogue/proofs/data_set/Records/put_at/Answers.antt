-- What stands before the position and the line behind it are records.
use Rattle.std.proofs.Common.{arith}
use Rattle.mon_catalogue.proofs.Written.{still_records_put}
use Rattle.mon_catalogue.proofs.data_set.Records.put_at.Goals as goal

pub invariant_of-self : goal.invariant_of-self
invariant_of-self c =
    rw c.put_at.ensures (still_records_put _ _ _ (grind arith) (grind arith) c.self.invariant)
