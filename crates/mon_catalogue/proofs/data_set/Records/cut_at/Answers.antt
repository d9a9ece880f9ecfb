-- What stands before the position are records.
use Rattle.std.proofs.Common.{subst, sym}
use Rattle.mon_catalogue.{specs.Records.{AreRecords}, proofs.Written.{still_records}}
use Rattle.mon_catalogue.proofs.data_set.Records.cut_at.Goals as goal

pub invariant_of-self : goal.invariant_of-self
invariant_of-self c = subst AreRecords (sym c.truncate.ensures) (still_records c.args.position _ c.self.invariant)
