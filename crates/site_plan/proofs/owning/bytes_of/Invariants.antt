-- With the records that are left it comes to the bytes of all.
use Rattle.std.proofs.Common.{◌≡◌, drop}
use Rattle.std.specs.List.{fold}
use Rattle.site_plan.specs.Owning.{with_record, bytes_of}
use Rattle.site_plan.proofs.owning.bytes_of.Given as goal

abbrev pub invariant-loop-index : goal.invariant-loop-index
invariant-loop-index l = fold with_record l.bytes (drop l.index l.records) ≡ bytes_of l.records
