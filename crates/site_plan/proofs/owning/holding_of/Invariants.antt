-- With the data sets that are left it comes to what the account owns.
use Rattle.std.proofs.Common.{◌≡◌, drop}
use Rattle.site_plan.specs.Owning.{with_sets, held_by}
use Rattle.site_plan.proofs.owning.holding_of.Given as goal

abbrev pub invariant-loop-place : goal.invariant-loop-place
invariant-loop-place l = with_sets l.own l.held (drop l.place l.catalogue) ≡ held_by l.catalogue l.own
