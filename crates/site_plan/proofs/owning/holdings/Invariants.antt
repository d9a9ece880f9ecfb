-- All accounts before this one have what they own.
use Rattle.std.proofs.Common.{◌≡◌, map, take}
use Rattle.site_plan.specs.Owning.{held_by}
use Rattle.site_plan.proofs.owning.holdings.Given as goal

abbrev pub invariant-loop-place : goal.invariant-loop-place
invariant-loop-place l = l.held.items ≡ map (λ account. held_by l.catalogue account.name) (take l.place l.accounts)
