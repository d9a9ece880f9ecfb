use Rattle.std.proofs.Common.{◌≡◌, ◌≤◌, ◌-◌, length}
use Rattle.std.specs.{List.{AllWithin}, declared.cmp.Ordering.TheVariants.{Greater}}
use Rattle.mon_acl.specs.Entries.{compared}
use Rattle.acl_text.proofs.sorted_entries.free_place.Given as goal

abbrev pub invariant-loop-place : goal.invariant-loop-place
invariant-loop-place l = record {
  within : l.place ≤ length l.entries;
  behind : AllWithin (λ y. compared y l.entry ≡ Greater) l.entries l.place (length l.entries);
}

abbrev pub decreases-loop-place : goal.decreases-loop-place
decreases-loop-place l = l.place - l.lowest
