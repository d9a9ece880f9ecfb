use Rattle.std.proofs.Common.{length, map}
use Rattle.mon_acl.{specs.inner.Keys.{bucket_of}, proofs.Keyed.{IsSearched, IsOther}}
use Rattle.mon_acl.proofs.keys.index_of_long.Given as goal

abbrev pub invariant-loop-place : goal.invariant-loop-place
invariant-loop-place l = IsSearched (map bucket_of l.keys) (bucket_of l.key) (length l.keys) l.place (IsOther l.entries l.tag l.name)

abbrev pub decreases-loop-place : goal.decreases-loop-place
decreases-loop-place l = l.place
