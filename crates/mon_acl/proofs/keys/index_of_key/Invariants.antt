use Rattle.std.proofs.Common.{length, map}
use Rattle.mon_acl.{specs.inner.Keys.{bucket_of}, proofs.Keyed.{IsSearched, IsOtherKey}}
use Rattle.mon_acl.proofs.keys.index_of_key.Given as goal

abbrev pub invariant-loop-place : goal.invariant-loop-place
invariant-loop-place l = IsSearched (map bucket_of l.keys) (bucket_of l.key) (length l.keys) l.place (IsOtherKey l.keys l.key)

abbrev pub decreases-loop-place : goal.decreases-loop-place
decreases-loop-place l = l.place
