use Rattle.std.proofs.Common.{◌≡◌, length, map}
use Rattle.mon_acl.specs.inner.{Keys.{bucket_of}, Chains.{IsChained}}
use Rattle.mon_acl.proofs.keys.chains_of.Given as goal

abbrev pub invariant-loop-i : goal.invariant-loop-i
invariant-loop-i l = record {
  firsts : length l.first ≡ 128;
  nexts : length l.next ≡ 104;
  chained : IsChained (map bucket_of l.keys) l.i l.first l.next;
}
