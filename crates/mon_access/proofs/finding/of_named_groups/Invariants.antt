use Rattle.std.proofs.Common.{◌≡◌, take}
use Rattle.mon_access.specs.inner.Kinds.{found, is_so_far}
use Rattle.mon_access.proofs.finding.of_named_groups.Given as goal

abbrev pub invariant-loop-name : goal.invariant-loop-name
invariant-loop-name l = l.so_far ≡ found (is_so_far l.account (take l.name-index l.account.groups)) l.acl l.request
