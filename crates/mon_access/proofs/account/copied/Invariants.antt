use Rattle.std.proofs.Common.{◌≡◌, take}
use Rattle.mon_access.proofs.account.copied.Given as goal

abbrev pub invariant-loop-name : goal.invariant-loop-name
invariant-loop-name l = l.groups ≡ take l.name-index l.names
