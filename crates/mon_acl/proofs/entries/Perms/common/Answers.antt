use Rattle.mon_acl.proofs.Bits.{both}
use Rattle.mon_acl.proofs.entries.Perms.common.Goals as goal

pub returns : goal.returns
returns c = rw (← c.self.view_is, ← c.other.view_is) (both c.self.inside.bits c.other.inside.bits c.self.invariant c.other.invariant)
