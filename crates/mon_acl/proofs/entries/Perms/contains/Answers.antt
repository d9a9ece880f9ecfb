use Rattle.mon_acl.proofs.Bits.{held}
use Rattle.mon_acl.proofs.entries.Perms.contains.Goals as goal

pub returns : goal.returns
returns c = rw (← c.self.view_is, ← c.request.view_is) (held c.self.inside.bits c.request.inside.bits c.self.invariant c.request.invariant)
