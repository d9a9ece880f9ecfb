-- Those so far are some of these.
use Rattle.ledger_laws.specs.Claims.{AreOf}
use Rattle.ledger_site.proofs.claiming.others.Given as goal

abbrev pub invariant-loop-place : goal.invariant-loop-place
invariant-loop-place l = AreOf l.others.items l.drops
