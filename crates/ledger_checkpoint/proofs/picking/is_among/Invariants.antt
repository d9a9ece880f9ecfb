-- None of those so far is it.
use Rattle.std.proofs.Common.{◌≡◌, map, drop}
use Rattle.ledger_checkpoint.specs.Picking.{is_among}
use Rattle.ledger_checkpoint.proofs.picking.is_among.Given as goal

abbrev pub invariant-loop-other : goal.invariant-loop-other
invariant-loop-other l = is_among (map (λ name. name.now) l.names) l.name ≡ is_among (map (λ name. name.now) (drop l.other-index l.names)) l.name
