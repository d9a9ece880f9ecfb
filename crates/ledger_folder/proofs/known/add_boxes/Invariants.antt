-- Nothing is looked at.
use Rattle.std.proofs.Common.{◌≡◌}
use Rattle.ledger_folder.proofs.known.add_boxes.Given as goal

abbrev pub invariant-loop-owner : goal.invariant-loop-owner
invariant-loop-owner g l = l.boxes.saw.sights ≡ l.fn.boxes.saw.sights
