use Rattle.std.proofs.Common.{map}
use Rattle.ledger_boxes.proofs.Listed.{HasMet}
use Rattle.ledger_boxes.proofs.listing.first_in_box.Given as goal

abbrev pub invariant-loop : goal.invariant-loop
invariant-loop g l = HasMet g.B.Boxes.seen l.place l.most (map (λ name. name.items) l.names.items) l.counter l.fn.boxes l.boxes
