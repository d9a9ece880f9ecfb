use Rattle.std.proofs.Common.{ℕ, map, Vec, Global}
use Rattle.ledger_boxes.proofs.Listed.{lists_end}
use Rattle.ledger_boxes.proofs.listing.first_in_box.Goals as goal

pub returns-in-None : goal.returns-in-None
returns-in-None g c =
    lists_end g.B.Boxes.seen c.args.place c.args.most c.args.boxes.now c.args.looks (map (λ (name : Vec ℕ Global). name.items) c.loop.names.items) c.loop.counter
    c.loop.boxes c.next_entry.new.self c.in_ok-entry.field-0 c.loop.invariant c.in-None.is c.in_ok-entry.ensures
