use Rattle.std.proofs.Common.{List, Option, ap, ◌∙◌, is_none}
use Rattle.scheduler.proofs.{Common.{list_any, Slot}, Seats.{some_free}}
use Rattle.scheduler.proofs.slots.Slots.has_room.Goals as goal

pub returns : goal.returns
returns c =
    c.has_room_in.ensures ∙ ap (λ (l : List (Option Slot)). list_any (λ seat. is_none seat) l) c.deref.ensures.value ∙ some_free c.args.self.now.items.items
