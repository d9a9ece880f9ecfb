use Rattle.std.proofs.Common.{List, Option, ap, ◌∙◌, is_none}
use Rattle.scheduler.proofs.{Common.{list_all, Slot}, Seats.{none_of}}
use Rattle.scheduler.proofs.slots.Slots.are_empty.Goals as goal

pub returns : goal.returns
returns c =
    c.are_empty.ensures ∙ ap (λ (l : List (Option Slot)). list_all (λ seat. is_none seat) l) c.deref.ensures.value ∙ none_of c.args.self.now.items.items
