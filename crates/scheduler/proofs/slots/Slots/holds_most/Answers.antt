use Rattle.std.proofs.Common.{List, Option, ap, ◌∙◌}
use Rattle.scheduler.proofs.Common.{Slot, seats_of, most_held}
use Rattle.scheduler.proofs.slots.Slots.holds_most.Goals as goal

pub returns : goal.returns
returns c = c.most_held.ensures ∙ ap (λ (l : List (Option Slot)). most_held (seats_of l)) c.deref.ensures.value
