use Rattle.std.proofs.Common.{List, Option, ap, sym, ◌∙◌}
use Rattle.scheduler.proofs.{Common.{Slot, are_apart}, Apart.{apart_is}}
use Rattle.scheduler.proofs.slots.Slots.independent.Goals as goal

pub returns : goal.returns
returns c = λ sets.
    let law = apart_is c.args.self.now.items.items sets in
    let is = c.are_apart.ensures ∙ ap (λ (l : List (Option Slot)). are_apart l) c.deref.ensures.value in
    (λ h. law.0 (sym is ∙ h), λ h. is ∙ law.1 h)
