use Rattle.std.proofs.Common.{rules, ◌≡◌, ◌∙◌, suc, List, Option, Some, None, ap, sym, arith, position, is_none, option_map, Err}
use Rattle.scheduler.proofs.{Common.{err_from_is_err_and, Slot, slots_in}, Loads.{free_is, free_some, within, no_slot, stopped_for, stop_refused, loaded_at}}
use Rattle.mon_text.specs.declared.stop.Stop.TheVariants.{Memory}
use Rattle.scheduler.proofs.slots.Slots.load.Goals as goal

pub returns-in_default-clause-refused : goal.returns-in_default-clause-refused
returns-in_default-clause-refused c =
    let items = c.args.self.now.items.items in
    let none : position (λ seat. is_none seat) items ≡ None = search rules in
    no_slot c.args.accounts.now c.args.deck (slots_in c.args.self.now) (free_is items ∙ ap (option_map suc) none)

pub returns-in_err-slot-clause-refused : goal.returns-in_err-slot-clause-refused
returns-in_err-slot-clause-refused c =
    let items = c.args.self.now.items.items in
    let i = c.in-Some.index in
    let some : position (λ seat. is_none seat) items ≡ Some i = ap (λ (l : List (Option Slot)). position (λ seat. is_none seat) l) (sym c.deref.ensures.value) ∙ sym c.in-Some.ensures in
    let k = stop_refused c.args.accounts.now c.args.deck (slots_in c.args.self.now) (suc i) c.in_err-slot.field-0.0 (free_is items ∙ ap (option_map suc) some) c.in_err-slot.ensures.refused in
    let stop = err_from_is_err_and c.from_residual.result c.from_residual.ensures.1 in
    rw (stop.1, stop.2) k

pub returns-in_err-slot-clause-memory : goal.returns-in_err-slot-clause-memory
returns-in_err-slot-clause-memory c = λ h.
    let items = c.args.self.now.items.items in
    let i = c.in-Some.index in
    let some : position (λ seat. is_none seat) items ≡ Some i = ap (λ (l : List (Option Slot)). position (λ seat. is_none seat) l) (sym c.deref.ensures.value) ∙ sym c.in-Some.ensures in
    let stop = err_from_is_err_and c.from_residual.result c.from_residual.ensures.1 in (
      free_some (slots_in c.args.self.now) (suc i) (free_is items ∙ ap (option_map suc) some),
      c.in_err-slot.ensures.memory (ap Err (stopped_for c.from_residual.result stop.0 c.in_err-slot.field-0.0 Memory stop.1 stop.2 h)),
    )

pub overflow_cast-result : goal.overflow_cast-result
overflow_cast-result c =
    let items = c.args.self.now.items.items in
    let some : position (λ seat. is_none seat) items ≡ Some c.in-Some.index = ap (λ (l : List (Option Slot)). position (λ seat. is_none seat) l) (sym c.deref.ensures.value) ∙ sym c.in-Some.ensures in
    let k = within items c.in-Some.index some in
    omega (arith, k, c.args.self.now.few)

pub overflow_add-result : goal.overflow_add-result
overflow_add-result c =
    let items = c.args.self.now.items.items in
    let some : position (λ seat. is_none seat) items ≡ Some c.in-Some.index = ap (λ (l : List (Option Slot)). position (λ seat. is_none seat) l) (sym c.deref.ensures.value) ∙ sym c.in-Some.ensures in
    let k = within items c.in-Some.index some in
    omega (arith, k, c.args.self.now.few)

pub returns-clause-loaded : goal.returns-clause-loaded
returns-clause-loaded c =
    let items = c.args.self.now.items.items in
    let i = c.in-Some.index in
    let some : position (λ seat. is_none seat) items ≡ Some i = ap (λ (l : List (Option Slot)). position (λ seat. is_none seat) l) (sym c.deref.ensures.value) ∙ sym c.in-Some.ensures in
    let k = loaded_at c.args.accounts.now c.args.deck items i c.in_ok-slot.slot some c.in_ok-slot.ensures.clean c.in_ok-slot.ensures.slot in
    search (rules, k)
