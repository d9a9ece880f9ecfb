use Rattle.std.proofs.Common.{Option, IsSome, sym, subst, ◌∙◌}
use Rattle.scheduler.proofs.{Common.{SlotState}, Calls.{found, seat_is, seat_emptied, some_in}}
use Rattle.scheduler.proofs.slots.Slots.empty.Goals as goal

pub leave-requires : goal.leave-requires
leave-requires c =
    let items = c.args.self.now.items.items in
    let seat = c.index_mut.result.now in
    let at = found c.args.slot c.unwrap-index.result items seat c.index_of.result c.unwrap-index.ensures c.index_of.ensures.index c.index_mut.ensures.value in
    some_in seat (subst (λ (o : Option SlotState). IsSome o) (seat_is c.unwrap-index.result c.args.slot items seat at.number at.is) c.requires)

pub returns-clause-end : goal.returns-clause-end
returns-clause-end c = λ job is.
    let items = c.args.self.now.items.items in
    let seat = c.index_mut.result.now in
    let at = found c.args.slot c.unwrap-index.result items seat c.index_of.result c.unwrap-index.ensures c.index_of.ensures.index c.index_mut.ensures.value in
    c.leave.ensures.end job (sym (seat_is c.unwrap-index.result c.args.slot items seat at.number at.is) ∙ is)

pub returns-clause-slots : goal.returns-clause-slots
returns-clause-slots c =
    let items = c.args.self.now.items.items in
    let seat = c.index_mut.result.now in
    let at = found c.args.slot c.unwrap-index.result items seat c.index_of.result c.unwrap-index.ensures c.index_of.ensures.index c.index_mut.ensures.value in
    seat_emptied c.unwrap-index.result c.args.slot items c.leave.new.seat at.number c.leave.ensures.empty
