use Rattle.std.proofs.Common.{◌∙◌, sym, ap, is_some}
use Rattle.scheduler.proofs.Calls.{found, seat_is, some_seat}
use Rattle.scheduler.proofs.slots.Slots.has_job.Goals as goal

pub returns-in-Some : goal.returns-in-Some
returns-in-Some c =
    let items = c.args.self.now.items.items in
    let seat = c.index.result.now in
    let at = found c.args.slot c.in-Some.index items seat c.index_of.result c.in-Some.is c.index_of.ensures.index c.index.ensures in
    c.is_some.ensures ∙ some_seat seat ∙ ap is_some (sym (seat_is c.in-Some.index c.args.slot items seat at.number at.is))
