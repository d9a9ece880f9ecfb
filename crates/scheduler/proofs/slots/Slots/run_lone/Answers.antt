use Rattle.scheduler.proofs.{Common.{seat_of, seats_of}, Calls.{found, seat_is}, Alone.{seat_tells, slots_end}}
use Rattle.scheduler.proofs.slots.Slots.run_lone.Goals as goal

pub unwrap-requires : goal.unwrap-requires
unwrap-requires g c =
    let items = c.args.self.now.items.items in
    let o = c.index_mut.result.now in
    let i = c.unwrap-index.result in
    let at = found c.args.slot i items o c.index_of.result c.unwrap-index.ensures c.index_of.ensures.index c.index_mut.ensures.value in
    seat_tells c.args.slot c.args.floor.now.catalogue.now c.run_at.new.floor.catalogue.now (seats_of items) _ _ c.requires.lone (seat_of o) c.run_at.result (seat_of c.run_at.new.seat)
    (seat_is i c.args.slot items o at.number at.is) c.run_at.ensures.ended

pub returns-clause-ended : goal.returns-clause-ended
returns-clause-ended g c =
    let items = c.args.self.now.items.items in
    let o = c.index_mut.result.now in
    let i = c.unwrap-index.result in
    let at = found c.args.slot i items o c.index_of.result c.unwrap-index.ensures c.index_of.ensures.index c.index_mut.ensures.value in
    slots_end i c.args.slot c.args.floor.now.catalogue.now c.run_at.new.floor.catalogue.now items o c.run_at.new.seat c.run_at.result c.unwrap.result _ _ at.number at.is c.requires.lone
    c.run_at.ensures.ended c.unwrap.ensures
