use Rattle.std.proofs.Common.{rules, subst, IfOk}
use Rattle.mon_monitor.proofs.{Common.{Sets, scheduler, slots_in, scheduler_in, MarkedIs}, Schedules.{turns_any_order}, Sharing.{same_sets}}
use Rattle.mon_monitor.proofs.monitor.Monitor.turns.Goals as goal

pub returns-clause-any_order : goal.returns-clause-any_order
returns-clause-any_order g c =
    let slots = slots_in c.args.self.now.slots in
    let left = scheduler_in c.turns.new.self c.turns.new.floor in
    let is = turns_any_order c.turns.result c.args.order.now (scheduler c.args.self.now.catalogue.value slots) left _ _
    (subst (λ (sets : Sets). IfOk c.turns.result (λ ends. MarkedIs c.args.order.now (scheduler sets slots) ends.items left (g.S.Sink.standing c.args.audit.now) (g.S.Sink.standing c.turns.new.floor.audit.now))) (same_sets _ _ c.in_ok-catalogue.ensures.value) c.turns.ensures.marked) in
    search (rules, is)
