use Rattle.std.proofs.Common.{rules, subst, IfOk}
use Rattle.mon_monitor.proofs.{Common.{Sets, scheduler, slots_in, scheduler_in, DrainIs}, Schedules.{drained_any_order}, Sharing.{same_sets}}
use Rattle.mon_monitor.proofs.monitor.Monitor.drain.Goals as goal

pub returns-clause-any_order : goal.returns-clause-any_order
returns-clause-any_order g c =
    let slots = slots_in c.args.self.now.slots in
    let left = scheduler_in c.rounds.new.self c.rounds.new.floor in
    let is = drained_any_order c.rounds.result (scheduler c.args.self.now.catalogue.value slots) left _ _
    (subst (λ (sets : Sets). IfOk c.rounds.result (λ ends. DrainIs (scheduler sets slots) ends.items left (g.S.Sink.standing c.args.audit.now) (g.S.Sink.standing c.rounds.new.floor.audit.now))) (same_sets _ _ c.in_ok-catalogue.ensures.value) c.rounds.ensures.rounds) in
    search (rules, is)
