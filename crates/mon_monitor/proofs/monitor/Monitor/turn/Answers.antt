use Rattle.std.proofs.Common.{rules, refl, subst}
use Rattle.mon_monitor.{proofs.Common.{Sets, scheduler, slots_in, scheduler_in, TurnOr, system}, specs.Unseen.{TurnIsolated}, proofs.Unseen.{turn_isolated}, proofs.Sharing.{same_sets}}
use Rattle.mon_monitor.proofs.monitor.Monitor.turn.Goals as goal

pub returns-clause-isolated : goal.returns-clause-isolated
returns-clause-isolated g c =
    let slots = slots_in c.args.self.now.slots in
    let now = system c.args.self.now.accounts (scheduler c.args.self.now.catalogue.value slots) in
    let left = scheduler_in c.turn.new.self c.turn.new.floor in
    let is : TurnIsolated c.args.slot now c.turn.result (system c.args.self.now.accounts left) =
    turn_isolated c.args.slot now (system c.args.self.now.accounts left) c.turn.result _ _
    (subst (λ (sets : Sets). TurnOr c.args.slot (scheduler sets slots) c.turn.result left (g.S.Sink.standing c.args.audit.now) (g.S.Sink.standing c.turn.new.floor.audit.now)) (same_sets _ _ c.in_ok-catalogue.ensures.value) c.turn.ensures.turn) refl in
    search (rules, is)
