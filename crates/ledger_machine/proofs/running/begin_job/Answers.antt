use Rattle.std.proofs.Common.{OnOk, subst}
use Rattle.mon_monitor.specs.{Abstraction.{system_of}, Events.{Load}}
use Rattle.deck_syntax.specs.declared.job_deck.JobDeck.{JobDeck}
use Rattle.ledger_machine.specs.Running.{HappensTo}
use Rattle.ledger_machine.proofs.running.begin_job.Goals as goal

pub returns-clause-entered : goal.returns-clause-entered
returns-clause-entered g c =
    subst (λ (deck : JobDeck). OnOk c.enter.result (HappensTo (Load deck) (system_of c.args.running.now.monitor) c.args.running.now.out.items
    (system_of c.enter.new.monitor) c.enter.new.out.items (g.S.Sink.standing c.args.audit.now) (g.S.Sink.standing c.enter.new.audit))) c.into_deck-deck.ensures c.enter.ensures
