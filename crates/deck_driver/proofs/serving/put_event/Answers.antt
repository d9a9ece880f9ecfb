use Rattle.std.proofs.Common.{refl, ap, ◌∙◌}
use Rattle.std.proofs.lemmas.Result.{on_ok_weaker}
use Rattle.mon_monitor.specs.{Abstraction.{system_of}, Events.{Serve, Load, Give, Drain}}
use Rattle.deck_syntax.specs.Decks.{Commands, Enters, Gives, Drains}
use Rattle.deck_syntax.specs.declared.stream_reader.Event.{Event}
use Rattle.deck_syntax.specs.declared.stream_reader.Event.TheVariants as event
use Rattle.deck_driver.specs.{RunStates.{both_counted}, inner.Lines.{counted_by}}
use Rattle.deck_driver.proofs.Commanding.{counted_when, passes, on_served, on_broken, job_numbered}
use Rattle.deck_driver.proofs.serving.put_event.Goals as goal

pub returns-then-check-clause-served : goal.returns-then-check-clause-served
returns-then-check-clause-served g c =
    counted_when c.args.check c.if-check.true c.args.event c.requires.goes_on (system_of c.args.monitor.now) c.args.out.now c.args.counts.now c.count.new.counts _ c.count.ensures.counted

pub returns-in-Nothing-clause-served : goal.returns-in-Nothing-clause-served
returns-in-Nothing-clause-served g c =
    passes c.args.check c.args.event c.in-Nothing.is c.requires.goes_on (system_of c.args.monitor.now) c.args.out.now c.args.counts.now c.count.new.counts _ c.count.ensures.counted

pub returns-in-Asks-clause-served : goal.returns-in-Asks-clause-served
returns-in-Asks-clause-served g c =
    on_served c.serve_command.result c.args.check c.if-check.false c.args.event (event.Asks c.in-Asks.command) c.in-Asks.is (Commands c.in-Asks.command) (λ others. refl) (Serve c.in-Asks.command) (system_of c.args.monitor.now) c.args.counts.now _ _ refl
    (system_of c.serve_command.new.self) c.args.out.now c.serve_command.new.out c.count.new.counts c.count.ensures.counted refl (on_ok_weaker c.serve_command.result (λ happens. happens.0) c.serve_command.ensures.happens)

pub returns-in-Asks-clause-broken : goal.returns-in-Asks-clause-broken
returns-in-Asks-clause-broken g c =
    on_broken c.serve_command.result c.args.check c.if-check.false c.args.event (event.Asks c.in-Asks.command) c.in-Asks.is (Commands c.in-Asks.command) (λ others. refl) (Serve c.in-Asks.command) (system_of c.args.monitor.now) c.args.counts.now _ _ refl
    c.serve_command.ensures.broken

pub returns-in-Enters-clause-served : goal.returns-in-Enters-clause-served
returns-in-Enters-clause-served g c =
    on_served c.enter.result c.args.check c.if-check.false c.args.event (event.Enters c.in-Enters.job) c.in-Enters.is (Enters c.in-Enters.job) (λ others. refl) (Load c.into_deck.result) (system_of c.args.monitor.now) c.args.counts.now _ _ (job_numbered c.args.counts.now c.count.new.counts c.in-Enters.job c.into_deck.result (c.count.ensures.counted ∙ ap (λ (v : Event). both_counted c.args.counts.now (counted_by v)) c.in-Enters.is) c.into_deck.ensures)
    (system_of c.enter.new.self) c.args.out.now c.enter.new.out c.count.new.counts c.count.ensures.counted refl c.enter.ensures.happens

pub returns-in-Enters-clause-broken : goal.returns-in-Enters-clause-broken
returns-in-Enters-clause-broken g c =
    on_broken c.enter.result c.args.check c.if-check.false c.args.event (event.Enters c.in-Enters.job) c.in-Enters.is (Enters c.in-Enters.job) (λ others. refl) (Load c.into_deck.result) (system_of c.args.monitor.now) c.args.counts.now _ _ (job_numbered c.args.counts.now c.count.new.counts c.in-Enters.job c.into_deck.result (c.count.ensures.counted ∙ ap (λ (v : Event). both_counted c.args.counts.now (counted_by v)) c.in-Enters.is) c.into_deck.ensures)
    c.enter.ensures.broken

pub returns-in-Turns-clause-served : goal.returns-in-Turns-clause-served
returns-in-Turns-clause-served g c =
    on_served c.give.result c.args.check c.if-check.false c.args.event (event.Turns c.in-Turns.turn) c.in-Turns.is (Gives c.in-Turns.turn) (λ others. refl) (Give c.in-Turns.turn.slot c.in-Turns.turn.count) (system_of c.args.monitor.now) c.args.counts.now _ _ refl
    (system_of c.give.new.self) c.args.out.now c.give.new.out c.count.new.counts c.count.ensures.counted refl c.give.ensures.happens

pub returns-in-Turns-clause-broken : goal.returns-in-Turns-clause-broken
returns-in-Turns-clause-broken g c =
    on_broken c.give.result c.args.check c.if-check.false c.args.event (event.Turns c.in-Turns.turn) c.in-Turns.is (Gives c.in-Turns.turn) (λ others. refl) (Give c.in-Turns.turn.slot c.in-Turns.turn.count) (system_of c.args.monitor.now) c.args.counts.now _ _ refl
    c.give.ensures.broken

pub returns-in-Drains-clause-served : goal.returns-in-Drains-clause-served
returns-in-Drains-clause-served g c =
    on_served c.drain_all.result c.args.check c.if-check.false c.args.event (event.Drains) c.in-Drains.is (Drains) (λ others. refl) (Drain) (system_of c.args.monitor.now) c.args.counts.now _ _ refl
    (system_of c.drain_all.new.self) c.args.out.now c.drain_all.new.out c.count.new.counts c.count.ensures.counted refl c.drain_all.ensures.happens

pub returns-in-Drains-clause-broken : goal.returns-in-Drains-clause-broken
returns-in-Drains-clause-broken g c =
    on_broken c.drain_all.result c.args.check c.if-check.false c.args.event (event.Drains) c.in-Drains.is (Drains) (λ others. refl) (Drain) (system_of c.args.monitor.now) c.args.counts.now _ _ refl
    c.drain_all.ensures.broken
