use Rattle.std.proofs.Common.{ap}
use Rattle.mon_monitor.{specs.Abstraction.{system_of}, proofs.Playing.{on_ok}}
use Rattle.preflight.specs.inner.Reading.{asks_of}
use Rattle.ledger_machine.proofs.Going.{on_both, brings_nothing, brings_command, brings_turns, brings_drain, brings_job}
use Rattle.ledger_machine.proofs.running.happen.Goals as goal

pub returns-in-Nothing : goal.returns-in-Nothing
returns-in-Nothing g c =
    let r = c.args.running.now in
    brings_nothing c.args.event r.jobs (system_of r.monitor) (system_of r.monitor) r.out.items r.out.items (g.S.Sink.standing c.args.audit.now) (g.S.Sink.standing c.args.audit.now) (ap asks_of c.in-Nothing.is)

pub returns-in-Opens : goal.returns-in-Opens
returns-in-Opens g c =
    let r = c.args.running.now in
    brings_nothing c.args.event r.jobs (system_of r.monitor) (system_of r.monitor) r.out.items r.out.items (g.S.Sink.standing c.args.audit.now) (g.S.Sink.standing c.args.audit.now) (ap asks_of c.in-Opens.is)

pub returns-in-Stops : goal.returns-in-Stops
returns-in-Stops g c =
    let r = c.args.running.now in
    brings_nothing c.args.event r.jobs (system_of r.monitor) (system_of r.monitor) r.out.items r.out.items (g.S.Sink.standing c.args.audit.now) (g.S.Sink.standing c.args.audit.now) (ap asks_of c.in-Stops.is)

pub returns-in-Asks : goal.returns-in-Asks
returns-in-Asks g c =
    let r = c.args.running.now in
    on_ok c.serve.result
    (λ h. brings_command c.args.event r.jobs (system_of r.monitor) (system_of c.serve.new.monitor) r.out.items c.serve.new.out.items _ _ c.in-Asks.command c.in-Asks.is h)
    c.serve.ensures

pub returns-in-Enters : goal.returns-in-Enters
returns-in-Enters g c =
    let r = c.args.running.now in
    let s = c.begin_job.new.running in
    on_both c.begin_job.result
    (λ h same. brings_job c.args.event r.jobs (system_of r.monitor) (system_of s.monitor) r.out.items s.out.items _ _ c.in-Enters.job s.jobs c.in-Enters.is same h)
    c.begin_job.ensures.entered c.begin_job.ensures.counted

pub returns-in-Turns : goal.returns-in-Turns
returns-in-Turns g c =
    let r = c.args.running.now in
    on_ok c.give.result
    (λ h. brings_turns c.args.event r.jobs (system_of r.monitor) (system_of c.give.new.monitor) r.out.items c.give.new.out.items _ _ c.in-Turns.turn c.in-Turns.is h)
    c.give.ensures

pub returns-in-Drains : goal.returns-in-Drains
returns-in-Drains g c =
    let r = c.args.running.now in
    on_ok c.drain.result
    (λ h. brings_drain c.args.event r.jobs (system_of r.monitor) (system_of c.drain.new.monitor) r.out.items c.drain.new.out.items _ _ c.in-Drains.is h)
    c.drain.ensures
