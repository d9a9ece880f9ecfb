use Rattle.std.proofs.Common.{sym, ◌∙◌}
use Rattle.deck_syntax.specs.declared.stream_reader.Event.TheVariants as event
use Rattle.preflight.specs.inner.Counts.{one_line, one_creation, one_job}
use Rattle.preflight.proofs.Tallying.{plain_counted, command_counted, made_counted, job_counted, counted_at}
use Rattle.preflight.proofs.intake.Counts.with.Goals as goal

pub returns-in-Nothing : goal.returns-in-Nothing
returns-in-Nothing c =
    plain_counted c.args.self c.with_line-in-Nothing.result c.args.event.now c.with_line-in-Nothing.ensures c.in-Nothing.is

pub returns-in-Asks : goal.returns-in-Asks
returns-in-Asks c =
    let counts = c.args.self in
    let command = c.in-Asks.command in
    counted_at counts c.with_creation.result (one_creation counts) c.args.event.now (event.Asks command) c.in-Asks.is c.with_creation.ensures
    (made_counted counts command (sym c.creates.ensures ∙ c.if-creates.true))

pub returns-in-Asks-2 : goal.returns-in-Asks-2
returns-in-Asks-2 c =
    let counts = c.args.self in
    let command = c.in-Asks.command in
    counted_at counts c.with_line.result (one_line counts) c.args.event.now (event.Asks command) c.in-Asks.is c.with_line.ensures
    (command_counted counts command (sym c.creates.ensures ∙ c.if-creates.false))

pub returns-in-Enters : goal.returns-in-Enters
returns-in-Enters c =
    let counts = c.args.self in
    let job = c.in-Enters.job in
    counted_at counts c.with_job.result (one_job counts c.get.result) c.args.event.now (event.Enters job) c.in-Enters.is c.with_job.ensures
    (job_counted counts job c.get.result c.get.ensures.value c.get.ensures.within)
