use Rattle.std.proofs.Common.{◌∙◌, sym, subst}
use Rattle.std.specs.Str.Lines.{lines}
use Rattle.mon_text.proofs.Cutting.{nothing_kept}
use Rattle.mon_monitor.specs.Abstraction.{system_of}
use Rattle.deck_syntax.specs.Sections.{Closed}
use Rattle.deck_syntax.specs.{declared.stream_reader.Event.{Event}, Events.{open_in}}
use Rattle.ledger_machine.{specs.Running.{place, Brings, asked_ahead}, proofs.Going.{stays, line_more, reached, ended, counted_to}}
use Rattle.ledger_machine.proofs.running.play.Goals as goal

pub lines-init : goal.lines-init
lines-init g c = record {
  reaches =
      stays (place c.args.running.now.jobs (asked_ahead Closed (lines c.args.text.now)) (system_of c.args.running.now.monitor) c.args.running.now.out.items (g.S.Sink.standing c.args.audit.now));
}

pub lines-preserved : goal.lines-preserved
lines-preserved g c =
    let first = place c.args.running.now.jobs (asked_ahead Closed (lines c.args.text.now)) (system_of c.args.running.now.monitor) c.args.running.now.out.items (g.S.Sink.standing c.args.audit.now) in
    let old = c.lines.running in
    let new = c.happen.new.running in
    let a = g.S.Sink.standing c.lines.audit in
    let b = g.S.Sink.standing c.happen.new.audit in
    record {
      reaches =
          line_more first old.jobs new.jobs (system_of old.monitor) (system_of new.monitor) old.out.items new.out.items a b (open_in c.lines.reader) (open_in c.read_event.new.reader)
          c.lines.rest.now c.first_line.result.0.now c.first_line.result.1.now c.first_line.ensures.parts c.in_ok-event.ensures.after c.lines.invariant.reaches
          (subst (λ (event : Event). Brings event old.jobs (system_of old.monitor) old.out.items a new.jobs (system_of new.monitor) new.out.items b) c.in_ok-event.ensures.event
          c.in_ok-happen.ensures);
    }

pub returns-clause-printed : goal.returns-clause-printed
returns-clause-printed g c =
    let first = place c.args.running.now.jobs (asked_ahead Closed (lines c.args.text.now)) (system_of c.args.running.now.monitor) c.args.running.now.out.items (g.S.Sink.standing c.args.audit.now) in
    let at = c.lines.running in
    let a = g.S.Sink.standing c.lines.audit in
    let none = nothing_kept c.lines.rest.now (sym c.is_empty.ensures ∙ c.lines-test.false) in
    (ended first at.jobs (system_of at.monitor) (system_of c.drain.new.monitor) at.out.items c.drain.new.out.items a _
    (reached first at.jobs (system_of at.monitor) at.out.items a (open_in c.lines.reader) c.lines.rest.now none c.lines.invariant.reaches) c.in_ok-drain.ensures).printed

pub returns-clause-left : goal.returns-clause-left
returns-clause-left g c =
    let first = place c.args.running.now.jobs (asked_ahead Closed (lines c.args.text.now)) (system_of c.args.running.now.monitor) c.args.running.now.out.items (g.S.Sink.standing c.args.audit.now) in
    let at = c.lines.running in
    let a = g.S.Sink.standing c.lines.audit in
    let none = nothing_kept c.lines.rest.now (sym c.is_empty.ensures ∙ c.lines-test.false) in
    (ended first at.jobs (system_of at.monitor) (system_of c.drain.new.monitor) at.out.items c.drain.new.out.items a _
    (reached first at.jobs (system_of at.monitor) at.out.items a (open_in c.lines.reader) c.lines.rest.now none c.lines.invariant.reaches) c.in_ok-drain.ensures).left

pub returns-clause-audited : goal.returns-clause-audited
returns-clause-audited g c =
    let first = place c.args.running.now.jobs (asked_ahead Closed (lines c.args.text.now)) (system_of c.args.running.now.monitor) c.args.running.now.out.items (g.S.Sink.standing c.args.audit.now) in
    let at = c.lines.running in
    let a = g.S.Sink.standing c.lines.audit in
    let none = nothing_kept c.lines.rest.now (sym c.is_empty.ensures ∙ c.lines-test.false) in
    (ended first at.jobs (system_of at.monitor) (system_of c.drain.new.monitor) at.out.items c.drain.new.out.items a _
    (reached first at.jobs (system_of at.monitor) at.out.items a (open_in c.lines.reader) c.lines.rest.now none c.lines.invariant.reaches) c.in_ok-drain.ensures).audited

pub returns-clause-counted : goal.returns-clause-counted
returns-clause-counted g c =
    let first = place c.args.running.now.jobs (asked_ahead Closed (lines c.args.text.now)) (system_of c.args.running.now.monitor) c.args.running.now.out.items (g.S.Sink.standing c.args.audit.now) in
    let at = c.lines.running in
    let a = g.S.Sink.standing c.lines.audit in
    let none = nothing_kept c.lines.rest.now (sym c.is_empty.ensures ∙ c.lines-test.false) in
    counted_to first at.jobs (system_of at.monitor) at.out.items a
    (reached first at.jobs (system_of at.monitor) at.out.items a (open_in c.lines.reader) c.lines.rest.now none c.lines.invariant.reaches)
