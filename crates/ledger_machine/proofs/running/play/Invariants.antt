-- From here the text ends as from its beginning.
use Rattle.std.proofs.Common.{length}
use Rattle.std.specs.Str.Lines.{lines}
use Rattle.mon_monitor.specs.Abstraction.{system_of}
use Rattle.deck_syntax.specs.Sections.{Closed}
use Rattle.deck_syntax.specs.Events.{open_in}
use Rattle.ledger_machine.specs.Running.{place, Reaches, asked_ahead}
use Rattle.ledger_machine.proofs.running.play.Given as goal

abbrev pub invariant-lines : goal.invariant-lines
invariant-lines g l = record {
  reaches :
      Reaches (place l.fn.running.jobs (asked_ahead Closed (lines l.fn.text)) (system_of l.fn.running.monitor) l.fn.running.out.items (g.S.Sink.standing l.fn.audit))
      (place l.running.jobs (asked_ahead (open_in l.reader) (lines l.rest)) (system_of l.running.monitor) l.running.out.items (g.S.Sink.standing l.audit));
}

abbrev pub decreases-lines : goal.decreases-lines
decreases-lines g l = length l.rest
