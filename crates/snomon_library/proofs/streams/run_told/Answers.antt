-- What `run_deck` says of its devices is said of the streams in them.
use Rattle.mon_device.specs.Telling.{where_told}
use Rattle.snomon_library.proofs.Moved.{moved}
use Rattle.snomon_library.proofs.streams.run_told.Goals as goal

pub returns : goal.returns
returns g c =
    moved _ _ c.args.options _ _ _ c.run_deck-outcome.result c.run_deck-outcome.new.shortage (λ r. where_told g.I.Telling.tells (g.R.Read.remaining r)) (λ w. where_told g.O.Telling.tells (g.W.Write.contents w))
    _ _ _ _ _ _ _ _
    (rw c.new-devices.ensures.reader c.new-reader.ensures.inner) c.into_inner.ensures
    (rw c.new-devices.ensures.writer c.new-writer.ensures.inner) c.into_inner-2.ensures
    (record {
      at_end = c.run_deck-outcome.ensures.at_end;
      stopped = c.run_deck-outcome.ensures.stopped;
      output = c.run_deck-outcome.ensures.output;
      counts = c.run_deck-outcome.ensures.counts;
      refused = c.run_deck-outcome.ensures.refused;
      refused_output = c.run_deck-outcome.ensures.refused_output;
      begun = c.run_deck-outcome.ensures.begun;
      ahead = c.run_deck-outcome.ensures.ahead;
      settled = c.run_deck-outcome.ensures.settled;
      due = c.run_deck-outcome.ensures.due;
      short = c.run_deck-outcome.ensures.short;
      audit_fault = c.run_deck-outcome.ensures.audit_fault;
    })
