-- What was written and gathered so far is what comes of the part of the piece that was taken, whatever follows.
use Rattle.std.proofs.Common.{◌≡◌, ◌≤◌, ◌+◌, true, false, [], length}
use Rattle.deck_driver.specs.{Feeds.{IsReadBack, is_reading}, inner.Counting.{lines_ended}}
use Rattle.deck_run.{specs.inner.Writing.{HasGrown}, specs.inner.Ahead.{IsAhead}, proofs.Holdings.{Far}}
use Rattle.deck_run.proofs.run.serve.Given as goal

abbrev pub invariant-lines : goal.invariant-lines
invariant-lines g l = record {
  far : Far (g.D.DeckDevices.written l.fn.devices) (g.D.DeckDevices.written l.devices) l.out.printed l.fn.feed l.feed l.fn.piece l.rest
      (g.A.Sink.standing l.fn.audit) (g.A.Sink.standing l.audit);
  grown : HasGrown (g.D.DeckDevices.written l.fn.devices) (g.D.DeckDevices.written l.devices);
  ahead : g.A.Sink.heeded ≡ true → IsAhead (g.D.DeckDevices.written l.fn.devices) (g.D.DeckDevices.written l.devices) [] l.fn.feed l.fn.piece (g.A.Sink.standing l.fn.audit) (g.A.Sink.standing l.audit);
  due : is_reading l.feed.state ≡ true → l.shortage.line + lines_ended l.rest ≡ l.fn.shortage.line + lines_ended l.fn.piece;
  lines : l.shortage.line ≤ l.feed.fed + 1;
  fed : l.feed.fed + length l.rest ≡ l.fn.feed.fed + length l.fn.piece;
  reads_back : IsReadBack l.fn.feed.options.check l.fn.feed.state → IsReadBack l.feed.options.check l.feed.state;
  options : l.feed.options ≡ l.fn.feed.options;
  remaining : g.D.DeckDevices.remaining l.devices ≡ g.D.DeckDevices.remaining l.fn.devices;
  reads : g.D.DeckDevices.reads l.devices ≡ g.D.DeckDevices.reads l.fn.devices;
  read : g.D.DeckDevices.read_failed l.devices ≡ false;
  write : g.D.DeckDevices.write_failed l.devices ≡ false;
}

abbrev pub decreases-lines : goal.decreases-lines
decreases-lines g l = length l.rest
