-- What was written, and what comes of any bytes that follow those that the reader gave, is what comes of all of them.
use Rattle.std.proofs.Common.{◌≡◌, ◌≤◌, ◌*◌, ◌+◌, true, false, [], List, ℕ, vec_len}
use Rattle.mon_device.specs.Devices.{HasRead}
use Rattle.deck_driver.specs.Feeds.{IsReadBack}
use Rattle.deck_run.specs.inner.{Writing.{Runs, IsDue}, Ahead.{IsAhead}}
use Rattle.deck_run.proofs.run.feed_all.Given as goal

abbrev pub invariant-loop-read : goal.invariant-loop-read
invariant-loop-read g l = record {
  buffer : vec_len l.buffer ≡ 65536;
  empty : l.out.printed ≡ [];
  runs : (given : List ℕ) × Runs (g.D.DeckDevices.remaining l.fn.devices) (g.D.DeckDevices.remaining l.devices) (g.D.DeckDevices.written l.fn.devices) (g.D.DeckDevices.written l.devices) l.fn.feed l.feed given (g.A.Sink.standing l.fn.audit) (g.A.Sink.standing l.audit)
      × IsDue 1 l.shortage.line l.feed given
      × (g.A.Sink.heeded ≡ true → IsAhead (g.D.DeckDevices.written l.fn.devices) (g.D.DeckDevices.written l.devices) [] l.fn.feed given (g.A.Sink.standing l.fn.audit) (g.A.Sink.standing l.audit));
  lines : l.shortage.line ≤ l.feed.fed + 1;
  reads : HasRead l._read (g.D.DeckDevices.reads l.fn.devices) (g.D.DeckDevices.reads l.devices);
  few : l.feed.fed ≤ l._read * 65536;
  reads_back : IsReadBack l.fn.feed.options.check l.fn.feed.state → IsReadBack l.feed.options.check l.feed.state;
  options : l.feed.options ≡ l.fn.feed.options;
  read : g.D.DeckDevices.read_failed l.devices ≡ false;
  write : g.D.DeckDevices.write_failed l.devices ≡ false;
}
