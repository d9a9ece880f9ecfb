-- Where it is tried once more nothing has changed.
use Rattle.std.proofs.Common.{◌≡◌}
use Rattle.deck_driver.proofs.serving.next_event.Given as goal

abbrev pub invariant-tries : goal.invariant-tries
invariant-tries l = record {
  reader : l.reader ≡ l.fn.reader;
  monitor : l.monitor ≡ l.fn.monitor;
}
