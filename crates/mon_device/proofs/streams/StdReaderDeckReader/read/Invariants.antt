-- An interrupted read is no failure and loses no bytes, and this call is counted.
use Rattle.std.proofs.Common.{◌≡◌}
use Rattle.std.specs.Io.KnownBytes.{Keeps}
use Rattle.mon_device.specs.Devices.{one_more}
use Rattle.mon_device.proofs.streams.StdReaderDeckReader.read.Given as goal

abbrev pub invariant-loop-attempt : goal.invariant-loop-attempt
invariant-loop-attempt g l = record {
  sound : l.self.has_failed ≡ l.fn.self.has_failed;
  counted : l.self.reads ≡ one_more l.fn.self.reads;
  kept : Keeps (g.R.Read.remaining l.fn.self.inner) (g.R.Read.remaining l.self.inner);
}
