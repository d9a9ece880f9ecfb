-- An interrupted write is no failure, and takes no bytes.
use Rattle.std.proofs.Common.{◌≡◌}
use Rattle.std.specs.Io.KnownBytes.{Keeps}
use Rattle.mon_device.proofs.streams.StdWriterDeckWriter.write.Given as goal

abbrev pub invariant-loop-attempt : goal.invariant-loop-attempt
invariant-loop-attempt g l = record {
  sound : l.self.has_failed ≡ l.fn.self.has_failed;
  kept : Keeps (g.W.Write.contents l.fn.self.inner) (g.W.Write.contents l.self.inner);
}
