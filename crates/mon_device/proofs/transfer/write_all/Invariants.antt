-- What is left to write would make all that is to be written; the writer has taken the bytes before it; nothing has failed so far.
use Rattle.std.proofs.Common.{◌≡◌, false, length}
use Rattle.mon_device.specs.Devices.{holding, HasTaken}
use Rattle.mon_device.proofs.transfer.write_all.Given as goal

abbrev pub invariant-loop-rest : goal.invariant-loop-rest
invariant-loop-rest g l = record {
  all : holding (g.D.DeckDevices.written l.devices) l.rest ≡ holding (g.D.DeckDevices.written l.fn.devices) l.fn.bytes;
  taken : HasTaken (g.D.DeckDevices.written l.fn.devices) (g.D.DeckDevices.written l.devices) l.fn.bytes l.rest;
  remaining : g.D.DeckDevices.remaining l.devices ≡ g.D.DeckDevices.remaining l.fn.devices;
  reads : g.D.DeckDevices.reads l.devices ≡ g.D.DeckDevices.reads l.fn.devices;
  read : g.D.DeckDevices.read_failed l.devices ≡ false;
  write : g.D.DeckDevices.write_failed l.devices ≡ false;
}

abbrev pub decreases-loop-rest : goal.decreases-loop-rest
decreases-loop-rest g l = length l.rest
