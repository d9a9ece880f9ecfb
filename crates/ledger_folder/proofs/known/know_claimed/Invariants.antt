-- Nothing is done to the disk, and nothing is looked at.
use Rattle.std.proofs.Common.{◌≡◌}
use Rattle.ledger_folder.proofs.known.know_claimed.Given as goal

abbrev pub invariant-loop-name : goal.invariant-loop-name
invariant-loop-name g l = record {
  disk : l.disk.files.made.calls ≡ l.fn.disk.files.made.calls;
  boxes : l.boxes.saw.sights ≡ l.fn.boxes.saw.sights;
}
