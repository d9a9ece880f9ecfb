-- Nothing is done to the disk.
use Rattle.std.proofs.Common.{◌≡◌}
use Rattle.ledger_folder.proofs.known.add_outs.Given as goal

abbrev pub invariant-loop-name : goal.invariant-loop-name
invariant-loop-name g l = l.disk.files.made.calls ≡ l.fn.disk.files.made.calls
