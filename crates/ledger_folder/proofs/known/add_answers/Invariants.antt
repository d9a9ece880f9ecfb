-- Nothing is done to the disk.
use Rattle.std.proofs.Common.{◌≡◌}
use Rattle.ledger_folder.proofs.known.add_answers.Given as goal

abbrev pub invariant-loop-waiting : goal.invariant-loop-waiting
invariant-loop-waiting g l = l.disk.files.made.calls ≡ l.fn.disk.files.made.calls

abbrev pub invariant-loop-owed : goal.invariant-loop-owed
invariant-loop-owed g l = l.disk.files.made.calls ≡ l.fn.disk.files.made.calls
