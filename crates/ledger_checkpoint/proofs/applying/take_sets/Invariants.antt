-- Those of the entries so far are taken.
use Rattle.std.proofs.Common.{take}
use Rattle.ledger_index.specs.Index.{seen_entries}
use Rattle.ledger_checkpoint.specs.Taking.{HasTaken}
use Rattle.ledger_checkpoint.proofs.applying.take_sets.Given as goal

abbrev pub invariant-loop-entry : goal.invariant-loop-entry
invariant-loop-entry g l = HasTaken (seen_entries (take l.entry-index l.entries)) (g.M.Machine.behind l.fn.machine) (g.M.Machine.behind l.machine)
