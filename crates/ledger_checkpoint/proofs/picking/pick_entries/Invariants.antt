-- Those of the entries so far.
use Rattle.std.proofs.Common.{◌≡◌, map, take}
use Rattle.ledger_index.specs.Index.{seen_entries}
use Rattle.ledger_checkpoint.specs.Picking.{is_among, picked}
use Rattle.ledger_checkpoint.proofs.picking.pick_entries.Given as goal

abbrev pub invariant-loop-entry : goal.invariant-loop-entry
invariant-loop-entry l =
    seen_entries l.found.items ≡ picked (is_among (map (λ name. name.now) l.names)) (seen_entries (take l.entry-index l.entries))
