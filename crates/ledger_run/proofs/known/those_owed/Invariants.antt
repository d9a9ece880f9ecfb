-- Those so far.
use Rattle.std.proofs.Common.{◌≡◌, map, take}
use Rattle.ledger_index.specs.Course.{seen_list}
use Rattle.ledger_run.specs.Known.{kept_owed}
use Rattle.ledger_run.proofs.known.those_owed.Given as goal

abbrev pub invariant-loop-one : goal.invariant-loop-one
invariant-loop-one l = seen_list l.list.items ≡ map kept_owed (take l.one-index l.ledger.owed.items)
