-- Those so far.
use Rattle.std.proofs.Common.{◌≡◌, map, take}
use Rattle.ledger_index.specs.Course.{seen_list}
use Rattle.ledger_run.specs.Known.{kept_owed}
use Rattle.ledger_run.proofs.known.owed_in.Given as goal

abbrev pub invariant-loop-one : goal.invariant-loop-one
invariant-loop-one l = map kept_owed l.owed.items ≡ seen_list (take l.one-index l.list)
