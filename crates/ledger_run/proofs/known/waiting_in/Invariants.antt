-- Those so far.
use Rattle.std.proofs.Common.{◌≡◌, map, take}
use Rattle.ledger_index.specs.Course.{seen_list}
use Rattle.ledger_run.specs.Known.{kept_waiting}
use Rattle.ledger_run.proofs.known.waiting_in.Given as goal

abbrev pub invariant-loop-one : goal.invariant-loop-one
invariant-loop-one l = map kept_waiting l.waiting.items ≡ seen_list (take l.one-index l.list)
