-- Those so far.
use Rattle.std.proofs.Common.{◌≡◌, map, take}
use Rattle.ledger_index.specs.Course.{seen_list}
use Rattle.ledger_run.specs.Known.{kept_waiting}
use Rattle.ledger_run.proofs.known.those_waiting.Given as goal

abbrev pub invariant-loop-place : goal.invariant-loop-place
invariant-loop-place l = seen_list l.list.items ≡ map kept_waiting (take l.place l.ledger.waiting.items)
