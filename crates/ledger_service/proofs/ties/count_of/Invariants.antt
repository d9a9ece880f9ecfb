-- Those so far are counted.
use Rattle.std.proofs.Common.{◌≡◌, ◌≤◌, ◌+◌, drop}
use Rattle.ledger_service.specs.Ties.{count_of}
use Rattle.ledger_service.proofs.ties.count_of.Given as goal

abbrev pub invariant-loop-other : goal.invariant-loop-other
invariant-loop-other l = record {
  counted : l.count + count_of l.part (drop l.other-index l.parts) ≡ count_of l.part l.parts;
  few : l.count ≤ l.other-index;
}
