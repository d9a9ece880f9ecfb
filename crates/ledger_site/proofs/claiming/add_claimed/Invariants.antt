-- Those so far have their numbers, and this one is the next.
use Rattle.std.proofs.Common.{◌≡◌, ◌+◌, ◌++◌, drop}
use Rattle.ledger_site.specs.Claiming.{numbered}
use Rattle.ledger_site.proofs.claiming.add_claimed.Given as goal

abbrev pub invariant-loop-place : goal.invariant-loop-place
invariant-loop-place l = record {
  all : l.all.items ++ numbered l.number (drop l.place-index l.drops) ≡ l.fn.all.items ++ numbered l.first l.drops;
  count : l.number ≡ l.first + l.place-index;
}
