-- Some of the files so far have numbers, and this one is free.
use Rattle.std.proofs.Common.{◌≡◌, ◌≤◌, ◌+◌, length}
use Rattle.ledger_laws.specs.Claims.{links}
use Rattle.ledger_run.specs.Claiming.{DoesSome}
use Rattle.ledger_run.proofs.claims.link_each.Given as goal

abbrev pub invariant-loop-drop : goal.invariant-loop-drop
invariant-loop-drop g l = record {
  count : l.number ≡ l.first + length l.made.items;
  bound : l.number ≤ l.first + l.drop-index;
  some : DoesSome g.D.Disk.calls (links l.first) l.drops l.made.items l.fn.disk l.disk;
}
