-- What was done so far is safe, and the ledger in memory is the one on the disk; each so far ran.
use Rattle.std.proofs.Common.{◌≡◌, ◌+◌}
use Rattle.ledger_run.specs.Runs.{seen_ledger, SafeFrom, CarriesOn}
use Rattle.ledger_site.proofs.serving.try_some.Given as goal

abbrev pub invariant-loop : goal.invariant-loop
invariant-loop g l = record {
  safe : SafeFrom g.D.Disk.calls g.M.Machine.step (seen_ledger l.fn.ledger) (g.M.Machine.behind l.fn.machine) l.fn.disk l.disk;
  on : CarriesOn g.D.Disk.calls g.M.Machine.step (seen_ledger l.fn.ledger) (g.M.Machine.behind l.fn.machine) (seen_ledger l.ledger) (g.M.Machine.behind l.machine) l.fn.disk l.disk;
  ran : l.ledger.commits ≡ l.fn.ledger.commits + l.counter;
}
