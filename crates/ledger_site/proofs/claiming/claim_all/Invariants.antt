-- What was done so far is safe, and the ledger in memory is the one on the disk; so much was claimed of these files.
use Rattle.ledger_laws.specs.Claims.{AreOf}
use Rattle.ledger_run.specs.Runs.{seen_ledger, SafeFrom, CarriesOn}
use Rattle.ledger_site.proofs.InPasses.{ClaimsSoFar}
use Rattle.ledger_site.proofs.claiming.claim_all.Given as goal

abbrev pub invariant-loop : goal.invariant-loop
invariant-loop g l = record {
  safe : SafeFrom g.D.Disk.calls g.M.Machine.step (seen_ledger l.fn.ledger) (g.M.Machine.behind l.fn.machine) l.fn.disk l.disk;
  on : CarriesOn g.D.Disk.calls g.M.Machine.step (seen_ledger l.fn.ledger) (g.M.Machine.behind l.fn.machine) (seen_ledger l.fn.ledger) (g.M.Machine.behind l.fn.machine) l.fn.disk l.disk;
  claimed : ClaimsSoFar g.D.Disk.calls l.first l.passes.next l.drops l.passes.all.items l.fn.disk l.disk;
  rest : AreOf l.passes.rest.items l.drops;
}
