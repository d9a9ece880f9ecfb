-- With the jobs that are left it comes to all.
use Rattle.std.proofs.Common.{◌≡◌, ◌++◌, drop, flat_map}
use Rattle.job_end.specs.Printouts.{printout}
use Rattle.ledger_machine.specs.Running.{AreWhole}
use Rattle.ledger_machine.proofs.events.put_ends.Given as goal

abbrev pub invariant-loop-end : goal.invariant-loop-end
invariant-loop-end l = record {
  printed : l.out.items ++ flat_map printout (drop l.end-index l.ends) ≡ l.fn.out.items ++ flat_map printout l.ends;
  whole : AreWhole (drop l.end-index l.ends) → AreWhole l.ends;
}
