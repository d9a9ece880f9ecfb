-- The ledger in memory is that of the commits so far.
use Rattle.std.proofs.Common.{map, take}
use Rattle.ledger_run.specs.{Runs.{seen_ledger}, Following.{TakesAll}}
use Rattle.ledger_run.proofs.opening.take_all.Given as goal

abbrev pub invariant-loop-text : goal.invariant-loop-text
invariant-loop-text g l =
    TakesAll g.M.Machine.step (map (λ text. text.items) (take l.text-index l.commits)) (seen_ledger l.fn.ledger) (g.M.Machine.behind l.fn.machine) (seen_ledger l.ledger) (g.M.Machine.behind l.machine)
