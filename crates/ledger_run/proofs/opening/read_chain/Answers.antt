use Rattle.std.proofs.Common.{ℕ, List, ◌^◌, ◌-◌, map, Vec, Global, refl, subst}
use Rattle.ledger_run.{specs.Runs.{seen_ledger}, specs.Following.{TakesAll}, proofs.OpeningUp.{opened}}
use Rattle.ledger_run.proofs.opening.read_chain.Goals as goal

pub returns : goal.returns
returns g c =
    opened g.D.Disk.calls g.M.Machine.step c.args.disk.now c.settle.new.disk c.read_behind.new.disk (2 ^ 64 - 1) (map (λ file. file.items) c.in_ok-commits.commits.items)
    (seen_ledger c.args.known) (seen_ledger c.take_all.new.ledger) (g.M.Machine.behind c.args.machine.now) (g.M.Machine.behind c.take_all.new.machine) refl
    c.in_ok-settle.ensures c.in_ok-commits.ensures
    (subst (λ (l : List (Vec ℕ Global)). TakesAll g.M.Machine.step (map (λ file. file.items) l) (seen_ledger c.args.known) (g.M.Machine.behind c.args.machine.now)
    (seen_ledger c.take_all.new.ledger) (g.M.Machine.behind c.take_all.new.machine)) c.deref.ensures.value c.in_ok-take_all.ensures)
