use Rattle.ledger_run.{specs.Runs.{seen_ledger}, proofs.OpeningUp.{opened_whole}}
use Rattle.ledger_run.proofs.opening.open_ledger.Goals as goal

pub returns-clause-opens : goal.returns-clause-opens
returns-clause-opens g c =
    opened_whole g.D.Disk.calls g.M.Machine.step (seen_ledger c.new-none.result) (g.M.Machine.behind c.args.machine.now) (seen_ledger c.in_ok-ledger.ledger)
    (g.M.Machine.behind c.open_behind.new.machine) c.args.disk.now c.open_behind.new.disk c.new-none.ensures c.requires c.in_ok-ledger.ensures.opens
