use Rattle.std.proofs.Common.{ℕ, List, map, take, sym, subst}
use Rattle.ledger_run.{specs.Runs.{seen_ledger}, specs.Following.{TakesAll}, proofs.OpeningUp.{takes_none, takes_more, next_text}}
use Rattle.ledger_run.proofs.opening.take_all.Goals as goal

pub loop-text-init : goal.loop-text-init
loop-text-init g c = takes_none g.M.Machine.step (seen_ledger c.args.ledger.now) (g.M.Machine.behind c.args.machine.now)

pub loop-text-preserved : goal.loop-text-preserved
loop-text-preserved g c =
    subst (λ (texts : List (List ℕ)). TakesAll g.M.Machine.step texts (seen_ledger c.args.ledger.now) (g.M.Machine.behind c.args.machine.now) (seen_ledger c.take.new.ledger) (g.M.Machine.behind c.take.new.machine))
    (sym (next_text c.args.commits.now (λ text. text.items) c.loop-text.text-index c.text-item.result c.deref.result.now c.loop-text-test.true c.text-item.is c.deref.ensures.value))
    (takes_more g.M.Machine.step (map (λ text. text.items) (take c.loop-text.text-index c.args.commits.now)) c.deref.result.now (seen_ledger c.args.ledger.now) (g.M.Machine.behind c.args.machine.now)
    (seen_ledger c.loop-text.ledger) (g.M.Machine.behind c.loop-text.machine) (seen_ledger c.take.new.ledger) (g.M.Machine.behind c.take.new.machine) c.loop-text.invariant c.in_ok-take.ensures)
