use Rattle.std.proofs.Common.{ℕ, List, map, sym, ap, ◌∙◌}
use Rattle.ledger_laws.specs.Course.{behind_first}
use Rattle.ledger_run.{specs.Runs.{seen_ledger, waits_as}, proofs.Ahead.{first_waits}, proofs.Keeping.{told_first}}
use Rattle.ledger_run.proofs.running.first_outcome.Goals as goal

pub returns-clause-told : goal.returns-clause-told
returns-clause-told g c =
    told_first g.M.Machine.step (seen_ledger c.args.ledger.now) (g.M.Machine.behind c.args.machine.now) c.in-Some.first.now.number c.in-Some.first.now.text.items
    c.in_ok-outcome.outcome.printout.items c.in_ok-outcome.outcome.change.items (map waits_as (behind_first c.args.ledger.now.waiting.items))
    (first_waits c.args.ledger.now.waiting.items c.in-Some.first.now c.in-Some.ensures.item.0 c.in-Some.ensures.lookup)
    (ap (λ (text : List ℕ). g.M.Machine.step text (g.M.Machine.behind c.args.machine.now)) (sym c.deref.ensures.value) ∙ c.in_ok-outcome.ensures.told)
