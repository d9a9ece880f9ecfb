use Rattle.std.proofs.Common.{◌≡◌, ℕ, List, Option, IfOk, sym, ap, subst}
use Rattle.std.specs.Option.{option_map_or}
use Rattle.ledger_sets.specs.Applying.{Site}
use Rattle.ledger_sets.specs.Seeing.{site_of}
use Rattle.ledger_machine.specs.Steps.{nothing, step_at}
use Rattle.ledger_machine.proofs.Small.{ok_so, written_behind}
use Rattle.ledger_machine.proofs.site_machine.SiteMachine.run_watched.Goals as goal

pub returns-in-Some-clause-told : goal.returns-in-Some-clause-told
returns-in-Some-clause-told g c =
    subst (λ (s : List ℕ × List ℕ). IfOk c.run_watched.result (λ outcome. s ≡ (outcome.printout.items, outcome.change.items)))
    (sym (ap (λ (o : Option Site). option_map_or (step_at c.args.text.now) o nothing) c.in-Some.ensures)) c.run_watched.ensures.told

pub returns-in-Some-clause-written : goal.returns-in-Some-clause-written
returns-in-Some-clause-written g c =
    ok_so c.run_watched.result (λ w. written_behind c.args.text.now c.args.self.now (site_of c.in-Some.state.now) c.in-Some.ensures w) c.run_watched.ensures.written
