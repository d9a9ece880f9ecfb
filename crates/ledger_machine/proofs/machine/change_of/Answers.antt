use Rattle.std.proofs.Common.{◌<◌, ◌^◌, ℕ, List, length, rules, subst}
use Rattle.mon_catalogue.specs.Stored.{IsStoredSet}
use Rattle.ledger_sets.{specs.Parts.{those_of}, proofs.Copying.{some_hold}}
use Rattle.ledger_machine.proofs.Small.{small}
use Rattle.ledger_machine.proofs.machine.change_of.Goals as goal

pub returns-clause-small : goal.returns-clause-small
returns-clause-small c =
    let which = c.args.before.which.now in
    let sets = c.args.before.catalogue.now in
    let few : c.args.jobs < 2 ^ 63 = search rules in
    let short : length c.in_ok-change.change.items < 2 ^ 63 = search rules in
    small c.args.jobs c.args.told.now (those_of which sets) c.args.after.now (some_hold IsStoredSet which sets c.reads_back.ensures.stored.1) few
    (subst (λ (t : List ℕ). length t < 2 ^ 63) c.in_ok-change.ensures short)
