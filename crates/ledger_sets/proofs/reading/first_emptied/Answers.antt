use Rattle.std.proofs.Common.{sym, ap, ◌∙◌}
use Rattle.std.specs.{Option.{option_map}, Map.Iter.{deref_pair}}
use Rattle.ledger_sets.proofs.Made.{first_is}
use Rattle.ledger_sets.proofs.reading.first_emptied.Goals as goal

pub returns : goal.returns
returns c =
    first_is c.args.one.now c.in-Some.name.now c.copy-4.result c.in-Some.set.now c.copy-4.ensures (sym (ap (option_map deref_pair) c.in-Some.is) ∙ c.at.ensures)
