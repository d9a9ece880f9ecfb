use Rattle.std.proofs.Common.{sym, ap, ◌∙◌}
use Rattle.std.{specs.Option.{option_map}, specs.Map.Iter.{deref_pair}, proofs.lemmas.Result.{on_ok_weaker}}
use Rattle.ledger_sets.{specs.Writing.{texts_in}, proofs.Walking.{one_new, none_past}}
use Rattle.ledger_sets.proofs.sets.put_at.Goals as goal

pub returns-in-Some : goal.returns-in-Some
returns-in-Some c =
    on_ok_weaker c.put_whole.result
    (one_new c.args.after.now c.args.place (c.in-Some.name.now, c.in-Some.set.now) (texts_in c.args.out.now.items) (texts_in c.put_whole.new.out.items)
    (sym (ap (option_map deref_pair) c.in-Some.is) ∙ c.at.ensures))
    c.put_whole.ensures

-- there is one
pub returns-in-None : goal.returns-in-None
returns-in-None c =
    absurd (none_past c.args.place c.args.after.now c.requires (sym (ap (option_map deref_pair) c.in-None.is) ∙ c.at.ensures))
