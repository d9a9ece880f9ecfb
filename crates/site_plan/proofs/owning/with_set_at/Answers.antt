use Rattle.std.proofs.Common.{sym, ap, ◌∙◌}
use Rattle.std.specs.{Option.{option_map}, Map.Iter.{deref_pair}}
use Rattle.site_plan.{specs.Owning.{with_sets}, proofs.Owners.{one_there, none_there}}
use Rattle.site_plan.proofs.owning.with_set_at.Goals as goal

pub returns-in-Some : goal.returns-in-Some
returns-in-Some c =
    c.with_set.ensures ∙ sym (ap (with_sets c.args.own.now c.args.held) (one_there c.args.place c.args.catalogue.now _ (sym (ap (option_map deref_pair) c.in-Some.is) ∙ c.at.ensures)))

pub returns-in-None : goal.returns-in-None
returns-in-None c =
    sym (ap (with_sets c.args.own.now c.args.held) (none_there c.args.place c.args.catalogue.now (sym (ap (option_map deref_pair) c.in-None.is) ∙ c.at.ensures)))
