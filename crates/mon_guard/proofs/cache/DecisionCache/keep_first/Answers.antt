use Rattle.std.proofs.Common.{◌∙◌, ap, sym, take}
use Rattle.std.{specs.Map.{values_of}, proofs.lemmas.List.{take-map}}
use Rattle.mon_guard.proofs.cache.DecisionCache.keep_first.Goals as goal

pub returns : goal.returns
returns c = ap values_of c.truncate.ensures.entries ∙ sym (take-map _ c.args.count c.self.inside.by_names.entries) ∙ ap (take c.args.count) c.self.view_is
