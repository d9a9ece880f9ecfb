use Rattle.std.proofs.Common.{rules, ◌∙◌, ap}
use Rattle.std.specs.Map.{values_of}
use Rattle.indexmap.proofs.CallerLemmas.{filter-RetainsPairs}
use Rattle.mon_guard.{specs.Cache.{is_beside, cache_beside}, proofs.Fitting.{stored_beside}}
use Rattle.mon_guard.proofs.cache.DecisionCache.forget.Goals as goal

pub returns : goal.returns
returns c =
    ap values_of (filter-RetainsPairs _ (λ e. is_beside c.args.name.now e.1) _ (λ k v b w g call. search rules) _ _ c.retain.ensures.filtered)
    ∙ stored_beside (is_beside c.args.name.now) c.self.inside.by_names.entries
    ∙ ap (cache_beside c.args.name.now) c.self.view_is
