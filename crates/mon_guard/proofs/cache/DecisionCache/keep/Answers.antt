use Rattle.std.proofs.Common.{rules, ◌≡◌}
use Rattle.mon_guard.{specs.declared.cache.CachedDecision.{CachedDecision}, specs.inner.Keeping.{row_on}, proofs.Fitting.{stored_one_more}}
use Rattle.mon_guard.proofs.cache.DecisionCache.keep.Goals as goal

pub returns-in-Ok : goal.returns-in-Ok
returns-in-Ok c =
    let made : CachedDecision = record { account = c.in-Ok.account; set = c.copy-set.result; ready = c.compile-ready.result } in
    let kept = row_on c.args.account.now c.args.name.now c.args.set.now in
    let same : made ≡ kept = search rules in
    rw (← c.self.view_is)
    (stored_one_more _ c.self.inside.by_names c.insert-added.result c.insert-added.new.self.entries (c.copy.result, c.copy-2.result) made kept (search rules) same
    c.insert-added.ensures.entries c.insert-added.ensures.err)
