use Rattle.std.proofs.Common.{rules, sym}
use Rattle.std.specs.List.{Contains}
use Rattle.mon_guard.proofs.Fitting.{at_place}
use Rattle.mon_guard.proofs.cache.DecisionCache.at.Goals as goal

pub returns-then-is : goal.returns-then-is
returns-then-is c =
    let has : Contains c.args.self.now c.in_ok-row.row.now = rw (← c.self.view_is) (at_place c.self.inside.by_names.entries c.args.place _ (sym c.in_ok-row.ensures.entry)) in
    search (rules, has)
