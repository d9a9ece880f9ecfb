use Rattle.std.proofs.Common.{rules}
use Rattle.mon_guard.{specs.Cache.{CacheFits}, proofs.Fitting.{kept_left, left_fits, left_changed}}
use Rattle.mon_guard.proofs.guard.Guard.write.Goals as goal

pub returns-in_err-answered-clause-fit : goal.returns-in_err-answered-clause-fit
returns-in_err-answered-clause-fit c =
    left_fits c.args.self.now c.args.name.now _ c.in-Some.set.now c.args.catalogue.now c.in_err-answered.ensures.unchanged c.in-Some.ensures.found c.requires.fit

pub returns-clause-sets : goal.returns-clause-sets
returns-clause-sets c =
    let changed = left_changed c.args.name.now _ c.in-Some.set.now _ c.args.catalogue.now c.in_ok-answered.ensures.set c.in-Some.ensures.found in
    search (rules, changed)

pub returns-clause-fit : goal.returns-clause-fit
returns-clause-fit c =
    let fit : CacheFits c.self.inside.cache c.args.catalogue.now = rw c.self.view_is c.requires.fit in
    kept_left c.args.account.now c.args.name.now _ c.in-Some.set.now _ c.args.catalogue.now _ _ c.remember.ensures c.in_ok-answered.ensures.set c.in-Some.ensures.found fit
