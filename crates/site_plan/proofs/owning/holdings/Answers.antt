use Rattle.std.proofs.Common.{List, ap, ◌∙◌, ◌++◌, map, take, drop}
use Rattle.site_plan.{specs.declared.owning.Holding.{Holding}, specs.Owning.{held_by}, proofs.Owners.{one_more}}
use Rattle.site_plan.proofs.owning.holdings.Goals as goal

pub loop-place-preserved : goal.loop-place-preserved
loop-place-preserved c =
    let at = c.loop-place in
    let accounts = c.args.accounts.now in
    let next = take 1 (drop at.place accounts) in
    c.in_ok-add_holding.ensures
    ∙ ap (λ (held : List Holding). held ++ map (λ account. held_by c.args.catalogue.now account.name) next) at.invariant
    ∙ one_more (λ account. held_by c.args.catalogue.now account.name) at.place accounts
