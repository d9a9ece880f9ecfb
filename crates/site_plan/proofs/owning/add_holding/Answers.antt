use Rattle.std.proofs.Common.{◌≡◌, [], ◌∷◌, ◌++◌, Some, None, map, slice_get, sym, ap, ◌∙◌, append-nil}
use Rattle.std.specs.Option.{option_copied}
use Rattle.site_plan.{specs.declared.owning.Holding.{Holding}, specs.Owning.{held_by}, proofs.Owners.{one_there, none_there}}
use Rattle.site_plan.proofs.owning.add_holding.Goals as goal

pub returns-in_ok-push-in-Some : goal.returns-in_ok-push-in-Some
returns-in_ok-push-in-Some c =
    let accounts = c.args.accounts.now in
    let sets = c.args.catalogue.now in
    let held = c.args.held.now.items in
    let there : Some c.in-Some.account.now ≡ slice_get accounts c.args.place = sym (ap option_copied c.in-Some.is) ∙ c.at.ensures in
    c.in_ok-push-in-Some.ensures.items
    ∙ ap (λ (h : Holding). held ++ h ∷ []) c.holding_of.ensures
    ∙ sym (ap (λ one. held ++ map (λ account. held_by sets account.name) one) (one_there c.args.place accounts c.in-Some.account.now there))

pub returns-in-None : goal.returns-in-None
returns-in-None c =
    let accounts = c.args.accounts.now in
    let sets = c.args.catalogue.now in
    let held = c.args.held.now.items in
    let none : None ≡ slice_get accounts c.args.place = sym (ap option_copied c.in-None.is) ∙ c.at.ensures in
    sym (append-nil held) ∙ sym (ap (λ one. held ++ map (λ account. held_by sets account.name) one) (none_there c.args.place accounts none))
