use Rattle.std.proofs.Common.{◌≡◌, Some, ap, ◌∙◌, subst}
use Rattle.std.specs.Prelude.{IfOk}
use Rattle.mon_catalogue.specs.Sets.{Sets}
use Rattle.ledger_sets.specs.{Applying.{Site, with_sets, after_change}, Changes.{changes_between, change_text}, Laws.{AreSmall}}
use Rattle.ledger_restoring.specs.Restoring.{restored}
use Rattle.ledger_restoring.proofs.restoring.restore_change.Goals as goal

pub returns-clause-change : goal.returns-clause-change
returns-clause-change c =
    subst (λ (t : Sets). IfOk c.leading_change.result (λ text. text.items ≡ change_text (changes_between c.args.present.now t)))
    (c.in_ok-put_back.ensures ∙ ap (restored c.args.name.now c.args.past) c.in_ok-target.ensures) c.leading_change.ensures.change

pub returns-clause-leads : goal.returns-clause-leads
returns-clause-leads c =
    subst (λ (t : Sets). IfOk c.leading_change.result (λ text. (site : Site) → site.sets ≡ c.args.present.now
    → AreSmall (changes_between c.args.present.now t) → after_change text.items site ≡ Some (with_sets site t)))
    (c.in_ok-put_back.ensures ∙ ap (restored c.args.name.now c.args.past) c.in_ok-target.ensures) c.leading_change.ensures.leads
