use Rattle.std.proofs.Common.{◌++◌, ◌∙◌, sym, ap, append-nil}
use Rattle.std.proofs.lemmas.List.{drop_all}
use Rattle.deck_lint.{specs.Refused.{ties_refused}, proofs.Tying.{ties_more}}
use Rattle.deck_lint.proofs.ties.put_ties.Goals as goal

pub loop-card-preserved : goal.loop-card-preserved
loop-card-preserved c =
    ties_more c.args.cards.now c.loop-card.card-index c.card-item.result c.loop-card.tied c.put_tie.new.tied c.loop-card.found.items c.put_tie.new.found.items _
    c.loop-card-test.true (sym c.card-item.is) c.loop-card.invariant c.in_ok-put_tie.ensures.found c.in_ok-put_tie.ensures.tied

pub returns : goal.returns
returns c =
    let none = drop_all c.loop-card.card-index c.args.cards.now c.loop-card-test.false in
    let found = c.loop-card.found.items in
    sym (append-nil found) ∙ sym (ap (λ cs. found ++ ties_refused cs c.loop-card.tied) none) ∙ c.loop-card.invariant
