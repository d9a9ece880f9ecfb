-- The chain goes over the text from its end.
use Rattle.std.proofs.Common.{rules, tests, ap}
use Rattle.std.proofs.lemmas.Iterator.{Adapters.{YieldsList-from_rev_slice}, Consumers.{fold_from_yields_List}}
use Rattle.program_advice.specs.Brackets.{back_over}
use Rattle.program_advice.proofs.brackets.open_behind.Goals as goal

pub returns : goal.returns
returns c =
    ap (λ w. w.found)
    (fold_from_yields_List _ back_over _ c.fold.result c.fold.ensures.ran (YieldsList-from_rev_slice c.args.text.now (cc)) (λ a x b q k. search (rules, tests)))
