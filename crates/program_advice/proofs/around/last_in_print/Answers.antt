-- The first that the closure finds from behind.
use Rattle.std.proofs.Common.{rules, tests, ap, sym, ◌∙◌}
use Rattle.std.proofs.lemmas.Iterator.{Adapters.{YieldsList-from_rev_slice}, Search.{find_from_yields_List}}
use Rattle.program_advice.{specs.Causes.{is_no_blank, or_end}, proofs.Copied.{map_copies}}
use Rattle.program_advice.proofs.around.last_in_print.Goals as goal

pub returns : goal.returns
returns c =
    c.or_end.ensures
    ∙ ap or_end
    (sym (map_copies c.find.result)
    ∙ find_from_yields_List is_no_blank _ _ c.find.result c.find.ensures.ran (YieldsList-from_rev_slice c.args.text.now (cc)) (λ x b q k. search (rules, tests)))
