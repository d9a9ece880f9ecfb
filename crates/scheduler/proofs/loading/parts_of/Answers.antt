use Rattle.std.proofs.Common.{ℕ, List, [], ◌∙◌, ap, sym, drop, Result}
use Rattle.scheduler.proofs.Common.{option_map_or, result_ok, ProgramText, SyntaxError, new_units, with_ties}
use Rattle.scheduler.proofs.loading.parts_of.Goals as goal

pub returns-clause-units : goal.returns-clause-units
returns-clause-units c =
    let lines = c.args.lines.now in
    c.in_ok-units.ensures
    ∙ ap (λ (behind : List (List ℕ)). with_ties c.args.ties.now (new_units behind))
    ((λ k. drop (c.data_from.ensures k) lines)
    ∙ sym (ap (λ (read : Result ProgramText SyntaxError). option_map_or (λ good. drop good.data_from lines) (result_ok read) []) c.in_ok-cards.ensures.cards))
