use Rattle.std.proofs.Common.{ℕ, List, ap, ◌∙◌}
use Rattle.std.specs.{Prelude.{◌==◌}, List.{list_all}}
use Rattle.parts.{specs.Told.{Told}, proofs.Telling.{values_in}}
use Rattle.parts.proofs.checking.all_told_in.Goals as goal

pub returns : goal.returns
returns c =
    c.are_all.ensures
    ∙ ap (λ (l : List ℕ). list_all (λ own. own == c.args.part) l) (c.as_slice.ensures ∙ c.values.ensures.rest)
    ∙ values_in c.args.part c.split.inside.names.entries
    ∙ ap (λ (told : Told). list_all (λ e. e.1 == c.args.part) told.names) c.split.view_is
