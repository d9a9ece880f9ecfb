use Rattle.std.proofs.Common.{ℕ, List, ap, ◌∙◌}
use Rattle.std.specs.{Prelude.{nat_lt}, List.{list_all}}
use Rattle.parts.{specs.Told.{Told}, proofs.Telling.{values_below}}
use Rattle.parts.proofs.checking.names_within.Goals as goal

pub returns : goal.returns
returns c =
    c.are_below.ensures
    ∙ ap (λ (l : List ℕ). list_all (λ part. nat_lt part c.args.most) l) (c.as_slice.ensures ∙ c.values.ensures.rest)
    ∙ values_below c.args.most c.split.inside.names.entries
    ∙ ap (λ (told : Told). list_all (λ e. nat_lt e.1 c.args.most) told.names) c.split.view_is
