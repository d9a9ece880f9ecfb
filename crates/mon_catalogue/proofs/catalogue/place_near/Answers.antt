-- The entry at the place has the name.
use Rattle.std.proofs.Common.{rules, ◌≡◌, true, nat_eq, Some, option_map, slice_get, sym, ap, ◌∙◌}
use Rattle.std.{specs.Cmp.Lexicographic.{pointwise}, specs.Map.{values_of}, proofs.lemmas.Option.{slice_get-map}}
use Rattle.mon_text.proofs.Hints.{place_hinted}
use Rattle.mon_catalogue.proofs.catalogue.place_near.Goals as goal

pub returns-then-eq-clause-place : goal.returns-then-eq-clause-place
returns-then-eq-clause-place c =
    let same_name : pointwise nat_eq c.args.name.now c.in-Some.key.now ≡ true = search rules in
    place_hinted c.args.name.now c.args.sets.now.entries c.args.place (c.in-Some.key.now, c.in-Some.field-0-1.now) c.requires c.in-Some.ensures.entry same_name

pub returns-then-eq-clause-value : goal.returns-then-eq-clause-value
returns-then-eq-clause-value c =
    let there : slice_get (values_of c.args.sets.now.entries) c.args.place ≡ Some c.in-Some.field-0-1.now =
    slice_get-map _ c.args.sets.now.entries c.args.place ∙ ap (option_map (λ e. e.1)) (sym c.in-Some.ensures.entry) in
    search (rules, there)
