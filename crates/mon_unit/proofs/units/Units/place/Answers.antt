use Rattle.std.proofs.Common.{rules, ◌≡◌, Some, ap, sym, ◌∙◌, slice_get}
use Rattle.std.proofs.lemmas.Option.{slice_get-get_or}
use Rattle.mon_unit.{specs.declared.tie.Tie.{Tie}, proofs.Ties.{placed_there, placed_past}}
use Rattle.mon_unit.proofs.units.Units.place.Goals as goal

pub returns-then-unit-lt-TIES : goal.returns-then-unit-lt-TIES
returns-then-unit-lt-TIES c =
    let inside : slice_get c.self.inside.ties.items c.args.unit ≡ Some c.index_mut.result.now =
    slice_get-get_or c.self.inside.ties.items c.args.unit c.index_mut.result.now (search rules) ∙ ap (λ (t : Tie). Some t) (sym c.index_mut.ensures.value) in
    let there : slice_get c.args.self.now.ties c.args.unit ≡ Some c.index_mut.result.now = search (rules, inside) in
    let placed = placed_there c.args.self.now c.args.unit c.args.position c.index_mut.result.now there in
    search (rules, placed)

pub returns-else-unit-lt-TIES : goal.returns-else-unit-lt-TIES
returns-else-unit-lt-TIES c = placed_past c.args.self.now c.args.unit c.args.position (search rules)
