-- A set of another name is put last, until none is left.
use Rattle.std.proofs.Common.{◌≡◌, rules, [], ◌∷◌, ◌++◌, sym, ap, subst, ◌∙◌}
use Rattle.std.proofs.lemmas.List.{append-nil}
use Rattle.mon_catalogue.{specs.Sets.{Sets, IsCatalogue}, proofs.Names.{absent_before, fewer_before, next_of}}
use Rattle.mon_catalogue.proofs.catalogue.Catalogue.copy.Goals as goal

pub add-requires-clause-absent : goal.add-requires-clause-absent
add-requires-clause-absent c =
    let one : ◌≡◌ {A = Sets} c.loop-name.name-iterator ((c.in-Some.name.now, c.in-Some.set.now) ∷ c.next.new.self) = search rules in
    let whole = next_of _ _ _ _ _ one c.loop-name.invariant in
    let sound : IsCatalogue c.args.self.now = search rules in
    rw c.copy-in-loop-name-2.ensures (absent_before _ _ _ (subst IsCatalogue (sym whole.0) sound))

pub add-requires-clause-room : goal.add-requires-clause-room
add-requires-clause-room c =
    let one : ◌≡◌ {A = Sets} c.loop-name.name-iterator ((c.in-Some.name.now, c.in-Some.set.now) ∷ c.next.new.self) = search rules in
    let whole = next_of _ _ _ _ _ one c.loop-name.invariant in
    let sound : IsCatalogue c.args.self.now = search rules in
    fewer_before _ _ _ (subst IsCatalogue (sym whole.0) sound)

pub loop-name-preserved : goal.loop-name-preserved
loop-name-preserved c =
    let one : ◌≡◌ {A = Sets} c.loop-name.name-iterator ((c.in-Some.name.now, c.in-Some.set.now) ∷ c.next.new.self) = search rules in
    let whole = next_of _ _ _ _ _ one c.loop-name.invariant in
    let next = whole.1 in
    search (rules, next)

pub returns : goal.returns
returns c =
    let none : ◌≡◌ {A = Sets} c.loop-name.name-iterator [] = search rules in
    sym (append-nil _) ∙ ap (λ (sets : Sets). c.loop-name.copy ++ sets) (sym none) ∙ c.loop-name.invariant
