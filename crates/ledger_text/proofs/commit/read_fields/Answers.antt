use Rattle.std.proofs.Common.{◌≡◌, ◌+◌, ◌-◌, ◌++◌, ℕ, List, [], ◌∷◌, map, sym, ap, ◌∙◌, Bor}
use Rattle.std.proofs.lemmas.List.{map-append}
use Rattle.ledger_text.{specs.Text.{whole, read_fields}, proofs.Taking.{behind, next_field, no_field}}
use Rattle.ledger_text.proofs.commit.read_fields.Goals as goal

abbrev seen : List (Bor (List ℕ)) → List (List ℕ)
seen = map (λ (field : Bor (List ℕ)). field.now)

pub returns-in-None : goal.returns-in-None
returns-in-None c = sym (ap whole (c.loop.invariant ∙ no_field (seen c.loop.fields.items) c.args.count c.loop.counter c.loop.rest.now c.loop-test.true (sym c.in-None.ensures)))

pub loop-preserved : goal.loop-preserved
loop-preserved c =
    let items : seen c.push.new.self.items ≡ seen c.loop.fields.items ++ c.in-Some.field.now ∷ [] = ap seen c.in_ok-push-in-Some.ensures.items ∙ map-append (λ (field : Bor (List ℕ)). field.now) c.loop.fields.items (c.in-Some.field ∷ []) in
    c.loop.invariant ∙ next_field (seen c.loop.fields.items) c.args.count c.loop.counter c.loop.rest.now c.in-Some.field.now c.in-Some.behind.now c.loop-test.true (sym c.in-Some.ensures)
    ∙ ap (λ (l : List (List ℕ)). behind l (read_fields (c.args.count - (c.loop.counter + 1)) c.in-Some.behind.now)) (sym items)
