-- Functions that were defined with names that no program has to define.
use Rattle.std.proofs.Common.{◌≡◌, ℕ, Bool, true, false, cond, List, [], ◌∷◌, Some, None, refl, sym, ap, ◌∙◌, nat_eq, true≢false}
use Rattle.std.specs.{Prelude.{◌||◌, if◌then◌else◌}, Map.{lookup}, Cmp.Lexicographic.{pointwise, bytes_decides}}
use Rattle.indexmap.specs.IndexMap.{insert_entry}
use Rattle.sno_declarations.specs.declared.definition.Definition.{Definition}
use Rattle.sno_store.specs.Callees.{is_built_in, any_built_in}
use Rattle.sno_variables.proofs.Looking.{same}

neither : (a b : Bool) → (a || b) ≡ false → (a ≡ false) × (b ≡ false)
neither true b h = absurd (true≢false h)
neither false b h = (refl, h)

none : (fs : List (List ℕ × Definition)) (name : List ℕ) → any_built_in fs ≡ false → is_built_in name ≡ true → lookup (same name) fs ≡ None
none [] name h is = refl
none (e ∷ es) name h is = by (same name e.0) refl (none es name (neither (is_built_in e.0) (any_built_in es) h).1 is)
  where
    by : (b : Bool) → same name e.0 ≡ b → lookup (same name) es ≡ None → cond b (Some e.1) (lookup (same name) es) ≡ None
    by true g rest = absurd (true≢false (sym is ∙ ap is_built_in ((bytes_decides name e.0).0 g) ∙ (neither (is_built_in e.0) (any_built_in es) h).0))
    by false g rest = rest

-- where no such name was defined, none is found
pub none_defined : (fs : List (List ℕ × Definition)) (name : List ℕ) → false ≡ any_built_in fs → true ≡ is_built_in name → None ≡ lookup (pointwise nat_eq name) fs
none_defined fs name h is = sym (none fs name (sym h) (sym is))

either : (a b c : Bool) → a ≡ c → ((a || b) || c) ≡ (a || b)
either true b c h = refl
either false true c h = refl
either false false c h = sym h

joined : (a b c d : Bool) → d ≡ (b || c) → (a || d) ≡ ((a || b) || c)
joined true b c d h = refl
joined false b c d h = h

one_more : (fs : List (List ℕ × Definition)) (name : List ℕ) (d : Definition) → any_built_in (insert_entry (pointwise nat_eq) fs name d) ≡ (any_built_in fs || is_built_in name)
one_more [] name d = last (is_built_in name)
  where
    last : (b : Bool) → (b || false) ≡ b
    last true = refl
    last false = refl
one_more (e ∷ es) name d = by (same name e.0) refl (one_more es name d)
  where
    by : (b : Bool) → same name e.0 ≡ b → any_built_in (insert_entry (pointwise nat_eq) es name d) ≡ (any_built_in es || is_built_in name)
        → any_built_in (if b then (e.0, d) ∷ es else e ∷ insert_entry (pointwise nat_eq) es name d) ≡ ((is_built_in e.0 || any_built_in es) || is_built_in name)
    by true g rest = sym (either (is_built_in e.0) (any_built_in es) (is_built_in name) (ap is_built_in (sym ((bytes_decides name e.0).0 g))))
    by false g rest = joined (is_built_in e.0) (any_built_in es) (is_built_in name) (any_built_in (insert_entry (pointwise nat_eq) es name d)) rest

-- what is known once a function was defined
pub defining : (fs gs : List (List ℕ × Definition)) (name : List ℕ) (d : Definition) (had is : Bool) → gs ≡ insert_entry (pointwise nat_eq) fs name d → had ≡ any_built_in fs
    → is ≡ is_built_in name → (had || is) ≡ any_built_in gs
defining fs gs name d had is inserted h said =
    ap (λ (b : Bool). b || is) h ∙ ap (λ (b : Bool). any_built_in fs || b) said ∙ sym (ap any_built_in inserted ∙ one_more fs name d)
