-- What variables have once several were given values.
use Rattle.std.proofs.Common.{◌≡◌, ℕ, Bool, true, false, ◌||◌, List, [], ◌∷◌, refl, sym, ap, ◌∙◌, true≢false}
use Rattle.std.specs.List.{list_any}
use Rattle.sno_value.specs.declared.value.Value.{Value}
use Rattle.sno_variables.{specs.declared.variable.Variable.{Variable}, specs.Variables.{Variables, variable_of, value_of, given}, proofs.Saved.{saved}}
use Rattle.sno_variables.{specs.Bindings.{Bindings, assigned}, proofs.Looking.{same, put_is_found, others_stay, one_variable}, specs.Laws.{AssociationsStay}}

-- a name has what it was given
has_given : (name n : List ℕ) (v : Value) (vs : Variables) → same name n ≡ true → value_of name (given n v vs) ≡ v
has_given name n v vs h = ap (λ (x : Variable). x.value) (one_variable name n (given n v vs) h ∙ put_is_found n (record (variable_of n vs) { value = v }) vs)

pub other_given : (name n : List ℕ) (v : Value) (vs : Variables) → same name n ≡ false → value_of name (given n v vs) ≡ value_of name vs
other_given name n v vs h = ap (λ (x : Variable). x.value) (others_stay n name (record (variable_of n vs) { value = v }) vs h)

module _ (old : Variables) (name : List ℕ) where
  keeps : (names : List (List ℕ)) (vs : Variables) → value_of name vs ≡ value_of name old → value_of name (assigned (saved names old) vs) ≡ value_of name old
  keeps [] vs h = h
  keeps (n ∷ ns) vs h = keeps ns (given n (value_of n old) vs) (by (same name n) refl)
    where
      by : (b : Bool) → same name n ≡ b → value_of name (given n (value_of n old) vs) ≡ value_of name old
      by true g = has_given name n (value_of n old) vs g ∙ sym (ap (λ (x : Variable). x.value) (one_variable name n old g))
      by false g = other_given name n (value_of n old) vs g ∙ h

  -- those that were saved are there again
  pub restores : (names : List (List ℕ)) (vs : Variables) → list_any (same name) names ≡ true → value_of name (assigned (saved names old) vs) ≡ value_of name old
  restores [] vs h = absurd (true≢false (sym h))
  restores (n ∷ ns) vs h = by (same name n) refl h (λ k. restores ns (given n (value_of n old) vs) k)
    where
      by : (b : Bool) → same name n ≡ b → (b || list_any (same name) ns) ≡ true
          → (list_any (same name) ns ≡ true → value_of name (assigned (saved ns old) (given n (value_of n old) vs)) ≡ value_of name old)
          → value_of name (assigned (saved ns old) (given n (value_of n old) vs)) ≡ value_of name old
      by true g h rest =
          keeps ns (given n (value_of n old) vs)
          (has_given name n (value_of n old) vs g ∙ sym (ap (λ (x : Variable). x.value) (one_variable name n old g)))
      by false g h rest = rest h

  -- and the others stay
  pub leaves : (names : List (List ℕ)) (vs : Variables) → list_any (same name) names ≡ false → value_of name (assigned (saved names old) vs) ≡ value_of name vs
  leaves [] vs h = refl
  leaves (n ∷ ns) vs h = by (same name n) refl h (λ k. leaves ns (given n (value_of n old) vs) k)
    where
      by : (b : Bool) → same name n ≡ b → (b || list_any (same name) ns) ≡ false
          → (list_any (same name) ns ≡ false → value_of name (assigned (saved ns old) (given n (value_of n old) vs)) ≡ value_of name (given n (value_of n old) vs))
          → value_of name (assigned (saved ns old) (given n (value_of n old) vs)) ≡ value_of name vs
      by true g h rest = absurd (true≢false h)
      by false g h rest = rest h ∙ other_given name n (value_of n old) vs g

one_association : {A : Type 0} (seen : Variable → A) → ((x : Variable) (v : Value) → seen (record x { value = v }) ≡ seen x)
    → (name n : List ℕ) (v : Value) (vs : Variables) → seen (variable_of name (given n v vs)) ≡ seen (variable_of name vs)
one_association seen blind name n v vs = by (same name n) refl
  where
    by : (b : Bool) → same name n ≡ b → seen (variable_of name (given n v vs)) ≡ seen (variable_of name vs)
    by true g =
        ap seen (one_variable name n (given n v vs) g ∙ put_is_found n (record (variable_of n vs) { value = v }) vs)
        ∙ blind (variable_of n vs) v ∙ sym (ap seen (one_variable name n vs g))
    by false g = ap seen (others_stay n name (record (variable_of n vs) { value = v }) vs g)

all_associations : {A : Type 0} (seen : Variable → A) → ((x : Variable) (v : Value) → seen (record x { value = v }) ≡ seen x)
    → (bindings : Bindings) (vs : Variables) (name : List ℕ) → seen (variable_of name (assigned bindings vs)) ≡ seen (variable_of name vs)
all_associations seen blind [] vs name = refl
all_associations seen blind (b ∷ bs) vs name =
    all_associations seen blind bs (given b.0 b.1 vs) name ∙ one_association seen blind name b.0 b.1 vs

pub associations_stay : AssociationsStay
associations_stay = λ bindings vs name. (
  all_associations (λ (x : Variable). x.input) (λ x v. refl) bindings vs name,
  all_associations (λ (x : Variable). x.output) (λ x v. refl) bindings vs name,
)
