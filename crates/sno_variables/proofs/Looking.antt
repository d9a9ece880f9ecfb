-- What is found after a variable was put.
use Rattle.std.proofs.Common.{◌≡◌, ℕ, Bool, true, false, cond, List, [], ◌∷◌, Option, Some, None, refl, sym, ap, ap₂, ◌∙◌, nat_eq}
use Rattle.std.specs.{Prelude.{unwrap_or, if◌then◌else◌}, Map.{lookup}, Cmp.Lexicographic.{pointwise, nat_list_eq_equiv}}
use Rattle.sno_value.specs.{declared.value.Value.{Value}, Values.{null}}
use Rattle.sno_variables.specs.{declared.variable.Variable.{Variable}, Variables.{Variables, holding, variable_of, value_of, put, given, noted}}

abbrev pub same : List ℕ → List ℕ → Bool
same a b = pointwise nat_eq a b

pub found : (name : List ℕ) (variable : Variable) (vs : Variables) → lookup (same name) (put name variable vs) ≡ Some variable
found name variable [] = ap (λ (b : Bool). cond b (Some variable) None) (nat_list_eq_equiv.refl name)
found name variable (e ∷ es) = by (same name e.0) refl (found name variable es)
  where
    by : (b : Bool) → same name e.0 ≡ b → lookup (same name) (put name variable es) ≡ Some variable
        → lookup (same name) (if b then (e.0, variable) ∷ es else e ∷ put name variable es) ≡ Some variable
    by true h rest = ap (λ (b : Bool). cond b (Some variable) (lookup (same name) es)) h
    by false h rest = ap (λ (b : Bool). cond b (Some e.1) (lookup (same name) (put name variable es))) h ∙ rest

other_name : (name other key : List ℕ) → same name key ≡ true → same other name ≡ false → same other key ≡ false
other_name name other key h differ =
    nat_list_eq_equiv.symm other key ∙ sym (nat_list_eq_equiv.congr name key other h) ∙ nat_list_eq_equiv.symm name other ∙ differ

stays : (name other : List ℕ) (variable : Variable) (vs : Variables) → same other name ≡ false → lookup (same other) (put name variable vs) ≡ lookup (same other) vs
stays name other variable [] differ = ap (λ (b : Bool). cond b (Some variable) None) differ
stays name other variable (e ∷ es) differ = by (same name e.0) refl (stays name other variable es differ)
  where
    by : (b : Bool) → same name e.0 ≡ b → lookup (same other) (put name variable es) ≡ lookup (same other) es
        → lookup (same other) (if b then (e.0, variable) ∷ es else e ∷ put name variable es) ≡ lookup (same other) (e ∷ es)
    by true h rest =
        let no_key = other_name name other e.0 h differ in
        ap (λ (b : Bool). cond b (Some variable) (lookup (same other) es)) no_key ∙ sym (ap (λ (b : Bool). cond b (Some e.1) (lookup (same other) es)) no_key)
    by false h rest = ap (cond (same other e.0) (Some e.1)) rest

alike : (a b : List ℕ) → same a b ≡ true → (vs : Variables) → lookup (same a) vs ≡ lookup (same b) vs
alike a b h [] = refl
alike a b h (e ∷ es) = ap₂ (λ (x : Bool) (o : Option Variable). cond x (Some e.1) o) (nat_list_eq_equiv.congr a b e.0 h) (alike a b h es)

pub put_is_found : (name : List ℕ) (variable : Variable) (vs : Variables) → variable_of name (put name variable vs) ≡ variable
put_is_found name variable vs = ap (λ o. unwrap_or o (holding null)) (found name variable vs)

-- a variable has the value that it was given
pub given_found : (name : List ℕ) (v : Value) (vs : Variables) → value_of name (given name v vs) ≡ v
given_found name v vs = ap (λ (x : Variable). x.value) (put_is_found name (record (variable_of name vs) { value = v }) vs)

pub others_stay : (name other : List ℕ) (variable : Variable) (vs : Variables) → same other name ≡ false → variable_of other (put name variable vs) ≡ variable_of other vs
others_stay name other variable vs differ = ap (λ o. unwrap_or o (holding null)) (stays name other variable vs differ)

-- equal names are names of one variable
pub one_variable : (a b : List ℕ) (vs : Variables) → same a b ≡ true → variable_of a vs ≡ variable_of b vs
one_variable a b vs h = ap (λ o. unwrap_or o (holding null)) (alike a b h vs)

pub naming_changes_nothing : (name other : List ℕ) (vs : Variables) → variable_of other (noted name vs) ≡ variable_of other vs
naming_changes_nothing name other vs = by (same other name) refl
  where
    by : (b : Bool) → same other name ≡ b → variable_of other (noted name vs) ≡ variable_of other vs
    by true h = one_variable other name (noted name vs) h ∙ put_is_found name (variable_of name vs) vs ∙ sym (one_variable other name vs h)
    by false h = others_stay name other (variable_of name vs) vs h
