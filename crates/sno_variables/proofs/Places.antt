-- The place of a name.
use Rattle.std.proofs.Common.{◌≡◌, ℕ, zero, suc, nat_eq, nat_lt, ◌<◌, Bool, true, false, cond, not, List, [], ◌∷◌, ◌+◌, length, None, Some, position, slice_get, refl, sym, ap, subst, ◌∙◌, true≢false, arith}
use Rattle.std.specs.{Prelude.{if◌then◌else◌}, List.{position_or_len, IsDistinct}, Cmp.Lexicographic.{pointwise}, Map.{keys_of, values_of, lookup}}
use Rattle.std.proofs.lemmas.Bool.Decides.{nat_tests}
use Rattle.indexmap.specs.IndexMap.{set_value_at}
use Rattle.sno_variables.specs.{declared.variable.Variable.{Variable}, Variables.{Variables, put}, inner.Places.{AreDistinct}}
use Rattle.sno_variables.proofs.Looking.{same}

-- WHAT IS WRITTEN AT A PLACE

pub keys_stay : (vs : Variables) (i : ℕ) (x : Variable) → keys_of (set_value_at vs i x) ≡ keys_of vs
keys_stay [] i x = refl
keys_stay (e ∷ es) zero x = refl
keys_stay (e ∷ es) (suc i) x = ap (λ names. e.0 ∷ names) (keys_stay es i x)

pub still_distinct : (vs : Variables) (i : ℕ) (x : Variable) → AreDistinct vs → AreDistinct (set_value_at vs i x)
still_distinct vs i x are = subst (IsDistinct (pointwise nat_eq)) (sym (keys_stay vs i x)) are

at_first : (name : List ℕ) (vs : Variables) (x : Variable) → nat_lt (position_or_len (same name) (keys_of vs)) (length (keys_of vs)) ≡ true
    → set_value_at vs (position_or_len (same name) (keys_of vs)) x ≡ put name x vs
at_first name [] x within = absurd (true≢false (sym within))
at_first name (e ∷ es) x within = by (same name e.0) refl within (λ h. at_first name es x h)
  where
    by : (b : Bool) → same name e.0 ≡ b → nat_lt (cond (not b) (1 + position_or_len (same name) (keys_of es)) 0) (suc (length (keys_of es))) ≡ true
        → (nat_lt (position_or_len (same name) (keys_of es)) (length (keys_of es)) ≡ true → set_value_at es (position_or_len (same name) (keys_of es)) x ≡ put name x es)
        → set_value_at (e ∷ es) (cond (not b) (1 + position_or_len (same name) (keys_of es)) 0) x ≡ (if b then (e.0, x) ∷ es else e ∷ put name x es)
    by true g h rest = refl
    by false g h rest =
        let next : 1 + position_or_len (same name) (keys_of es) ≡ suc (position_or_len (same name) (keys_of es)) = omega arith in
        let inside : nat_lt (position_or_len (same name) (keys_of es)) (length (keys_of es)) ≡ true = grind (arith, nat_tests) in
        rw next (ap (λ l. e ∷ l) (rest inside))

zero_within : (n : ℕ) → nat_lt 0 (suc n) ≡ false → n < 0
zero_within n h = grind (arith, nat_tests)

pub place : (name : List ℕ) (vs : Variables) (i : ℕ) → position (same name) (keys_of vs) ≡ Some i
    → (position_or_len (same name) (keys_of vs) ≡ i) × (nat_lt (position_or_len (same name) (keys_of vs)) (length (keys_of vs)) ≡ true)
place name vs i = by (nat_lt (position_or_len (same name) (keys_of vs)) (length (keys_of vs)))
  where
    by : (b : Bool) → cond b (Some (position_or_len (same name) (keys_of vs))) None ≡ Some i → (position_or_len (same name) (keys_of vs) ≡ i) × (b ≡ true)
    by true e = let same_place : position_or_len (same name) (keys_of vs) ≡ i = cc in (same_place, refl)
    by false e = cc

-- what is written at the place of a name is the variable of that name
pub put_there : (name : List ℕ) (vs : Variables) (i : ℕ) (x : Variable) → Some i ≡ position (pointwise nat_eq name) (keys_of vs) → set_value_at vs i x ≡ put name x vs
put_there name vs i x at =
    let p = place name vs i (sym at) in
    ap (λ (n : ℕ). set_value_at vs n x) (sym p.0) ∙ at_first name vs x p.1

-- WHAT STANDS AT A PLACE

values_at : (name : List ℕ) (vs : Variables) → nat_lt (position_or_len (same name) (keys_of vs)) (length (keys_of vs)) ≡ true
    → slice_get (values_of vs) (position_or_len (same name) (keys_of vs)) ≡ lookup (same name) vs
values_at name [] within = absurd (true≢false (sym within))
values_at name (e ∷ es) within = by (same name e.0) within (λ h. values_at name es h)
  where
    by : (b : Bool) → nat_lt (cond (not b) (1 + position_or_len (same name) (keys_of es)) 0) (suc (length (keys_of es))) ≡ true
        → (nat_lt (position_or_len (same name) (keys_of es)) (length (keys_of es)) ≡ true → slice_get (values_of es) (position_or_len (same name) (keys_of es)) ≡ lookup (same name) es)
        → slice_get (e.1 ∷ values_of es) (cond (not b) (1 + position_or_len (same name) (keys_of es)) 0) ≡ cond b (Some e.1) (lookup (same name) es)
    by true h rest = refl
    by false h rest =
        let next : 1 + position_or_len (same name) (keys_of es) ≡ suc (position_or_len (same name) (keys_of es)) = omega arith in
        let inside : nat_lt (position_or_len (same name) (keys_of es)) (length (keys_of es)) ≡ true = grind (arith, nat_tests) in
        rw next (rest inside)

nothing : (name : List ℕ) (vs : Variables) → nat_lt (position_or_len (same name) (keys_of vs)) (length (keys_of vs)) ≡ false → lookup (same name) vs ≡ None
nothing name [] none = refl
nothing name (e ∷ es) none = by (same name e.0) none (λ h. nothing name es h)
  where
    by : (b : Bool) → nat_lt (cond (not b) (1 + position_or_len (same name) (keys_of es)) 0) (suc (length (keys_of es))) ≡ false
        → (nat_lt (position_or_len (same name) (keys_of es)) (length (keys_of es)) ≡ false → lookup (same name) es ≡ None)
        → cond b (Some e.1) (lookup (same name) es) ≡ None
    by true h rest = absurd (omega (arith, zero_within (length (keys_of es)) h))
    by false h rest = let outside : nat_lt (position_or_len (same name) (keys_of es)) (length (keys_of es)) ≡ false = grind (arith, nat_tests) in rest outside

-- the variable of the name
pub value_there : (name : List ℕ) (vs : Variables) (i : ℕ) → Some i ≡ position (pointwise nat_eq name) (keys_of vs) → slice_get (values_of vs) i ≡ lookup (pointwise nat_eq name) vs
value_there name vs i at =
    let p = place name vs i (sym at) in
    ap (λ (n : ℕ). slice_get (values_of vs) n) (sym p.0) ∙ values_at name vs p.1

-- and none where there is no place
pub none_there : (name : List ℕ) (vs : Variables) → None ≡ position (pointwise nat_eq name) (keys_of vs) → None ≡ lookup (pointwise nat_eq name) vs
none_there name vs at = by (nat_lt (position_or_len (same name) (keys_of vs)) (length (keys_of vs))) refl (sym at)
  where
    by : (b : Bool) → nat_lt (position_or_len (same name) (keys_of vs)) (length (keys_of vs)) ≡ b → cond b (Some (position_or_len (same name) (keys_of vs))) None ≡ None
        → None ≡ lookup (same name) vs
    by true g h = cc
    by false g h = sym (nothing name vs g)

pub ruleset lending = (put_there, value_there, none_there)
