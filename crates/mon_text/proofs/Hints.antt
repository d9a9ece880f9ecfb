-- The entry at a place with the name is the one of that name, since no two entries have one name.
use Rattle.std.proofs.Common.{◌≡◌, ℕ, zero, suc, nat_eq, nat_lt, ◌<◌, Bool, true, false, cond, not, List, [], ◌∷◌, ◌+◌, length, None, Some, position, slice_get, refl, sym, ap, ◌∙◌, true≢false, arith}
use Rattle.std.specs.{List.{position_or_len, IsDistinct, AllByRecursion}, Cmp.Lexicographic.{pointwise, nat_list_eq_equiv}, Map.{keys_of}}
use Rattle.std.proofs.lemmas.Bool.Decides.{nat_tests}

abbrev same : List ℕ → List ℕ → Bool
same a b = pointwise nat_eq a b

apart : {A : Type 0} (key : List ℕ) (es : List (List ℕ × A)) (i : ℕ) (e : List ℕ × A) → AllByRecursion (λ y. pointwise nat_eq key y ≡ false) (keys_of es)
    → slice_get es i ≡ Some e → same key e.0 ≡ false
apart key [] i e h at = cc
apart {A} key (d ∷ ds) zero e h at = let is : d ≡ e = cc in sym (ap (λ (p : List ℕ × A). same key p.0) is) ∙ h.0
apart key (d ∷ ds) (suc i) e h at = apart key ds i e h.1 at

hinted : {A : Type 0} (name : List ℕ) (es : List (List ℕ × A)) (i : ℕ) (e : List ℕ × A) → IsDistinct (pointwise nat_eq) (keys_of es) → slice_get es i ≡ Some e
    → same name e.0 ≡ true → (position_or_len (same name) (keys_of es) ≡ i) × (i < length (keys_of es))
unfolding IsDistinct
hinted name [] i e are at h = cc
hinted {A} name (d ∷ ds) zero e are at h =
    let is : d ≡ e = cc in
    let first : same name d.0 ≡ true = ap (λ (p : List ℕ × A). same name p.0) is ∙ h in
    (ap (λ (b : Bool). cond (not b) (1 + position_or_len (same name) (keys_of ds)) 0) first, omega arith)
hinted name (d ∷ ds) (suc i) e are at h =
    let rest = hinted name ds i e are.1 at h in
    let other : same d.0 e.0 ≡ false = apart d.0 ds i e are.0 at in
    let no : same name d.0 ≡ false = differs (same name d.0) refl other in
    let here = ap (λ (b : Bool). cond (not b) (1 + position_or_len (same name) (keys_of ds)) 0) no in
    (here ∙ omega (arith, rest.0), omega (arith, rest.1))
  where
    differs : (b : Bool) → same name d.0 ≡ b → same d.0 e.0 ≡ false → b ≡ false
    differs true g other = absurd (true≢false (sym h ∙ nat_list_eq_equiv.congr name d.0 e.0 g ∙ other))
    differs false g other = refl

pub place_hinted : {A : Type 0} (name : List ℕ) (es : List (List ℕ × A)) (i : ℕ) (e : List ℕ × A) → IsDistinct (pointwise nat_eq) (keys_of es)
    → Some e ≡ slice_get es i → same name e.0 ≡ true → Some i ≡ position (pointwise nat_eq name) (keys_of es)
place_hinted name es i e are at h =
    let found = hinted name es i e are (sym at) h in
    let within : nat_lt (position_or_len (same name) (keys_of es)) (length (keys_of es)) ≡ true = grind (arith, nat_tests) in
    sym (ap (λ (b : Bool). cond b (Some (position_or_len (same name) (keys_of es))) None) within ∙ ap Some found.0)
