-- Permissions that stand in their places.
use Rattle.std.proofs.Common.{◌≡◌, sym, subst, refl, ℕ, ◌<◌, ◌≤◌, ◌==◌, ◌||◌, ◌⊎◌, inl, inr, true, List, [], ◌∷◌, length, get_or, Some, arith}
use Rattle.std.proofs.lemmas.Bool.{or_cases, eqb-true}
use Rattle.acl_text.specs.Refusals.{perms_of}

-- a place is the letter or `-`
either : (P : ℕ → Type 0) (place letter : ℕ) → (place == letter || place == 45) ≡ true → P letter → P 45 → P place
either P place letter h first second = at (or_cases (place == letter) (place == 45) h)
  where
    at : ((place == letter) ≡ true) ⊎ ((place == 45) ≡ true) → P place
    at (inl e) = subst P (sym (eqb-true place letter e)) first
    at (inr e) = subst P (sym (eqb-true place 45 e)) second

IsRead : ℕ → ℕ → ℕ → Type 0
IsRead r w x = Some (record { read = r == 114; write = w == 119; execute = x == 120 }) ≡ perms_of (r ∷ w ∷ x ∷ [])

pub in_places : (field : List ℕ) → 3 ≤ length field → length field < 4 →
    (get_or field 0 0 == 114 || get_or field 0 0 == 45) ≡ true → (get_or field 1 0 == 119 || get_or field 1 0 == 45) ≡ true → (get_or field 2 0 == 120 || get_or field 2 0 == 45) ≡ true →
    Some (record { read = get_or field 0 0 == 114; write = get_or field 1 0 == 119; execute = get_or field 2 0 == 120 }) ≡ perms_of field
unfolding IsRead
in_places [] l m = absurd (omega (arith, l))
in_places (r ∷ []) l m = absurd (omega (arith, l))
in_places (r ∷ w ∷ []) l m = absurd (omega (arith, l))
in_places (r ∷ w ∷ x ∷ []) l m = λ a b c.
    either (λ r. IsRead r w x) r 114 a
    (either (λ w. IsRead 114 w x) w 119 b (either (IsRead 114 119) x 120 c refl refl) (either (IsRead 114 45) x 120 c refl refl))
    (either (λ w. IsRead 45 w x) w 119 b (either (IsRead 45 119) x 120 c refl refl) (either (IsRead 45 45) x 120 c refl refl))
in_places (r ∷ w ∷ x ∷ y ∷ more) l m = absurd (omega (arith, m))
