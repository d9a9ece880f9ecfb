-- Texts without a `#`, and parts of them.
use Rattle.std.proofs.Common.{◌≡◌, ℕ, zero, suc, ◌||◌, Bool, true, false, cond, List, [], ◌∷◌, take, drop, refl, ap}
use Rattle.std.specs.List.{list_any}
use Rattle.acl_text.specs.Texts.{is_hash, without_comment}

pub any_take : (p : ℕ → Bool) (i : ℕ) (xs : List ℕ) → list_any p xs ≡ false → list_any p (take i xs) ≡ false
any_take p zero xs none = refl
any_take p (suc i) [] none = refl
any_take p (suc i) (x ∷ xs) none = by (p x) none (any_take p i xs)
  where
    by : (b : Bool) → (b || list_any p xs) ≡ false → (list_any p xs ≡ false → list_any p (take i xs) ≡ false) → (b || list_any p (take i xs)) ≡ false
    by true h go = cc
    by false h go = go h

pub any_drop : (p : ℕ → Bool) (i : ℕ) (xs : List ℕ) → list_any p xs ≡ false → list_any p (drop i xs) ≡ false
any_drop p zero xs none = none
any_drop p (suc i) [] none = refl
any_drop p (suc i) (x ∷ xs) none = by (p x) none (any_drop p i xs)
  where
    by : (b : Bool) → (b || list_any p xs) ≡ false → (list_any p xs ≡ false → list_any p (drop i xs) ≡ false) → list_any p (drop i xs) ≡ false
    by true h go = cc
    by false h go = go h

-- it has no comment
pub no_comment : (line : List ℕ) → list_any is_hash line ≡ false → line ≡ without_comment line
no_comment [] none = refl
no_comment (c ∷ cs) none = by (is_hash c) none (no_comment cs)
  where
    by : (b : Bool) → (b || list_any is_hash cs) ≡ false → (list_any is_hash cs ≡ false → cs ≡ without_comment cs) → c ∷ cs ≡ cond b [] (c ∷ without_comment cs)
    by true h go = cc
    by false h go = ap (λ (t : List ℕ). c ∷ t) (go h)
