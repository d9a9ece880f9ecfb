-- Counts of kinds of entries, and what a valid list has.
use Rattle.std.proofs.Common.{◌≡◌, ◌+◌, ◌<◌, Bool, true, false, cond, ◌||◌, List, [], ◌∷◌, refl, sym, ◌∙◌, true≢false, arith}
use Rattle.std.{specs.Prelude.{count_by}, specs.List.{list_any}, proofs.lemmas.List.Sums.{sum_by-cons}}
use Rattle.mon_acl.specs.{declared.entries.Tag.TheVariants.{Mask}, declared.entries.Entry.{Entry}, Entries.{has_tag, is_named, IsValidAcl}}

count_by-cons : {X : Type 0} (p : X → Bool) (x : X) (xs : List X) → count_by p (x ∷ xs) ≡ cond (p x) 1 0 + count_by p xs
count_by-cons p x xs = sum_by-cons (λ y. cond (p y) 1 0) x xs

-- some element passes a test exactly where the count is above 0
pub any_from_count : {X : Type 0} (p : X → Bool) (xs : List X) → 0 < count_by p xs → list_any p xs ≡ true
any_from_count p [] h = absurd (omega (arith, h))
any_from_count p (x ∷ xs) h = by (p x) (rw count_by-cons at h) (any_from_count p xs)
  where
    by : (b : Bool) → 0 < cond b 1 0 + count_by p xs → (0 < count_by p xs → list_any p xs ≡ true) → (b || list_any p xs) ≡ true
    by true h rest = refl
    by false h rest = rest (omega (arith, h))

pub count_from_any : {X : Type 0} (p : X → Bool) (xs : List X) → list_any p xs ≡ true → 0 < count_by p xs
count_from_any p [] h = absurd (true≢false (sym h))
count_from_any p (x ∷ xs) h = rw count_by-cons (by (p x) h (count_from_any p xs))
  where
    by : (b : Bool) → (b || list_any p xs) ≡ true → (list_any p xs ≡ true → 0 < count_by p xs) → 0 < cond b 1 0 + count_by p xs
    by true h rest = omega arith
    by false h rest = omega (arith, rest h)

pub any_from_one : {X : Type 0} (p : X → Bool) (xs : List X) → count_by p xs ≡ 1 → list_any p xs ≡ true
any_from_one p xs one = any_from_count p xs (omega (arith, one))

-- a valid list with a named entry has a mask
pub masked_by : (entries : List Entry) → IsValidAcl entries → list_any is_named entries ≡ true → list_any (has_tag Mask) entries ≡ true
masked_by entries valid named = any_from_one _ entries (valid.masked (count_from_any _ entries named))

-- so one with no mask has no named entry
pub unnamed : (entries : List Entry) → IsValidAcl entries → list_any (has_tag Mask) entries ≡ false → list_any is_named entries ≡ false
unnamed entries valid bare = by (list_any is_named entries) (masked_by entries valid)
  where
    by : (b : Bool) → (b ≡ true → list_any (has_tag Mask) entries ≡ true) → b ≡ false
    by true masked = absurd (true≢false (sym (masked refl) ∙ bare))
    by false masked = refl
