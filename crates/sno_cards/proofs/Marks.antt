-- A mark stands somewhere exactly where a search finds one.
use Rattle.std.proofs.Common.{◌≡◌, ◌==◌, ◌||◌, ◌<◌, ℕ, zero, suc, Bool, true, false, List, [], ◌∷◌, length, Option, Some, None, is_some, refl, sym, ap, ◌∙◌, arith}
use Rattle.std.specs.List.{list_any, slice_index}
use Rattle.std.proofs.lemmas.Bool.{false_from_ne_true}
use Rattle.memchr.specs.Find.{IsFirstByte, is_byte3}
use Rattle.mon_text.specs.Characters.{is_quote}

abbrev is_mark : ℕ → Bool
is_mark c = is_quote c || c == 59

stands : (xs : List ℕ) (k : ℕ) → k < length xs → is_mark (slice_index xs k) ≡ true → list_any is_mark xs ≡ true
stands [] k within is = absurd (omega (arith, within))
stands (x ∷ xs) zero within is = ap (λ (b : Bool). b || list_any is_mark xs) is
stands (x ∷ xs) (suc k) within is = by (is_mark x) (stands xs k (omega (arith, within)) is)
  where
    by : (b : Bool) → list_any is_mark xs ≡ true → (b || list_any is_mark xs) ≡ true
    by true rest = refl
    by false rest = rest

nowhere : (xs : List ℕ) → ((k : ℕ) → k < length xs → is_mark (slice_index xs k) ≡ false) → list_any is_mark xs ≡ false
nowhere [] none = refl
nowhere (x ∷ xs) none =
    ap (λ (b : Bool). b || list_any is_mark xs) (none 0 (omega arith)) ∙ nowhere xs (λ k within. none (suc k) (omega (arith, within)))

pub marks_found : (xs : List ℕ) (r : Option ℕ) → IsFirstByte (is_byte3 39 34 59) xs r → is_some r ≡ list_any is_mark xs
marks_found xs None none =
    sym (nowhere xs (λ k within. false_from_ne_true (is_mark (slice_index xs k)) (none k (omega arith) within)))
marks_found xs (Some k) (first, passes) = sym (stands xs k first.high passes)
