-- The line of a number, on the way to it.
use Rattle.std.proofs.Common.{◌≡◌, ℕ, suc, ◌-◌, ◌<◌, ◌≤◌, List, [], ◌∷◌, refl, sym, ap, ◌∙◌, arith, slice_index_or}
use Rattle.std.specs.Str.Lines.{lines}
use Rattle.site_plan.specs.Replies.{line_at}

-- it is the first
pub first_is : (left : ℕ) (rest line behind wanted : List ℕ) → line_at left (lines rest) ≡ wanted → lines rest ≡ line ∷ lines behind → left ≤ 1 → line ≡ wanted
first_is left rest line behind wanted so_far parts few =
    let none : left - 1 ≡ 0 = omega (arith, few) in
    sym (ap (line_at left) parts ∙ ap (λ n. slice_index_or (line ∷ lines behind) n []) none) ∙ so_far

-- it stands behind it
pub next_is : (left less : ℕ) (rest line behind wanted : List ℕ) → line_at left (lines rest) ≡ wanted → lines rest ≡ line ∷ lines behind → 1 < left → less ≡ left - 1 → line_at less (lines behind) ≡ wanted
next_is left less rest line behind wanted so_far parts more is =
    let one : left - 1 ≡ suc (less - 1) = omega (arith, more, is) in
    sym (ap (line_at left) parts ∙ ap (λ n. slice_index_or (line ∷ lines behind) n []) one) ∙ so_far

-- there is none
pub none_left : (left : ℕ) (rest wanted : List ℕ) → line_at left (lines rest) ≡ wanted → rest ≡ [] → rest ≡ wanted
none_left left rest wanted so_far none = none ∙ (sym (nothing (left - 1)) ∙ (sym (ap (λ (r : List ℕ). line_at left (lines r)) none) ∙ so_far))
  where
    nothing : (n : ℕ) → slice_index_or {A = List ℕ} [] n [] ≡ []
    nothing n = refl
