-- The options on a job's card, one by one.
use Rattle.std.proofs.Common.{◌≡◌, ℕ, Bool, true, false, ◌&&◌, ◌||◌, List, [], ◌∷◌, length, drop, Some, slice_get, refl, sym, ap, arith, true≢false}
use Rattle.deck_syntax.specs.Jobs.{are_options}

pub one_option : (ws : List (List ℕ)) (w : List ℕ) → length ws ≡ 3 → slice_get ws 2 ≡ Some w → drop 2 ws ≡ w ∷ []
one_option [] w three here = absurd (omega (arith, three))
one_option (a ∷ []) w three here = absurd (omega (arith, three))
one_option (a ∷ b ∷ []) w three here = absurd (omega (arith, three))
one_option (a ∷ b ∷ c ∷ []) w three here = let e : c ≡ w = cc in ap (λ (v : List ℕ). v ∷ []) e
one_option (a ∷ b ∷ c ∷ d ∷ ws) w three here = absurd (omega (arith, three))

both_options : (c d w v : List ℕ) → c ≡ w → d ≡ v → c ∷ d ∷ [] ≡ w ∷ v ∷ []
both_options c d w v first second = cc

pub of_four : (ws : List (List ℕ)) (w v : List ℕ) → length ws ≡ 4 → slice_get ws 2 ≡ Some w → slice_get ws 3 ≡ Some v → drop 2 ws ≡ w ∷ v ∷ []
of_four [] w v four first second = absurd (omega (arith, four))
of_four (a ∷ []) w v four first second = absurd (omega (arith, four))
of_four (a ∷ b ∷ []) w v four first second = absurd (omega (arith, four))
of_four (a ∷ b ∷ c ∷ []) w v four first second = absurd (omega (arith, four))
of_four (a ∷ b ∷ c ∷ d ∷ []) w v four first second = let one : c ≡ w = cc in let two : d ≡ v = cc in both_options c d w v one two
of_four (a ∷ b ∷ c ∷ d ∷ e ∷ ws) w v four first second = absurd (omega (arith, four))

-- there are no more than two
pub two_options : (ws : List (List ℕ)) (w v : List ℕ) → are_options (drop 2 ws) ≡ true → slice_get ws 2 ≡ Some w → slice_get ws 3 ≡ Some v → drop 2 ws ≡ w ∷ v ∷ []
two_options [] w v are first second = cc
two_options (a ∷ []) w v are first second = cc
two_options (a ∷ b ∷ []) w v are first second = cc
two_options (a ∷ b ∷ c ∷ []) w v are first second = cc
two_options (a ∷ b ∷ c ∷ d ∷ []) w v are first second = let one : c ≡ w = cc in let two : d ≡ v = cc in both_options c d w v one two
two_options (a ∷ b ∷ c ∷ d ∷ e ∷ ws) w v are first second = absurd (true≢false (sym are))

pub second_of : (a b : Bool) → (a && b) ≡ true → b ≡ true
second_of true b h = h
second_of false b h = absurd (true≢false (sym h))

-- of two options that are one of each kind, each is an option
module _ (a b c d : Bool) (h : (a && d || b && c) ≡ true) where
  pub first_is : (a || b) ≡ true
  first_is = first a b c d h
    where
      first : (a b c d : Bool) → (a && d || b && c) ≡ true → (a || b) ≡ true
      first true b c d h = refl
      first false true c d h = refl
      first false false c d h = h

  pub other_is : (c || d) ≡ true
  other_is = other a b c d h
    where
      other : (a b c d : Bool) → (a && d || b && c) ≡ true → (c || d) ≡ true
      other a b true d h = refl
      other a b false true h = refl
      other true true false false h = h
      other true false false false h = h
      other false true false false h = h
      other false false false false h = h
