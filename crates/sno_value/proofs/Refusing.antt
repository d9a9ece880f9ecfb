-- What keeps values from becoming parts of a pattern.
use Rattle.std.proofs.Common.{arith, ◌≡◌, ℕ, ◌+◌, refl, Bool, true, false}
use Rattle.std.{specs.Prelude.{Option, Some, None, is_some, nat_le, if◌then◌else◌}, proofs.lemmas.Bool.Decides.{nat_tests}}
use Rattle.sno_text.specs.{declared.fault.Fault.TheVariants.{WrongType, Depth}, Patterns.{Pattern, Cat, Alt, Arbno, larger, depth, most_depth}}
use Rattle.sno_value.specs.{declared.outcome.Outcome.TheVariants.{Faults}, Outcomes.{pattern_with, pattern_with_both}, Memory.{is_deepest, is_given}}

over : (m : ℕ) → nat_le most_depth m ≡ true → nat_le (1 + m) most_depth ≡ false
over m e = grind (arith, nat_tests, e)

fits : (m : ℕ) → nat_le most_depth m ≡ false → nat_le (1 + m) most_depth ≡ true
fits m e = grind (arith, nat_tests, e)

-- the deeper one of two
over_left : (m n : ℕ) → nat_le most_depth m ≡ true → nat_le (1 + larger m n) most_depth ≡ false
over_left m n e = at (nat_le m n) refl
  where
    at : (b : Bool) → nat_le m n ≡ b → nat_le (1 + (if b then n else m)) most_depth ≡ false
    at true d = grind (arith, nat_tests, d, e)
    at false d = grind (arith, nat_tests, e)

over_right : (m n : ℕ) → nat_le most_depth n ≡ true → nat_le (1 + larger m n) most_depth ≡ false
over_right m n e = at (nat_le m n) refl
  where
    at : (b : Bool) → nat_le m n ≡ b → nat_le (1 + (if b then n else m)) most_depth ≡ false
    at true d = grind (arith, nat_tests, e)
    at false d = grind (arith, nat_tests, d, e)

both_fit : (m n : ℕ) → nat_le most_depth m ≡ false → nat_le most_depth n ≡ false → nat_le (1 + larger m n) most_depth ≡ true
both_fit m n e f = at (nat_le m n)
  where
    at : (b : Bool) → nat_le (1 + (if b then n else m)) most_depth ≡ true
    at true = grind (arith, nat_tests, f)
    at false = grind (arith, nat_tests, e)

-- ONE

pub none_repeated : (p : Option Pattern) → is_some p ≡ false → pattern_with Arbno p ≡ Faults WrongType
none_repeated None e = refl
none_repeated (Some a) e = cc

pub repeated_deep : (p : Option Pattern) → is_deepest p ≡ true → pattern_with Arbno p ≡ Faults Depth
repeated_deep None e = cc
repeated_deep (Some a) e = let h = over (depth a) e in rw h refl

pub repeated : (p : Option Pattern) → is_some p ≡ true → is_deepest p ≡ false → is_given (pattern_with Arbno p) ≡ true
repeated None e d = cc
repeated (Some a) e d = let h = fits (depth a) d in rw h refl

-- TWO

pub none_left : (make : Pattern → Pattern → Pattern) (p q : Option Pattern) → is_some p ≡ false → pattern_with_both make p q ≡ Faults WrongType
none_left make None q e = refl
none_left make (Some a) q e = cc

pub none_right : (make : Pattern → Pattern → Pattern) (p q : Option Pattern) → is_some q ≡ false → pattern_with_both make p q ≡ Faults WrongType
none_right make None q e = refl
none_right make (Some a) None e = refl
none_right make (Some a) (Some b) e = cc

-- one after the other
pub joined_deep_left : (p q : Option Pattern) → is_some q ≡ true → is_deepest p ≡ true → pattern_with_both Cat p q ≡ Faults Depth
joined_deep_left None q e d = cc
joined_deep_left (Some a) None e d = cc
joined_deep_left (Some a) (Some b) e d = let h = over_left (depth a) (depth b) d in rw h refl

pub joined_deep_right : (p q : Option Pattern) → is_some p ≡ true → is_deepest q ≡ true → pattern_with_both Cat p q ≡ Faults Depth
joined_deep_right None q e d = cc
joined_deep_right (Some a) None e d = cc
joined_deep_right (Some a) (Some b) e d = let h = over_right (depth a) (depth b) d in rw h refl

pub joined : (p q : Option Pattern) → is_some p ≡ true → is_some q ≡ true → is_deepest p ≡ false → is_deepest q ≡ false
    → is_given (pattern_with_both Cat p q) ≡ true
joined None q e f d g = cc
joined (Some a) None e f d g = cc
joined (Some a) (Some b) e f d g = let h = both_fit (depth a) (depth b) d g in rw h refl

-- one or else the other
pub chosen_deep_left : (p q : Option Pattern) → is_some q ≡ true → is_deepest p ≡ true → pattern_with_both Alt p q ≡ Faults Depth
chosen_deep_left None q e d = cc
chosen_deep_left (Some a) None e d = cc
chosen_deep_left (Some a) (Some b) e d = let h = over_left (depth a) (depth b) d in rw h refl

pub chosen_deep_right : (p q : Option Pattern) → is_some p ≡ true → is_deepest q ≡ true → pattern_with_both Alt p q ≡ Faults Depth
chosen_deep_right None q e d = cc
chosen_deep_right (Some a) None e d = cc
chosen_deep_right (Some a) (Some b) e d = let h = over_right (depth a) (depth b) d in rw h refl

pub chosen : (p q : Option Pattern) → is_some p ≡ true → is_some q ≡ true → is_deepest p ≡ false → is_deepest q ≡ false
    → is_given (pattern_with_both Alt p q) ≡ true
chosen None q e f d g = cc
chosen (Some a) None e f d g = cc
chosen (Some a) (Some b) e f d g = let h = both_fit (depth a) (depth b) d g in rw h refl
