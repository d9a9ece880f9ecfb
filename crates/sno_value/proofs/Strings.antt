-- Strings that are formed: how long they are, and what that gives.
use Rattle.std.proofs.Common.{arith, ◌≡◌, ℕ, ◌*◌, ◌≤◌, ◌<◌, List, length, sym, ap, Bool, true, false}
use Rattle.std.{specs.Prelude.{nat_le, nat_lt, if◌then◌else◌}, proofs.lemmas.Bool.Decides.{nat_tests}, specs.List.{repeat}}
use Rattle.sno_text.{proofs.Repeating.{length-repeated}, specs.declared.fault.Fault.TheVariants.{Length}}
use Rattle.sno_value.specs.{declared.value.Value.TheVariants.{Text}, declared.outcome.Outcome.TheVariants.{Gives, Faults}, Outcomes.{string}}

by_length : (text : List ℕ) (b : Bool) (given : Bool) → b ≡ given → (if given then Gives (Text text) else Faults Length) ≡ (if b then Gives (Text text) else Faults Length)
by_length text b given e = ap (λ (c : Bool). if c then Gives (Text text) else Faults Length) (sym e)

pub too_long : (most : ℕ) (text : List ℕ) → most < length text → Faults Length ≡ string most text
too_long most text over = by_length text (nat_le (length text) most) false (grind (arith, nat_tests, over))

pub not_too_long : (most : ℕ) (text : List ℕ) → length text ≤ most → Gives (Text text) ≡ string most text
not_too_long most text within = by_length text (nat_le (length text) most) true (grind (arith, nat_tests, within))

-- the same by the test on their number
pub too_many : (most n : ℕ) (text : List ℕ) (b : Bool) → b ≡ nat_lt most (n * length text) → b ≡ true → Faults Length ≡ string most (repeat n text)
too_many most n text b test e = let long = length-repeated n text in too_long most (repeat n text) (grind (arith, nat_tests, test, e, long))

pub not_too_many : (most n : ℕ) (text : List ℕ) (b : Bool) → b ≡ nat_lt most (n * length text) → b ≡ false → Gives (Text (repeat n text)) ≡ string most (repeat n text)
not_too_many most n text b test e = let long = length-repeated n text in not_too_long most (repeat n text) (grind (arith, nat_tests, test, e, long))
