-- Where a search finds a byte: that is its position in the list.
use Rattle.std.proofs.Common.{◌≡◌, ℕ, Bool, false, List, length, Option, Some, None, sym, ap, ◌∙◌, arith, position}
use Rattle.std.specs.List.{position_or_len, slice_index}
use Rattle.std.proofs.lemmas.{Bool.{cond-true, cond-false, false_from_ne_true, lt-ltb, le-ltb}, List.Sums.{position_or_len_is}}
use Rattle.memchr.specs.Find.{IsFirstByte, Passes}

module _ (test : ℕ → Bool) (bytes : List ℕ) where
  fails : (k : ℕ) → ¬ Passes test bytes k → test (slice_index bytes k) ≡ false
  fails k never = false_from_ne_true (test (slice_index bytes k)) never

  pub found : (r : Option ℕ) → IsFirstByte test bytes r → r ≡ position test bytes
  found None none =
      let at = position_or_len_is test bytes (length bytes) 0 (omega arith) (λ k lower. fails k (none k (omega arith) lower)) (λ beyond. absurd (omega (arith, beyond))) in
      sym (cond-false _ _ _ (le-ltb (position_or_len test bytes) (length bytes) (omega (arith, at))))
  found (Some k) (first, passes) =
      let at = position_or_len_is test bytes k 0 (omega (arith, first.high)) (λ j lower. fails j (first.before j (omega arith) lower)) (λ _. passes) in
      sym (cond-true _ _ _ (lt-ltb (position_or_len test bytes) (length bytes) (omega (arith, at, first.high))) ∙ ap Some at)
