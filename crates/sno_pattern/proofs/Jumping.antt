-- Many cursors that are passed at once, since a text is missed where its first character does not stand.
use Rattle.std.proofs.Common.{◌≡◌, ◌≢◌, ℕ, zero, suc, ◌+◌, ◌-◌, ◌<◌, ◌≤◌, false, List, [], ◌∷◌, length, drop, sym, ap, ◌∙◌, arith, get_or, drop-cons, add-one}
use Rattle.std.{specs.Prelude.{nat_eq, ◌&&◌}, specs.List.{range_with_len, slice_index, starts_with}, proofs.lemmas.Bool.{false_from_ne_true, eqb-true}}
use Rattle.sno_text.specs.{Patterns.{Pattern}, inner.Reaching.{reached, here_if}, declared.reach.Reach.TheVariants.{Nowhere}}
use Rattle.sno_text.specs.Patterns as pattern
use Rattle.sno_pattern.{specs.declared.ending.Pending.{Pending}, specs.Steps.{Goal, Meet, at_each, outcome}, proofs.Pushing.{skip_one}}

-- a text is missed where another character stands than its first
pub missed_by_first : (text s : List ℕ) (k : ℕ) → k < length text → 0 < length s → slice_index text k ≢ slice_index s 0 → reached text (pattern.Text s) k ≡ Nowhere
missed_by_first text [] k lt some differ = absurd (omega (arith, some))
missed_by_first text (x ∷ s) k lt some differ =
    let ahead : drop k text ≡ get_or text k 0 ∷ drop (k + 1) text = rw add-one (drop-cons text k 0 lt) in
    let other : nat_eq x (get_or text k 0) ≡ false = false_from_ne_true _ (λ same. differ (sym (eqb-true x (get_or text k 0) same))) in
    ap (λ xs. here_if (starts_with nat_eq xs (x ∷ s)) (k + length (x ∷ s))) ahead
    ∙ ap (λ b. here_if (b && starts_with nat_eq (drop (k + 1) text) s) (k + length (x ∷ s))) other

module _ (text : List ℕ) (a : Pattern) (r : List Goal) (p : List Pending) where
  -- so many cursors where a pattern is missed at once take as many steps
  pub skip_many : (count c m : ℕ) → c + count ≤ length text → count ≤ m → ((k : ℕ) → c ≤ k → k < c + count → reached text a k ≡ Nowhere)
      → at_each (outcome text) (Meet a ∷ r) (range_with_len c (length text + 1 - c)) p m
      ≡ at_each (outcome text) (Meet a ∷ r) (range_with_len (c + count) (length text + 1 - (c + count))) p (m - count)
  skip_many zero c m l f h =
      ap (λ k. at_each (outcome text) (Meet a ∷ r) (range_with_len k (length text + 1 - k)) p m) (omega arith)
      ∙ ap (λ n. at_each (outcome text) (Meet a ∷ r) (range_with_len (c + 0) (length text + 1 - (c + 0))) p n) (omega arith)
  skip_many (suc count) c m l f h =
      skip_one text a c m r p (omega arith) (omega arith) (h c (omega arith) (omega arith))
      ∙ skip_many count (c + 1) (m - 1) (omega arith) (omega arith) (λ k low high. h k (omega arith) (omega arith))
      ∙ ap (λ k. at_each (outcome text) (Meet a ∷ r) (range_with_len k (length text + 1 - k)) p (m - 1 - count)) (omega arith)
      ∙ ap (λ n. at_each (outcome text) (Meet a ∷ r) (range_with_len (c + suc count) (length text + 1 - (c + suc count))) p n) (omega arith)
