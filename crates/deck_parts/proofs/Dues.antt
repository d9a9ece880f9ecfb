-- The submissions of a part, found one after the other.
use Rattle.std.proofs.Common.{◌≡◌, ℕ, suc, ◌+◌, ◌<◌, ◌≤◌, List, ◌∷◌, ◌++◌, length, drop, get_or, sym, ap, ◌∙◌, arith, append-nil}
use Rattle.std.proofs.lemmas.List.{drop_more, at_drop_all}
use Rattle.deck_parts.specs.declared.record.TextNote.{TextNote}
use Rattle.deck_parts.specs.declared.output.Due.{Due}
use Rattle.deck_parts.specs.Numbers.{dues_of}

module _ (k i : ℕ) (texts : List TextNote) (all : List Due) where
  -- one more
  pub one_due : (before ahead before_then ahead_then : ℕ) (text : TextNote) (found then : List Due) → i < length texts → text ≡ get_or texts i text
      → then ++ dues_of k (suc i) before_then ahead_then (drop (i + 1) texts) ≡ found ++ dues_of k i before ahead (text ∷ drop (i + 1) texts)
      → found ++ dues_of k i before ahead (drop i texts) ≡ all
      → then ++ dues_of k (i + 1) before_then ahead_then (drop (i + 1) texts) ≡ all
  one_due before ahead before_then ahead_then text found then within here step so_far =
      let next : i + 1 ≡ suc i = omega arith in
      ap (λ (n : ℕ). then ++ dues_of k n before_then ahead_then (drop (i + 1) texts)) next
      ∙ step
      ∙ ap (λ (l : List TextNote). found ++ dues_of k i before ahead l) (ap (λ (t : TextNote). t ∷ drop (i + 1) texts) here ∙ sym (drop_more texts i text within))
      ∙ so_far

  -- all of them
  pub all_due : (before ahead : ℕ) (found : List Due) → length texts ≤ i → found ++ dues_of k i before ahead (drop i texts) ≡ all → found ≡ all
  all_due before ahead found within so_far =
      sym (append-nil found) ∙ sym (at_drop_all (λ (l : List TextNote). found ++ dues_of k i before ahead l) texts i within) ∙ so_far
