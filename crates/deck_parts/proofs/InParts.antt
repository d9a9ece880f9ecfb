-- The texts of a part, one after the other.
use Rattle.std.proofs.Common.{◌≡◌, ℕ, suc, ◌+◌, ◌<◌, List, [], ◌∷◌, ◌++◌, length, take, get_or, sym, ap, ◌∙◌, arith, append_assoc, append-nil}
use Rattle.std.proofs.lemmas.List.{take_more, length-take-le}
use Rattle.parts_laws.specs.Runs.{Split}
use Rattle.preflight.specs.declared.submission.Submission.{Submission}
use Rattle.deck_parts.specs.PartDecks.{text_in, texts_in}

module _ (split : Split (List ℕ)) (k : ℕ) where
  -- one more
  one_more : (n m : ℕ) (texts : List Submission) (one : Submission) → m ≡ n + length texts
      → texts_in split k n (texts ++ one ∷ []) ≡ texts_in split k n texts ++ text_in split k m one
  one_more n m [] one is =
      let same : n ≡ m = omega (arith, is) in append-nil (text_in split k n one) ∙ ap (λ (i : ℕ). text_in split k i one) same
  one_more n m (text ∷ texts) one is =
      ap (λ (later : List ℕ). text_in split k n text ++ later) (one_more (suc n) m texts one (omega (arith, is)))
      ∙ sym (append_assoc (text_in split k n text) (texts_in split k (suc n) texts) (text_in split k m one))

  -- so far, in a loop
  pub so_far : (i : ℕ) (texts : List Submission) (one : Submission) (first before after : List ℕ) → i < length texts → one ≡ get_or texts i one
      → before ≡ first ++ texts_in split k 0 (take i texts) → after ≡ before ++ text_in split k i one
      → after ≡ first ++ texts_in split k 0 (take (i + 1) texts)
  so_far i texts one first before after within here are adds =
      let many : length (take i texts) ≡ i = length-take-le i texts (omega (arith, within)) in
      adds ∙ ap (λ (l : List ℕ). l ++ text_in split k i one) are
      ∙ append_assoc first (texts_in split k 0 (take i texts)) (text_in split k i one)
      ∙ ap (λ (l : List ℕ). first ++ l) (sym (one_more 0 i (take i texts) one (omega (arith, many))))
      ∙ ap (λ (ts : List Submission). first ++ texts_in split k 0 ts) (ap (λ (s : Submission). take i texts ++ s ∷ []) here ∙ sym (take_more texts i one within))
