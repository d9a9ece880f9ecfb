-- Texts as they are read of what was kept, one after the other.
use Rattle.std.proofs.Common.{◌≡◌, ℕ, suc, ◌+◌, ◌<◌, List, [], ◌∷◌, ◌++◌, length, take, get_or, refl, sym, ap, ◌∙◌, subst, arith}
use Rattle.std.{proofs.lemmas.List.{take_more, length-take-le}, specs.Prelude.{map}}
use Rattle.preflight.specs.{declared.submission.Submission.{Submission}, Rounds.{Handed}, Submissions.{IsAdmitted}}
use Rattle.parts_laws.specs.Runs.{GoWithNames}
use Rattle.parts.specs.{Told.{Told}, Splits.{speaks, goes}, declared.text.Text.{Text}}
use Rattle.parts.specs.Splits as splits
use Rattle.round_parts.{specs.Names.{AreRead}, proofs.Spoken.{go_read}}
use Rattle.round_cut.specs.Cuts.{AreKept, SpeaksOfItsOwn, IsReadFrom, AddsOne, AreReadFrom}

-- one more
pub one_more : (n k : ℕ) (submissions : List Submission) (texts : List Text) (one : Submission) (text : Text) → k ≡ n + length submissions → AreReadFrom n submissions texts
    → IsReadFrom k one text → AreReadFrom n (submissions ++ one ∷ []) (texts ++ text ∷ [])
one_more n k [] [] one text is are here = (subst (λ (i : ℕ). IsReadFrom i one text) (let same : k ≡ n = omega (arith, is) in same) here, tt)
one_more n k [] (other ∷ texts) one text is are here = absurd are
one_more n k (other ∷ submissions) [] one text is are here = absurd are
one_more n k (other ∷ submissions) (that ∷ texts) one text is (first, are) here =
    (first, one_more (suc n) k submissions texts one text (omega (arith, is)) are here)

-- so far, in a loop
pub so_far : (i : ℕ) (submissions : List Submission) (one : Submission) (before after : List Text) → i < length submissions → one ≡ get_or submissions i one
    → AreReadFrom 0 (take i submissions) before → AddsOne i one before after → AreReadFrom 0 (take (i + 1) submissions) after
so_far i submissions one before after within here are adds =
    let many : length (take i submissions) ≡ i = length-take-le i submissions (omega (arith, within)) in
    subst (λ (ts : List Text). AreReadFrom 0 (take (i + 1) submissions) ts) (sym adds.is)
    (subst (λ (ss : List Submission). AreReadFrom 0 ss (before ++ adds.text ∷ []))
    (sym (take_more submissions i one within ∙ ap (λ (s : Submission). take i submissions ++ s ∷ []) (sym here)))
    (one_more 0 i (take i submissions) before one adds.text (omega (arith, many)) are adds.read))

are_read : (n : ℕ) (submissions : List Submission) (texts : List Text) (handed : List Handed) → AreReadFrom n submissions texts → AreKept submissions handed → AreRead n texts handed
are_read n [] [] [] are kept = tt
are_read n [] [] (one ∷ handed) are kept = absurd kept
are_read n [] (text ∷ texts) handed are kept = absurd are
are_read n (one ∷ submissions) [] handed are kept = absurd are
are_read n (one ∷ submissions) (text ∷ texts) [] are kept = absurd kept
are_read n (one ∷ submissions) (text ∷ texts) (this ∷ handed) (here, are) (admitted, kept) =
    (here.number, here.speaks one.account this.asked admitted.is, are_read (suc n) submissions texts handed are kept)

pub of_its_own : (told : Told) (submissions : List Submission) (texts : List Text) → AreReadFrom 0 submissions texts
    → GoWithNames speaks (goes told) (map splits.numbered texts) → SpeaksOfItsOwn told submissions
of_its_own told submissions texts are go handed kept = go_read (goes told) 0 0 texts handed (are_read 0 submissions texts handed are kept) go
