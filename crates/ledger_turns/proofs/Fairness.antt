-- The order of a round is fair.
use Rattle.std.proofs.Common.{◌≡◌, ◌⊎◌, ℕ, ◌+◌, ◌≤◌, ◌%◌, zero, suc, List, [], ◌∷◌, ◌++◌, length, take, drop, get_or, sym, ap, ◌∙◌, subst, inl, inr, arith, take_all, take-append-drop, IsPermutation}
use Rattle.std.proofs.lemmas.List.{Concat.{flat_map-append}, Sorted.{IsPermutation-trans, IsPermutation-append_comm}}
use Rattle.ledger_turns.specs.Order.{longest, rotated, served, texts_of, AreQueuesFrom, IsAbreast, FairOrder}
use Rattle.ledger_turns.proofs.Queues.{joined, IsAlone, owned, rotated_alone, its_queue}
use Rattle.ledger_turns.proofs.Turns.{AreWithin, within_longest, all_taken, IsAt, turns_take, comes_to}

-- ---- queues in another order

within_both : {T : Type 0} (n : ℕ) (qs rs : List (List T)) → AreWithin n qs → AreWithin n rs → AreWithin n (qs ++ rs)
within_both n [] rs these those = those
within_both n (q ∷ qs) rs (is, these) those = (is, within_both n qs rs these those)

within_parts : {T : Type 0} (n : ℕ) (qs rs : List (List T)) → AreWithin n (qs ++ rs) → AreWithin n qs × AreWithin n rs
within_parts n [] rs are = (tt, are)
within_parts n (q ∷ qs) rs (is, are) = let parts = within_parts n qs rs are in ((is, parts.0), parts.1)

within_rotated : {T : Type 0} (n round : ℕ) (queues : List (List T)) → AreWithin n queues → AreWithin n (rotated round queues)
within_rotated {T} n round queues are =
    let k = round % length queues in
    let parts = within_parts n (take k queues) (drop k queues) (subst (λ (qs : List (List T)). AreWithin n qs) (sym (take-append-drop k queues)) are) in
    within_both n (drop k queues) (take k queues) parts.1 parts.0

joined_rotated : {T : Type 0} (round : ℕ) (queues : List (List T)) → IsPermutation (joined queues) (joined (rotated round queues))
joined_rotated {T} round queues =
    let k = round % length queues in
    let front = take k queues in
    let back = drop k queues in
    let whole : joined queues ≡ joined front ++ joined back = ap joined (sym (take-append-drop k queues)) ∙ flat_map-append (λ queue. queue) front back in
    let turned : joined (back ++ front) ≡ joined back ++ joined front = flat_map-append (λ queue. queue) back front in
    subst (λ (t : List T). IsPermutation t (joined (back ++ front))) (sym whole)
    (subst (λ (t : List T). IsPermutation (joined front ++ joined back) t) (sym turned) (IsPermutation-append_comm (joined front) (joined back)))

-- an account has no more texts than the longest queue
no_more : {T : Type 0} (n : ℕ) (queues : List (List T)) (k : ℕ) → AreWithin n queues → length (get_or queues k []) ≤ n
no_more n [] k are = omega arith
no_more n (queue ∷ queues) zero (is, are) = is
no_more n (queue ∷ queues) (suc k) (is, are) = no_more n queues k are

module _ {T : Type 0} (account : T → ℕ) (round : ℕ) (queues : List (List T)) (are : AreQueuesFrom account 0 queues) where
  alone : (i : ℕ) → IsAlone account i (rotated round queues)
  alone i = let its = its_queue account i i 0 queues (omega arith) are in (rotated_alone account i round queues its.0).0

  own : (i : ℕ) → texts_of account i (served round queues) ≡ get_or queues i []
  own i =
      let its = its_queue account i i 0 queues (omega arith) are in
      let turned = rotated_alone account i round queues its.0 in
      let there : owned account i (rotated round queues) ≡ get_or queues i [] = turned.1 ∙ its.1 in
      turns_take account i (longest queues) (rotated round queues) turned.0
      ∙ ap (λ (t : List T). take (longest queues) t) there
      ∙ take_all (longest queues) (get_or queues i []) (no_more (longest queues) queues i (within_longest queues))

  abreast : (i j : ℕ) → IsAbreast account (served round queues) i j
  abreast i j n =
      let at = comes_to account (longest queues) n (rotated round queues) in
      none_ahead at.0 (take n (served round queues)) (served round queues) i j (at.1 i (alone i)) (at.1 j (alone j))
    where
      none_ahead : (t : ℕ) (front order : List T) (i j : ℕ) → IsAt account t i front order → IsAt account t j front order
          → (length (texts_of account i front) ≤ length (texts_of account j front) + 1) ⊎ (texts_of account j front ≡ texts_of account j order)
      none_ahead t front order i j here there = by there.1
        where
          by : (t ≤ length (texts_of account j front)) ⊎ (texts_of account j front ≡ texts_of account j order)
              → (length (texts_of account i front) ≤ length (texts_of account j front) + 1) ⊎ (texts_of account j front ≡ texts_of account j order)
          by (inl less) = inl (omega (arith, here.0, less))
          by (inr all) = inr all

pub fair_order : {T : Type 0} → FairOrder T
fair_order account round queues are = record {
  all =
      IsPermutation-trans (joined queues) (joined (rotated round queues)) (served round queues) (joined_rotated round queues)
      (all_taken (longest queues) (rotated round queues) (within_rotated (longest queues) round queues (within_longest queues)));
  own_order = λ i less. own account round queues are i;
  abreast = λ i j less_i less_j. abreast account round queues are i j;
}
