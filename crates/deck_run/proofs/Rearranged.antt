-- Two lists of ends in which each slot has the same are one list but for its order.
use Rattle.std.proofs.Common.{◌≡◌, ◌≢◌, ◌==◌, ℕ, Bool, true, false, cond, List, [], ◌∷◌, refl, sym, ap, subst, ◌∙◌, inl, inr, eq-eqb, IsPermutation}
use Rattle.std.proofs.lemmas.{Bool.Decides.{eqb_tells}, List.Sorted.{IsPermutation-refl, IsPermutation-cons, IsPermutation-trans, IsPermutation-middle}}
use Rattle.job_end.specs.declared.job_end.JobEnd.{JobEnd}
use Rattle.mon_monitor.specs.Schedules.{of_slot}

abbrev Ends : Type 0
Ends = List (ℕ × JobEnd)

another : (n s t : ℕ) → t ≢ s → (n == s) ≡ true → (n == t) ≡ false
another n s t ne e = elim (eqb_tells n t) [
  | inl q ↦ elim (eqb_tells n s) [
    | inl p ↦ absurd (ne (sym q.1 ∙ p.1))
    | inr p ↦ absurd (let k : true ≡ false = sym e ∙ p.0 in cc (k))
  ]
  | inr q ↦ q.0
]

-- the first end of a slot is taken out
record Taken (s : ℕ) (x : ℕ × JobEnd) (rest ends : Ends) : Type 0 where
  pub others : Ends
  pub moved : IsPermutation (x ∷ others) ends
  pub here : of_slot s others ≡ rest
  pub elsewhere : (t : ℕ) → t ≢ s → of_slot t others ≡ of_slot t ends

take_out : (s : ℕ) (x : ℕ × JobEnd) (rest ends : Ends) → of_slot s ends ≡ x ∷ rest → Taken s x rest ends
take_out s x rest [] h = absurd cc
take_out s x rest (y ∷ ends) h = by (y.0 == s) refl h (take_out s x rest ends)
  where
    by : (b : Bool) → (y.0 == s) ≡ b → cond b (y ∷ of_slot s ends) (of_slot s ends) ≡ x ∷ rest → (of_slot s ends ≡ x ∷ rest → Taken s x rest ends)
        → Taken s x rest (y ∷ ends)
    by true e h again =
        let first : y ≡ x = cc (h) in
        record {
          others = ends;
          moved = subst (λ (z : ℕ × JobEnd). IsPermutation (z ∷ ends) (y ∷ ends)) first (IsPermutation-refl (y ∷ ends));
          here = (let tail : of_slot s ends ≡ rest = cc (h) in tail);
          elsewhere = λ t ne. sym (ap (λ (b : Bool). cond b (y ∷ of_slot t ends) (of_slot t ends)) (another y.0 s t ne e));
        }
    by false e h again =
        let r = again h in
        record {
          others = y ∷ r.others;
          moved = IsPermutation-trans (x ∷ y ∷ r.others) (y ∷ x ∷ r.others) (y ∷ ends) (IsPermutation-middle (x ∷ []) y r.others) (IsPermutation-cons y (x ∷ r.others) ends r.moved);
          here = ap (λ (b : Bool). cond b (y ∷ of_slot s r.others) (of_slot s r.others)) e ∙ r.here;
          elsewhere = λ t ne. ap (λ (l : Ends). cond (y.0 == t) (y ∷ l) l) (r.elsewhere t ne);
        }

own_first : (x : ℕ × JobEnd) (ends : Ends) → of_slot x.0 (x ∷ ends) ≡ x ∷ of_slot x.0 ends
own_first x ends = ap (λ (b : Bool). cond b (x ∷ of_slot x.0 ends) (of_slot x.0 ends)) (eq-eqb x.0 x.0 refl)

pub same_ends : (ends others : Ends) → ((s : ℕ) → of_slot s ends ≡ of_slot s others) → IsPermutation ends others
same_ends [] [] h = IsPermutation-refl []
same_ends [] (y ∷ others) h = absurd (let k : [] ≡ y ∷ of_slot y.0 others = h y.0 ∙ own_first y others in cc (k))
same_ends (x ∷ ends) others h =
    let r = take_out x.0 x (of_slot x.0 ends) others (sym (h x.0) ∙ own_first x ends) in
    IsPermutation-trans (x ∷ ends) (x ∷ r.others) others (IsPermutation-cons x ends r.others (same_ends ends r.others (λ s. elim (eqb_tells x.0 s) [
      | inl q ↦ subst (λ (k : ℕ). of_slot k ends ≡ of_slot k r.others) q.1 (sym r.here)
      | inr q ↦
          sym (ap (λ (b : Bool). cond b (x ∷ of_slot s ends) (of_slot s ends)) q.0) ∙ h s ∙ sym (r.elsewhere s (λ (e : s ≡ x.0). q.1 (sym e)))
    ]))) r.moved
