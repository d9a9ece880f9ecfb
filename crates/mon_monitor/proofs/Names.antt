-- Data sets with the same names, none twice, are the same where each that is found is.
use Rattle.std.proofs.Common.{◌≡◌, ◌≢◌, ◌⊎◌, ℕ, nat_eq, Bool, true, false, cond, List, [], ◌∷◌, None, Some, inl, inr, refl, sym, ap, subst, ◌∙◌}
use Rattle.mon_monitor.proofs.Common.{IsDistinct-head, IsDistinct-tail, pointwise, bytes_decides, AllByRecursion, IsDistinct, keys_of, DataSet, Sets, find_set, Same}

pub tell_name : (n m : List ℕ) → ((n ≡ m) × (pointwise nat_eq n m ≡ true)) ⊎ ((n ≢ m) × (pointwise nat_eq n m ≡ false))
tell_name n m = by (pointwise nat_eq n m) refl
  where
    by : (b : Bool) → pointwise nat_eq n m ≡ b → ((n ≡ m) × (pointwise nat_eq n m ≡ true)) ⊎ ((n ≢ m) × (pointwise nat_eq n m ≡ false))
    by true e = inl ((bytes_decides n m).0 e, e)
    by false e = inr ((λ q. (let no : false ≡ true = sym e ∙ (bytes_decides n m).1 q in absurd cc)), e)

not_found : (n : List ℕ) (sets : Sets) → AllByRecursion (λ m. pointwise nat_eq n m ≡ false) (keys_of sets) → find_set n sets ≡ None
not_found n [] h = refl
not_found n (e ∷ sets) h = ap (λ (t : Bool). cond t (Some e.1) (find_set n sets)) h.0 ∙ not_found n sets h.1

some_is : (d e : DataSet) → Some d ≡ Some e → d ≡ e
some_is d e h = cc (h)

pub same_lists : (sets others : Sets) → keys_of sets ≡ keys_of others → IsDistinct (pointwise nat_eq) (keys_of sets) → ((n : List ℕ) → Same n sets others) → sets ≡ others
same_lists [] [] keys differ same = refl
same_lists [] (b ∷ others) keys differ same = absurd cc
same_lists (a ∷ sets) [] keys differ same = absurd cc
same_lists (a ∷ sets) (b ∷ others) keys differ same =
    let name : a.0 ≡ b.0 = cc (keys) in
    let names : keys_of sets ≡ keys_of others = cc (keys) in
    let here : pointwise nat_eq a.0 a.0 ≡ true = (bytes_decides a.0 a.0).1 refl in
    let there : pointwise nat_eq a.0 b.0 ≡ true = (bytes_decides a.0 b.0).1 name in
    let values : a.1 ≡ b.1 =
    some_is a.1 b.1 (sym (ap (λ (t : Bool). cond t (Some a.1) (find_set a.0 sets)) here) ∙ same a.0 ∙ ap (λ (t : Bool). cond t (Some b.1) (find_set a.0 others)) there) in
    let none = IsDistinct-head (pointwise nat_eq) a.0 (keys_of sets) differ in
    let rest = same_lists sets others names (IsDistinct-tail (pointwise nat_eq) a.0 (keys_of sets) differ) (behind name none names) in
    ap (λ (n : List ℕ). let e : List ℕ × DataSet = (n, a.1) in let l : Sets = e ∷ sets in l) name
    ∙ ap (λ (v : DataSet). let e : List ℕ × DataSet = (b.0, v) in let l : Sets = e ∷ sets in l) values
    ∙ ap (λ (l : Sets). let r : Sets = b ∷ l in r) rest
  where
    behind : a.0 ≡ b.0 → AllByRecursion (λ m. pointwise nat_eq a.0 m ≡ false) (keys_of sets) → keys_of sets ≡ keys_of others → (n : List ℕ) → Same n sets others
    behind name none names n = elim (tell_name n a.0) [
      | inl q ↦ subst (λ (k : List ℕ). Same k sets others) (sym q.0)
          (not_found a.0 sets none ∙ sym (not_found a.0 others (subst (λ (l : List (List ℕ)). AllByRecursion (λ m. pointwise nat_eq a.0 m ≡ false) l) names none)))
      | inr q ↦
          let no : pointwise nat_eq n b.0 ≡ false = subst (λ (k : List ℕ). pointwise nat_eq n k ≡ false) name q.1 in
          sym (ap (λ (t : Bool). cond t (Some a.1) (find_set n sets)) q.1) ∙ same n ∙ ap (λ (t : Bool). cond t (Some b.1) (find_set n others)) no
    ]
