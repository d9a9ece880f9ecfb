-- The data sets of one name, in data sets that look alike.
use Rattle.std.proofs.Common.{◌≡◌, ℕ, suc, nat_eq, Bool, true, false, cond, List, [], ◌∷◌, ◌++◌, length, Option, Some, None, refl, ap, sym, ◌∙◌, subst, if◌then◌else◌}
use Rattle.mon_monitor.proofs.Common.{keys_of, pointwise, DataSet, Sets, find_set, without_set, with_changed, Both}

abbrev pub BothFound : (DataSet → DataSet → Type 0) → Option DataSet → Option DataSet → Type 0
BothFound like None None = Unit {0}
BothFound like None (Some b) = ⊥
BothFound like (Some a) None = ⊥
BothFound like (Some a) (Some b) = like a b

module _ (like : DataSet → DataSet → Type 0) where
  pub found_both : (n : List ℕ) (sets others : Sets) → Both like sets others → BothFound like (find_set n sets) (find_set n others)
  found_both n [] [] h = tt
  found_both n [] (b ∷ others) h = absurd h
  found_both n (a ∷ sets) [] h = absurd h
  found_both n (a ∷ sets) (b ∷ others) h =
      subst (λ (k : List ℕ). BothFound like (find_set n (a ∷ sets)) (cond (pointwise nat_eq n k) (Some b.1) (find_set n others))) h.0
      (by (pointwise nat_eq n a.0) (found_both n sets others h.2))
    where
      by : (t : Bool) → BothFound like (find_set n sets) (find_set n others) → BothFound like (cond t (Some a.1) (find_set n sets)) (cond t (Some b.1) (find_set n others))
      by true rest = h.1
      by false rest = rest

  -- a change of the sets of one name
  pub both_changed : (f : DataSet → DataSet) (n : List ℕ) (sets others : Sets)
      → ((d e : DataSet) → find_set n sets ≡ Some d → find_set n others ≡ Some e → like d e → like (f d) (f e))
      → Both like sets others → Both like (with_changed n f sets) (with_changed n f others)
  both_changed f n [] [] each h = tt
  both_changed f n [] (b ∷ others) each h = absurd h
  both_changed f n (a ∷ sets) [] each h = absurd h
  both_changed f n (a ∷ sets) (b ∷ others) each h =
      let other : (t : Bool) → pointwise nat_eq n a.0 ≡ t → cond (pointwise nat_eq n b.0) (Some b.1) (find_set n others) ≡ cond t (Some b.1) (find_set n others) =
      λ t e. ap (λ (k : List ℕ). cond (pointwise nat_eq n k) (Some b.1) (find_set n others)) (sym h.0) ∙ ap (λ (u : Bool). cond u (Some b.1) (find_set n others)) e in
      subst (λ (k : List ℕ). Both like (with_changed n f (a ∷ sets)) (if pointwise nat_eq n k then (b.0, f b.1) ∷ others else b ∷ with_changed n f others)) h.0
      (by (pointwise nat_eq n a.0) refl other (both_changed f n sets others))
    where
      by : (t : Bool) → pointwise nat_eq n a.0 ≡ t
          → ((t : Bool) → pointwise nat_eq n a.0 ≡ t → cond (pointwise nat_eq n b.0) (Some b.1) (find_set n others) ≡ cond t (Some b.1) (find_set n others))
          → (((d e : DataSet) → find_set n sets ≡ Some d → find_set n others ≡ Some e → like d e → like (f d) (f e))
          → Both like sets others → Both like (with_changed n f sets) (with_changed n f others))
          → Both like (if t then (a.0, f a.1) ∷ sets else a ∷ with_changed n f sets) (if t then (b.0, f b.1) ∷ others else b ∷ with_changed n f others)
      by true e other rest = (h.0, each a.1 b.1 (ap (λ (u : Bool). cond u (Some a.1) (find_set n sets)) e) (other true e) h.1, h.2)
      by false e other rest = (h.0, h.1, rest (λ d x is is'. each d x (ap (λ (u : Bool). cond u (Some a.1) (find_set n sets)) e ∙ is) (other false e ∙ is')) h.2)

  pub both_length : (sets others : Sets) → Both like sets others → length sets ≡ length others
  both_length [] [] h = refl
  both_length [] (b ∷ others) h = absurd h
  both_length (a ∷ sets) [] h = absurd h
  both_length (a ∷ sets) (b ∷ others) h = ap suc (both_length sets others h.2)

  pub both_append : (n : List ℕ) (d : DataSet) → like d d → (sets others : Sets) → Both like sets others → Both like (sets ++ (n, d) ∷ []) (others ++ (n, d) ∷ [])
  both_append n d l [] [] h = (refl, l, tt)
  both_append n d l [] (b ∷ others) h = absurd h
  both_append n d l (a ∷ sets) [] h = absurd h
  both_append n d l (a ∷ sets) (b ∷ others) h = (h.0, h.1, both_append n d l sets others h.2)

  pub both_without : (n : List ℕ) (sets others : Sets) → Both like sets others → Both like (without_set n sets) (without_set n others)
  both_without n [] [] h = tt
  both_without n [] (b ∷ others) h = absurd h
  both_without n (a ∷ sets) [] h = absurd h
  both_without n (a ∷ sets) (b ∷ others) h =
      subst (λ (k : List ℕ). Both like (without_set n (a ∷ sets)) (cond (pointwise nat_eq n k) others (b ∷ without_set n others))) h.0
      (by (pointwise nat_eq n a.0) (both_without n sets others h.2))
    where
      by : (t : Bool) → Both like (without_set n sets) (without_set n others) → Both like (cond t sets (a ∷ without_set n sets)) (cond t others (b ∷ without_set n others))
      by true rest = h.2
      by false rest = (h.0, h.1, rest)

  pub both_keys : (sets others : Sets) → Both like sets others → keys_of sets ≡ keys_of others
  both_keys [] [] h = refl
  both_keys [] (b ∷ others) h = absurd h
  both_keys (a ∷ sets) [] h = absurd h
  both_keys (a ∷ sets) (b ∷ others) h =
      ap (λ (n : List ℕ). n ∷ keys_of sets) h.0 ∙ ap (λ (l : List (List ℕ)). b.0 ∷ l) (both_keys sets others h.2)
