-- What is the last checkpoint that serves.
use Rattle.std.proofs.Common.{◌≡◌, ◌≤◌, ◌<◌, ℕ, Bool, true, false, List, [], ◌∷◌, filter, Option, Some, None, refl, arith, ◌⊎◌, inl, inr, subst}
use Rattle.std.{specs.Prelude.{if◌then◌else◌, nat_lt}, proofs.lemmas.Bool.Decides.{nat_tests}}
use Rattle.ledger_pruning.specs.{Starting.{serves, greater, greatest, start_for}, Laws.{IsIn, NoEarlier, StartsLast, IsServing, StartsThere}}

on_greater : (n m : ℕ) (best : Option ℕ) → NoEarlier n best → NoEarlier n (greater best m)
on_greater n m None h = absurd h
on_greater n m (Some k) h = by (nat_lt m k) refl
  where
    by : (b : Bool) → nat_lt m k ≡ b → NoEarlier n (if b then Some k else Some m)
    by true e = h
    by false e = (let le : k ≤ m = grind (arith, nat_tests, e) in omega (arith, le, h))

own_greater : (n : ℕ) (best : Option ℕ) → NoEarlier n (greater best n)
own_greater n None = omega arith
own_greater n (Some k) = by (nat_lt n k) refl
  where
    by : (b : Bool) → nat_lt n k ≡ b → NoEarlier n (if b then Some k else Some n)
    by true e = (let less : n < k = grind (arith, nat_tests, e) in omega (arith, less))
    by false e = omega arith

on_all : (n : ℕ) (ns : List ℕ) (best : Option ℕ) → NoEarlier n best → NoEarlier n (greatest best ns)
on_all n [] best h = h
on_all n (m ∷ ns) best h = on_all n ns (greater best m) (on_greater n m best h)

module _ (first at : ℕ) where
  abbrev serving : List ℕ → List ℕ
  serving ns = filter (λ c. serves first at c) ns

  last_of : (n : ℕ) (ns : List ℕ) (best : Option ℕ) → IsIn n ns → serves first at n ≡ true → NoEarlier n (greatest best (serving ns))
  last_of n [] best is serve = absurd is
  last_of n (m ∷ ns) best (inl same) serve =
      subst (λ (k : ℕ). NoEarlier n (greatest best (serving (k ∷ ns)))) same (here (serves first at n) serve)
    where
      here : (b : Bool) → b ≡ true → NoEarlier n (greatest best (if b then n ∷ serving ns else serving ns))
      here true e = on_all n (serving ns) (greater best n) (own_greater n best)
      here false e = absurd (cc (e))
  last_of n (m ∷ ns) best (inr is) serve = later (serves first at m) (λ b. last_of n ns b is serve)
    where
      later : (b : Bool) → ((best : Option ℕ) → NoEarlier n (greatest best (serving ns)))
          → NoEarlier n (greatest best (if b then m ∷ serving ns else serving ns))
      later true rest = rest (greater best m)
      later false rest = rest best

  -- what is best so far, or one of those that are left and serve
  abbrev IsBest : Option ℕ → List ℕ → Option ℕ → Type 0
  IsBest best ns None = Unit {0}
  IsBest best ns (Some found) = (best ≡ Some found) ⊎ (IsIn found ns × (serves first at found ≡ true))

  one_of : (m : ℕ) (ns : List ℕ) (best : Option ℕ) → serves first at m ≡ true → (o : Option ℕ) → IsBest (greater best m) ns o → IsBest best (m ∷ ns) o
  one_of m ns best serve None is = tt
  one_of m ns best serve (Some found) (inr is) = inr (inr is.0, is.1)
  one_of m ns None serve (Some found) (inl same) = inr (inl (let e : found ≡ m = cc (same) in e), (let e : serves first at found ≡ true = subst (λ (k : ℕ). serves first at k ≡ true) (let s : m ≡ found = cc (same) in s) serve in e))
  one_of m ns (Some k) serve (Some found) (inl same) = by (nat_lt m k) same
    where
      by : (b : Bool) → (if b then Some k else Some m) ≡ Some found → IsBest (Some k) (m ∷ ns) (Some found)
      by true e = inl e
      by false e = inr (inl (let h : found ≡ m = cc (e) in h), subst (λ (j : ℕ). serves first at j ≡ true) (let s : m ≡ found = cc (e) in s) serve)

  more_of : (m : ℕ) (ns : List ℕ) (best : Option ℕ) (o : Option ℕ) → IsBest best ns o → IsBest best (m ∷ ns) o
  more_of m ns best None is = tt
  more_of m ns best (Some found) (inl same) = inl same
  more_of m ns best (Some found) (inr is) = inr (inr is.0, is.1)

  best_of : (ns : List ℕ) (best : Option ℕ) → IsBest best ns (greatest best (serving ns))
  best_of [] None = tt
  best_of [] (Some found) = inl refl
  best_of (m ∷ ns) best = by (serves first at m) refl (λ so_far. best_of ns so_far)
    where
      by : (b : Bool) → serves first at m ≡ b → ((so_far : Option ℕ) → IsBest so_far ns (greatest so_far (serving ns)))
          → IsBest best (m ∷ ns) (greatest best (if b then m ∷ serving ns else serving ns))
      by true e rest = one_of m ns best e (greatest (greater best m) (serving ns)) (rest (greater best m))
      by false e rest = more_of m ns best (greatest best (serving ns)) (rest best)

pub starts_last : StartsLast
starts_last first at n checkpoints is serve = last_of first at n checkpoints None is serve

pub starts_there : StartsThere
starts_there first at checkpoints = by (start_for first at checkpoints) (best_of first at checkpoints None)
  where
    by : (o : Option ℕ) → IsBest first at None checkpoints o → IsServing first at checkpoints o
    by None is = tt
    by (Some found) (inl same) = absurd (cc (same))
    by (Some found) (inr is) = is
