-- Names in their order: the first of them are kept as they come, and none is lost.
use Rattle.std.proofs.Common.{◌≡◌, ◌⊎◌, ℕ, zero, suc, ◌+◌, ◌<◌, ◌≤◌, Bool, true, false, nat_cmp, List, [], ◌∷◌, ◌++◌, map, take, if◌then◌else◌, Ordering, Less, Equal, Greater, refl, sym, ap, subst, ◌∙◌, inl, inr, arith, true≢false, IsPermutation}
use Rattle.std.specs.{List.{fold, insert}, Ordering.{is_lt, ordering_then, MatchOrdering}, Cmp.Lexicographic.{slice_cmp}, Cmp.{ranks}}
use Rattle.std.proofs.lemmas.Bool.{cases_lt}
use Rattle.std.proofs.lemmas.List.Sorted.{IsPermutation-refl, IsPermutation-trans, IsPermutation-cons, IsPermutation-sym, IsPermutation-middle}
use Rattle.ledger_turns.specs.Names.{is_before, with_name, place_from, in_order, kept_with, AreInOrder, KeepsFirst, FirstAreFirst}

-- ---- the first so many

front : (k j : ℕ) (names : List (List ℕ)) → k ≤ j → take k (take j names) ≡ take k names
front zero j names less = refl
front (suc k) zero names less = absurd (omega (arith, less))
front (suc k) (suc j) [] less = refl
front (suc k) (suc j) (name ∷ names) less = ap (λ (t : List (List ℕ)). name ∷ t) (front k j names (omega (arith, less)))

-- behind a name that is first, one that falls out does not matter
behind : (k : ℕ) (name : List ℕ) (names : List (List ℕ)) → take k (name ∷ take k names) ≡ take k (name ∷ names)
behind zero name names = refl
behind (suc k) name names = ap (λ (t : List (List ℕ)). name ∷ t) (front k (suc k) names (omega arith))

pub kept : (most : ℕ) (name : List ℕ) (names : List (List ℕ)) → take most (with_name name (take most names)) ≡ take most (with_name name names)
kept zero name names = refl
kept (suc most) name [] = refl
kept (suc most) name (other ∷ others) = by (is_before name other) refl (kept most name others)
  where
    by : (b : Bool) → is_before name other ≡ b → take most (with_name name (take most others)) ≡ take most (with_name name others)
        → take (suc most) (with_name name (other ∷ take most others)) ≡ take (suc most) (with_name name (other ∷ others))
    by true e others_kept =
        ap (λ (b : Bool). take (suc most) (if b then name ∷ other ∷ take most others else other ∷ with_name name (take most others))) e
        ∙ ap (λ (t : List (List ℕ)). name ∷ t) (behind most other others)
        ∙ sym (ap (λ (b : Bool). take (suc most) (if b then name ∷ other ∷ others else other ∷ with_name name others)) e)
    by false e others_kept =
        ap (λ (b : Bool). take (suc most) (if b then name ∷ other ∷ take most others else other ∷ with_name name (take most others))) e
        ∙ ap (λ (t : List (List ℕ)). other ∷ t) others_kept
        ∙ sym (ap (λ (b : Bool). take (suc most) (if b then name ∷ other ∷ others else other ∷ with_name name others)) e)

keeps_all : (most : ℕ) (names so_far : List (List ℕ))
    → fold (kept_with most) (take most so_far) names ≡ take most (fold (λ (k : List (List ℕ)) (name : List ℕ). with_name name k) so_far names)
keeps_all most [] so_far = refl
keeps_all most (name ∷ names) so_far =
    ap (λ (k : List (List ℕ)). fold (kept_with most) k names) (kept most name so_far) ∙ keeps_all most names (with_name name so_far)

none_taken : (most : ℕ) → take {A = List ℕ} most [] ≡ []
none_taken zero = refl
none_taken (suc most) = refl

pub keeps_first : KeepsFirst
keeps_first most names = ap (λ (k : List (List ℕ)). fold (kept_with most) k names) (sym (none_taken most)) ∙ keeps_all most names []

-- ---- where a name belongs

module _ {X : Type 0} (f : X → List ℕ) where
  later : (n : ℕ) (name : List ℕ) (others : List X) → place_from f n name others ≡ n + place_from f 0 name others
  later n name [] = omega arith
  later n name (other ∷ others) = by (is_before name (f other)) refl (later (n + 1) name others) (later 1 name others)
    where
      by : (b : Bool) → is_before name (f other) ≡ b → place_from f (n + 1) name others ≡ n + 1 + place_from f 0 name others
          → place_from f 1 name others ≡ 1 + place_from f 0 name others → place_from f n name (other ∷ others) ≡ n + place_from f 0 name (other ∷ others)
      by true e more one =
          let here : place_from f n name (other ∷ others) ≡ n = ap (λ (b : Bool). if b then n else place_from f (n + 1) name others) e in
          let first : place_from f 0 name (other ∷ others) ≡ 0 = ap (λ (b : Bool). if b then zero else place_from f (0 + 1) name others) e in
          omega (arith, here, first)
      by false e more one =
          let here : place_from f n name (other ∷ others) ≡ place_from f (n + 1) name others = ap (λ (b : Bool). if b then n else place_from f (n + 1) name others) e in
          let first : place_from f 0 name (other ∷ others) ≡ place_from f 1 name others = ap (λ (b : Bool). if b then zero else place_from f (0 + 1) name others) e in
          omega (arith, here, first, more, one)

  placed : (x : X) (others : List X) → map f (insert others (place_from f 0 (f x) others) x) ≡ with_name (f x) (map f others)
  placed x [] = refl
  placed x (other ∷ others) = by (is_before (f x) (f other)) refl (placed x others)
    where
      by : (b : Bool) → is_before (f x) (f other) ≡ b → map f (insert others (place_from f 0 (f x) others) x) ≡ with_name (f x) (map f others)
          → map f (insert (other ∷ others) (place_from f 0 (f x) (other ∷ others)) x) ≡ with_name (f x) (f other ∷ map f others)
      by true e others_placed =
          ap (λ (b : Bool). map f (insert (other ∷ others) (if b then zero else place_from f (0 + 1) (f x) others) x)) e
          ∙ sym (ap (λ (b : Bool). if b then f x ∷ f other ∷ map f others else f other ∷ with_name (f x) (map f others)) e)
      by false e others_placed =
          ap (λ (b : Bool). map f (insert (other ∷ others) (if b then zero else place_from f (0 + 1) (f x) others) x)) e
          ∙ ap (λ (n : ℕ). map f (insert (other ∷ others) n x)) behind_one
          ∙ ap (λ (t : List (List ℕ)). f other ∷ t) others_placed
          ∙ sym (ap (λ (b : Bool). if b then f x ∷ f other ∷ map f others else f other ∷ with_name (f x) (map f others)) e)
        where
          behind_one : place_from f 1 (f x) others ≡ suc (place_from f 0 (f x) others)
          behind_one = omega (arith, later 1 (f x) others)

  map_front : (k : ℕ) (xs : List X) → map f (take k xs) ≡ take k (map f xs)
  map_front zero xs = refl
  map_front (suc k) [] = refl
  map_front (suc k) (x ∷ xs) = ap (λ (t : List (List ℕ)). f x ∷ t) (map_front k xs)

  -- a name that was put in its place, and the first so many kept
  pub first_kept : (x : X) (old : List X) (place most : ℕ) (mid new : List X) → place ≡ place_from f 0 (f x) old → mid ≡ insert old place x → new ≡ take most mid
      → map f new ≡ kept_with most (map f old) (f x)
  first_kept x old place most mid new is put cut =
      ap (map f) cut ∙ map_front most mid
      ∙ ap (λ (l : List X). take most (map f l)) (put ∙ ap (λ (n : ℕ). insert old n x) is)
      ∙ ap (take most) (placed x old)

-- ---- none is lost, and none out of its order

same_names : (name : List ℕ) (names : List (List ℕ)) → IsPermutation (name ∷ names) (with_name name names)
same_names name [] = IsPermutation-refl (name ∷ [])
same_names name (other ∷ others) = by (is_before name other) refl (same_names name others)
  where
    by : (b : Bool) → is_before name other ≡ b → IsPermutation (name ∷ others) (with_name name others) → IsPermutation (name ∷ other ∷ others) (with_name name (other ∷ others))
    by true e same =
        subst (λ (b : Bool). IsPermutation (name ∷ other ∷ others) (if b then name ∷ other ∷ others else other ∷ with_name name others)) (sym e)
        (IsPermutation-refl (name ∷ other ∷ others))
    by false e same =
        subst (λ (b : Bool). IsPermutation (name ∷ other ∷ others) (if b then name ∷ other ∷ others else other ∷ with_name name others)) (sym e)
        (IsPermutation-trans (name ∷ other ∷ others) (other ∷ name ∷ others) (other ∷ with_name name others)
        (IsPermutation-sym (other ∷ name ∷ others) (name ∷ other ∷ others) (IsPermutation-middle (other ∷ []) name others))
        (IsPermutation-cons other (name ∷ others) (with_name name others) same))

abbrev all_with : List (List ℕ) → List (List ℕ) → List (List ℕ)
all_with so_far names = fold (λ (k : List (List ℕ)) (name : List ℕ). with_name name k) so_far names

all_there : (names so_far : List (List ℕ)) → IsPermutation (names ++ so_far) (all_with so_far names)
all_there [] so_far = IsPermutation-refl so_far
all_there (name ∷ names) so_far =
    IsPermutation-trans (name ∷ (names ++ so_far)) (names ++ with_name name so_far) (all_with (with_name name so_far) names)
    (IsPermutation-trans (name ∷ (names ++ so_far)) (names ++ name ∷ so_far) (names ++ with_name name so_far)
    (IsPermutation-sym (names ++ name ∷ so_far) (name ∷ (names ++ so_far)) (IsPermutation-middle names name so_far))
    (after_front names (name ∷ so_far) (with_name name so_far) (same_names name so_far)))
    (all_there names (with_name name so_far))
  where
    after_front : (front xs ys : List (List ℕ)) → IsPermutation xs ys → IsPermutation (front ++ xs) (front ++ ys)
    after_front [] xs ys h = h
    after_front (f ∷ front) xs ys h = IsPermutation-cons f (front ++ xs) (front ++ ys) (after_front front xs ys h)

is_Equal : (x y : ℕ) (r : Ordering) → MatchOrdering r (x < y) (x ≡ y) (y < x) → x ≡ y → r ≡ Equal
is_Equal x y Less h l = let e : x < y = h in absurd (omega (arith, e, l))
is_Equal x y Equal h l = refl
is_Equal x y Greater h l = let e : y < x = h in absurd (omega (arith, e, l))

is_Greater : (x y : ℕ) (r : Ordering) → MatchOrdering r (x < y) (x ≡ y) (y < x) → y < x → r ≡ Greater
is_Greater x y Less h l = let e : x < y = h in absurd (omega (arith, e, l))
is_Greater x y Equal h l = let e : x ≡ y = h in absurd (omega (arith, e, l))
is_Greater x y Greater h l = refl

level : (x y : ℕ) → x ≡ y → nat_cmp x y ≡ Equal
level x y = is_Equal x y _ (ranks x y)

above : (x y : ℕ) → y < x → nat_cmp x y ≡ Greater
above x y = is_Greater x y _ (ranks x y)

-- of two names one does not stand before the other
one_way : (a b : List ℕ) → is_before a b ≡ true → is_before b a ≡ false
one_way [] [] e = absurd (true≢false (sym e))
one_way [] (y ∷ ys) e = refl
one_way (x ∷ xs) [] e = absurd (true≢false (sym e))
one_way (x ∷ xs) (y ∷ ys) e = by (one_way xs ys) (cases_lt x y)
  where
    greater : y < x → is_before (y ∷ ys) (x ∷ xs) ≡ false
    greater more = absurd (true≢false (sym e ∙ ap (λ (o : Ordering). is_lt (ordering_then o (slice_cmp nat_cmp xs ys))) (above x y more)))

    equal : (is_before xs ys ≡ true → is_before ys xs ≡ false) → x ≡ y → is_before (y ∷ ys) (x ∷ xs) ≡ false
    equal rest same =
        ap (λ (o : Ordering). is_lt (ordering_then o (slice_cmp nat_cmp ys xs))) (level y x (sym same))
        ∙ rest (sym (ap (λ (o : Ordering). is_lt (ordering_then o (slice_cmp nat_cmp xs ys))) (level x y same)) ∙ e)

    not_less : (is_before xs ys ≡ true → is_before ys xs ≡ false) → (y < x) ⊎ (x ≤ y) → y ≤ x → is_before (y ∷ ys) (x ∷ xs) ≡ false
    not_less rest (inl more) some = greater more
    not_less rest (inr less) some = equal rest (omega (arith, less, some))

    by : (is_before xs ys ≡ true → is_before ys xs ≡ false) → (x < y) ⊎ (y ≤ x) → is_before (y ∷ ys) (x ∷ xs) ≡ false
    by rest (inl less) = ap (λ (o : Ordering). is_lt (ordering_then o (slice_cmp nat_cmp ys xs))) (above y x less)
    by rest (inr more) = not_less rest (cases_lt y x) more

-- a name more behind one that stands not behind it
stays : (first name : List ℕ) (names : List (List ℕ)) → is_before name first ≡ false → AreInOrder (first ∷ names) → AreInOrder (with_name name names)
    → AreInOrder (first ∷ with_name name names)
stays first name [] before are rest = (before, tt)
stays first name (other ∷ others) before are rest = by (is_before name other) refl
  where
    by : (b : Bool) → is_before name other ≡ b → AreInOrder (first ∷ with_name name (other ∷ others))
    by true e =
        subst (λ (l : List (List ℕ)). AreInOrder (first ∷ l)) (sym here) (before, subst AreInOrder here rest)
      where
        here : with_name name (other ∷ others) ≡ name ∷ other ∷ others
        here = ap (λ (b : Bool). if b then name ∷ other ∷ others else other ∷ with_name name others) e
    by false e =
        subst (λ (l : List (List ℕ)). AreInOrder (first ∷ l)) (sym here) (are.0, subst AreInOrder here rest)
      where
        here : with_name name (other ∷ others) ≡ other ∷ with_name name others
        here = ap (λ (b : Bool). if b then name ∷ other ∷ others else other ∷ with_name name others) e

tail_in_order : (name : List ℕ) (names : List (List ℕ)) → AreInOrder (name ∷ names) → AreInOrder names
tail_in_order name [] are = tt
tail_in_order name (next ∷ names) (is, are) = are

ordered_with : (name : List ℕ) (names : List (List ℕ)) → AreInOrder names → AreInOrder (with_name name names)
ordered_with name [] are = tt
ordered_with name (other ∷ others) are = by (is_before name other) refl (ordered_with name others (tail_in_order other others are))
  where
    by : (b : Bool) → is_before name other ≡ b → AreInOrder (with_name name others) → AreInOrder (with_name name (other ∷ others))
    by true e rest =
        subst (λ (b : Bool). AreInOrder (if b then name ∷ other ∷ others else other ∷ with_name name others)) (sym e) (one_way name other e, are)
    by false e rest =
        subst (λ (b : Bool). AreInOrder (if b then name ∷ other ∷ others else other ∷ with_name name others)) (sym e)
        (stays other name others e are rest)

all_ordered : (names so_far : List (List ℕ)) → AreInOrder so_far → AreInOrder (all_with so_far names)
all_ordered [] so_far are = are
all_ordered (name ∷ names) so_far are = all_ordered names (with_name name so_far) (ordered_with name so_far are)

append_none : (names : List (List ℕ)) → names ++ [] ≡ names
append_none [] = refl
append_none (name ∷ names) = ap (λ (t : List (List ℕ)). name ∷ t) (append_none names)

pub first_are_first : FirstAreFirst
first_are_first names =
    (subst (λ (t : List (List ℕ)). IsPermutation t (in_order names)) (append_none names) (all_there names []), all_ordered names [] tt)
