-- The canonical order of entries, and the place of one more.
use Rattle.std.proofs.Common.{◌≡◌, ◌∙◌, ap, sym, subst, refl, ℕ, ◌+◌, ◌-◌, ◌<◌, ◌≤◌, ◌⊎◌, inl, inr, Bool, true, false, cond, List, [], ◌∷◌, ◌++◌, length, take, drop, get_or, arith, length-take, length-drop}
use Rattle.std.specs.{Prelude.{All, HoldsAt, insert, count_by, IsPermutation, ◌||◌}, List.{list_any, AllWithin, AllByRecursion}, Cmp.{IsTotalOrder}}
use Rattle.std.specs.{List.Sorted.{IsNonDecreasingBy, IsStrictlySortedBy}, Cmp.Lexicographic.{texts_ties, nat_list_cmp_total}, declared.cmp.Ordering.{Ordering}}
use Rattle.std.specs.{Ordering.{is_lt, is_eq, ordering_index, ordering_reverse}, declared.cmp.Ordering.TheVariants.{Less, Equal, Greater}}
use Rattle.std.proofs.lemmas.{Bool.{cases_lt}, Cmp.{on_total}, List.{get_or_default, get_or-take, get_or-drop, take-append-drop}, Map.Keys.{Less-from_sorted}}
use Rattle.std.proofs.lemmas.List.{Elements.{All-head, All-tail, All-append}, Folds.{list_any_at, list_any_none}}
use Rattle.std.proofs.lemmas.List.Sorted.{searchable_from_sorted, IsPermutation-refl, IsPermutation-trans, IsPermutation-middle, IsPermutation-cons, list_any-IsPermutation, sum_by-IsPermutation}
use Rattle.mon_acl.specs.{declared.entries.Entry.{Entry}, Entries.{sort_key, compared, is_for, qualifier, IsCanonical}}
use Rattle.acl_text.specs.Reading.{put_in, arranged}

pub order : IsTotalOrder compared
order = on_total sort_key nat_list_cmp_total

-- the same type and qualifier is the same sort key
pub is_for_by_order : (e x : Entry) → is_for e.tag (qualifier e) x ≡ is_eq (compared x e)
is_for_by_order e x = texts_ties (sort_key x) (sort_key e)

-- what a binary search asks
pub rises : (es : List Entry) (e : Entry) → IsCanonical es → IsNonDecreasingBy (λ y. ordering_index (compared y e)) es
rises es e s =
    searchable_from_sorted nat_list_cmp_total sort_key es (sort_key e)
    (λ k d _ h.
    let up : compared (get_or es k d) (get_or es (k + 1) d) ≡ Less = Less-from_sorted compared es k (k + 1) d s (omega arith) h in
    ap is_lt (order.antisymm (get_or es (k + 1) d) (get_or es k d) ∙ ap ordering_reverse up))

pub there : (es : List Entry) (e : Entry) (i : ℕ) → i < length es → HoldsAt (λ y. compared y e ≡ Equal) es i →
    list_any (is_for e.tag (qualifier e)) es ≡ true
there es e i l h = list_any_at _ es i e l (is_for_by_order e (get_or es i e) ∙ ap is_eq (h e))

-- an entry between those that stand before it and those that stand behind it
put_between : (e : Entry) (xs ys : List Entry) → All (λ y. compared y e ≡ Less) xs → All (λ y. compared y e ≡ Greater) ys →
    put_in e (xs ++ ys) ≡ xs ++ e ∷ ys
put_between e [] [] l g = refl
put_between e [] (y ∷ ys) l g =
    ap (λ (o : Ordering). cond (is_lt o) (y ∷ put_in e ys) (e ∷ y ∷ ys)) (All-head (λ z. compared z e ≡ Greater) y ys g)
put_between e (x ∷ xs) ys l g =
    ap (λ (o : Ordering). cond (is_lt o) (x ∷ put_in e (xs ++ ys)) (e ∷ x ∷ (xs ++ ys))) (All-head (λ z. compared z e ≡ Less) x xs l)
    ∙ ap (λ (zs : List Entry). x ∷ zs) (put_between e xs ys (All-tail (λ z. compared z e ≡ Less) x xs l) g)

none_between : (e : Entry) (xs : List Entry) → All (λ y. compared y e ≡ Less) xs → All (λ y. is_for e.tag (qualifier e) y ≡ false) xs
none_between e xs l = λ k d h. is_for_by_order e (get_or xs k d) ∙ ap is_eq (l k d h)

none_behind : (e : Entry) (xs : List Entry) → All (λ y. compared y e ≡ Greater) xs → All (λ y. is_for e.tag (qualifier e) y ≡ false) xs
none_behind e xs l = λ k d h. is_for_by_order e (get_or xs k d) ∙ ap is_eq (l k d h)

front : (P : Entry → Type 0) (es : List Entry) (i : ℕ) → AllWithin P es 0 i → All P (take i es)
front P es i w = λ k d h. let b : k < i = omega (arith, length-take i es) in subst P (sym (get_or-take i es k d b)) (w k d (omega arith) b)

back : (P : Entry → Type 0) (es : List Entry) (i : ℕ) → AllWithin P es i (length es) → All P (drop i es)
back P es i w = λ k d h. subst P (sym (get_or-drop i es k d)) (w (i + k) d (omega arith) (omega (arith, length-drop i es)))

pub not_there : (es : List Entry) (e : Entry) (i : ℕ) → AllWithin (λ y. compared y e ≡ Less) es 0 i × AllWithin (λ y. compared y e ≡ Greater) es i (length es) →
    list_any (is_for e.tag (qualifier e)) es ≡ false
not_there es e i w =
    let less = front (λ y. compared y e ≡ Less) es i w.0 in
    let more = back (λ y. compared y e ≡ Greater) es i w.1 in
    ap (λ (zs : List Entry). list_any (is_for e.tag (qualifier e)) zs) (sym (take-append-drop i es))
    ∙ list_any_none (is_for e.tag (qualifier e)) (take i es ++ drop i es) (All-append (λ y. is_for e.tag (qualifier e) y ≡ false) (take i es) (drop i es) (none_between e _ less) (none_behind e _ more))

pub goes_there : (es : List Entry) (e : Entry) (i : ℕ) → AllWithin (λ y. compared y e ≡ Less) es 0 i × AllWithin (λ y. compared y e ≡ Greater) es i (length es) →
    put_in e es ≡ insert es i e
goes_there es e i w =
    let less = front (λ y. compared y e ≡ Less) es i w.0 in
    let more = back (λ y. compared y e ≡ Greater) es i w.1 in
    ap (put_in e) (sym (take-append-drop i es)) ∙ put_between e (take i es) (drop i es) less more

first_of_three : (o : Ordering) → ordering_index o ≡ 0 → o ≡ Less
first_of_three Less h = refl
first_of_three Equal h = absurd (omega (arith, h))
first_of_three Greater h = absurd (omega (arith, h))

-- what the entry before a place is, by its value
pub stands_at : (es : List Entry) (e : Entry) (i : ℕ) (x : Entry) (o : Ordering) → 0 < i → i ≤ length es → x ≡ get_or es (i - 1) x → compared x e ≡ o →
    HoldsAt (λ y. compared y e ≡ o) es (i - 1)
stands_at es e i x o more l is h = λ d. ap (λ (y : Entry). compared y e) (get_or_default es (i - 1) d x (omega (arith, more, l)) ∙ sym is) ∙ h

-- where one stands before an entry, so do all before it
pub less_before : (es : List Entry) (e : Entry) (i : ℕ) → IsCanonical es → 0 < i → i ≤ length es → HoldsAt (λ y. compared y e ≡ Less) es (i - 1) →
    AllWithin (λ y. compared y e ≡ Less) es 0 i
less_before es e i s more l h = λ k d _ b.
    let up = rises es e s k (i - 1) d (omega (arith, b)) (omega (arith, more, l)) in
    first_of_three (compared (get_or es k d) e) (omega (arith, up, ap ordering_index (h d)))

-- one more entry that stands behind another
pub more_behind : (es : List Entry) (e : Entry) (i : ℕ) → 0 < i → HoldsAt (λ y. compared y e ≡ Greater) es (i - 1) → AllWithin (λ y. compared y e ≡ Greater) es i (length es) →
    AllWithin (λ y. compared y e ≡ Greater) es (i - 1) (length es)
more_behind es e i more h w = λ k d a b. at k d a b (cases_lt k i)
  where
    at : (k : ℕ) (d : Entry) → i - 1 ≤ k → k < length es → (k < i) ⊎ (i ≤ k) → compared (get_or es k d) e ≡ Greater
    at k d a b (inl before) = let same : i - 1 ≡ k = omega (arith, more, a, before) in subst (λ (j : ℕ). compared (get_or es j d) e ≡ Greater) same (h d)
    at k d a b (inr behind) = w k d behind b

-- one more entry only moves the others
pub put_moves : (e : Entry) (es : List Entry) → IsPermutation (e ∷ es) (put_in e es)
put_moves e [] = IsPermutation-refl (e ∷ [])
put_moves e (x ∷ xs) = at (put_moves e xs) (is_lt (compared x e))
  where
    at : IsPermutation (e ∷ xs) (put_in e xs) → (b : Bool) → IsPermutation (e ∷ x ∷ xs) (cond b (x ∷ put_in e xs) (e ∷ x ∷ xs))
    at moved true =
        IsPermutation-trans (e ∷ x ∷ xs) (x ∷ e ∷ xs) (x ∷ put_in e xs) (IsPermutation-middle (e ∷ []) x xs)
        (IsPermutation-cons x (e ∷ xs) (put_in e xs) moved)
    at moved false = IsPermutation-refl (e ∷ x ∷ xs)

pub arranged_moves : (es : List Entry) → IsPermutation es (arranged es)
arranged_moves [] = IsPermutation-refl []
arranged_moves (e ∷ es) =
    IsPermutation-trans (e ∷ es) (e ∷ arranged es) (put_in e (arranged es)) (IsPermutation-cons e es (arranged es) (arranged_moves es))
    (put_moves e (arranged es))

pub any_arranged : (p : Entry → Bool) (es : List Entry) → list_any p (arranged es) ≡ list_any p es
any_arranged p es = sym (list_any-IsPermutation p es (arranged es) (arranged_moves es))

pub count_moved : (p : Entry → Bool) (xs ys : List Entry) → IsPermutation xs ys → count_by p ys ≡ count_by p xs
count_moved p xs ys m = sum_by-IsPermutation (λ x. cond (p x) 1 0) xs ys m

pub count_arranged : (p : Entry → Bool) (es : List Entry) → count_by p (arranged es) ≡ count_by p es
count_arranged p es = count_moved p es (arranged es) (arranged_moves es)

each_put : (P : Entry → Type 0) (e : Entry) (es : List Entry) → P e → AllByRecursion P es → AllByRecursion P (put_in e es)
each_put P e [] here all = (here, tt)
each_put P e (x ∷ xs) here all = at (each_put P e xs here all.1) (is_lt (compared x e))
  where
    at : AllByRecursion P (put_in e xs) → (b : Bool) → AllByRecursion P (cond b (x ∷ put_in e xs) (e ∷ x ∷ xs))
    at more true = (all.0, more)
    at more false = (here, (all.0, all.1))

each_behind : (e x : Entry) (xs : List Entry) → compared e x ≡ Less → AllByRecursion (λ y. compared x y ≡ Less) xs →
    AllByRecursion (λ y. compared e y ≡ Less) xs
each_behind e x [] h all = tt
each_behind e x (y ∷ ys) h all = (order.trans e x y h all.0, each_behind e x ys h all.1)

-- the entries stay in canonical order
pub put_sorted : (e : Entry) (es : List Entry) → IsStrictlySortedBy compared es → list_any (is_for e.tag (qualifier e)) es ≡ false →
    IsStrictlySortedBy compared (put_in e es)
unfolding IsStrictlySortedBy
put_sorted e [] s n = (tt, tt)
put_sorted e (x ∷ xs) s n = at (put_sorted e xs s.1) (compared x e) refl (both_false (is_for e.tag (qualifier e) x) (list_any (is_for e.tag (qualifier e)) xs) n)
  where
    both_false : (a b : Bool) → (a || b) ≡ false → (a ≡ false) × (b ≡ false)
    both_false true b h = absurd (let t : true ≡ false = h in cc)
    both_false false b h = (refl, h)

    at : (list_any (is_for e.tag (qualifier e)) xs ≡ false → IsStrictlySortedBy compared (put_in e xs)) → (o : Ordering) → compared x e ≡ o → (is_for e.tag (qualifier e) x ≡ false) × (list_any (is_for e.tag (qualifier e)) xs ≡ false) →
        IsStrictlySortedBy compared (cond (is_lt o) (x ∷ put_in e xs) (e ∷ x ∷ xs))
    at more Less h f = (each_put (λ y. compared x y ≡ Less) e xs h s.0, more f.1)
    at more Equal h f = absurd (let t : true ≡ false = sym (ap is_eq h) ∙ sym (is_for_by_order e x) ∙ f.0 in cc)
    at more Greater h f =
        let up : compared e x ≡ Less = order.antisymm e x ∙ ap ordering_reverse h in
        ((up, each_behind e x xs up s.0), (s.0, s.1))

pub none_sorted : IsStrictlySortedBy compared []
unfolding IsStrictlySortedBy
none_sorted = tt
