-- The entry that is found in a list in canonical order is all that there is of a kind.
use Rattle.std.proofs.Common.{◌≡◌, ◌∙◌, ℕ, zero, suc, ◌+◌, ◌<◌, Bool, true, false, ◌&&◌, ◌||◌, true≢false, List, [], ◌∷◌, length, get_or, refl, sym, ap, arith, nat_cmp, is_eq, Ordering, Less, Equal, Greater, HoldsAt, IsTrue, None}
use Rattle.std.specs.{List.{list_any, position_or_len}, Cmp.{ranks}, Cmp.Lexicographic.{slice_cmp, texts_ties, nat_list_cmp_total}}
use Rattle.std.specs.Ordering.{ordering_reverse, MatchOrdering}
use Rattle.std.proofs.lemmas.{List.Folds.{list_any_none, list_any_at}, Map.Keys.{Less-from_sorted}}
use Rattle.mon_acl.specs.declared.entries.{Perms.{Perms}, Tag.{Tag}, Tag.TheVariants.{Mask}, Entry.{Entry}}
use Rattle.mon_acl.specs.{Entries.{rank, sort_key, compared, is_for, IsCanonical}, Permissions.{holds}}
use Rattle.mon_access.specs.{declared.finding.Found.{Found}, declared.finding.Found.TheVariants.{Nobody, Lacking, Holding}, Matches.{some_holds}}
use Rattle.mon_access.specs.inner.Kinds.{found, found_of, judged, stands_at}

abbrev AllFail : (Entry → Bool) → List Entry → Type 0
AllFail kind es = (k : ℕ) (d : Entry) → k < length es → kind (get_or es k d) ≡ false

no_holder : (kind : Entry → Bool) (es : List Entry) (request : Perms) → AllFail kind es → some_holds kind es request ≡ false
no_holder kind es request none = list_any_none (λ (e : Entry). kind e && holds e.perms request) es (λ k d h. ap (λ (b : Bool). b && holds (get_or es k d).perms request) (none k d h))

-- where no entry is of the kind
pub nobody : (kind : Entry → Bool) (es : List Entry) (request : Perms) → AllFail kind es → Nobody ≡ found kind es request
nobody kind es request none =
    let h : some_holds kind es request ≡ false = no_holder kind es request none in
    let a : list_any kind es ≡ false = list_any_none kind es none in
    rw (h, a) refl

shifted : Found → Found
shifted Nobody = Nobody
shifted (Lacking i) = Lacking (1 + i)
shifted Holding = Holding

shift : (h a : Bool) (p : ℕ) → found_of h a (1 + p) ≡ shifted (found_of h a p)
unfolding shifted
shift true a p = refl
shift false true p = refl
shift false false p = refl

shift_judged : (b : Bool) (i : ℕ) → shifted (judged b i) ≡ judged b (suc i)
unfolding shifted
shift_judged true i = refl
shift_judged false i = ap Lacking (omega arith)

-- where one entry is of the kind, and no other
pub only : (kind : Entry → Bool) (es : List Entry) (request : Perms) (i : ℕ) (d : Entry) → i < length es → kind (get_or es i d) ≡ true →
    ((k : ℕ) (d : Entry) → k < length es → (k ≡ i → ⊥) → kind (get_or es k d) ≡ false) →
    judged (holds (get_or es i d).perms request) i ≡ found kind es request
only kind [] request i d l at others = absurd (omega arith)
only kind (x ∷ xs) request zero d l at others =
    let none : some_holds kind xs request ≡ false = no_holder kind xs request (λ k d h. others (suc k) d (omega arith) (λ e. omega arith)) in
    let here : kind x ≡ true = at in
    rw (here, none) (by (holds x.perms request))
  where
    by : (b : Bool) → judged b 0 ≡ found_of ((true && b) || false) (true || list_any kind xs) 0
    by true = refl
    by false = refl
only kind (x ∷ xs) request (suc i) d l at others =
    let no : kind x ≡ false = others 0 d (omega arith) (λ e. omega arith) in
    let rest = only kind xs request i d (omega arith) at (λ k d h n. others (suc k) d (omega arith) (λ e. n (omega arith))) in
    rw no
    (sym (shift_judged (holds (get_or xs i d).perms request) i) ∙ ap shifted rest
    ∙ sym (shift (some_holds kind xs request) (list_any kind xs) (position_or_len kind xs)))

-- an entry, for the place behind a list
some : Entry
some = record { tag = Mask; name = None; perms = record { read = false; write = false; execute = false } }

-- what an index in a list in canonical order says of the entries for a type and a qualifier
module _ (es : List Entry) (t : Tag) (q : List ℕ) where
  stands : (e : Entry) → stands_at (rank t ∷ q) e ≡ is_for t q e
  stands e = sym (texts_ties (sort_key e) (rank t ∷ q))

  equal : (o : Ordering) → is_eq o ≡ true → o ≡ Equal
  equal Less h = let k : false ≡ true = h in absurd cc
  equal Equal h = refl
  equal Greater h = let k : false ≡ true = h in absurd cc

  apart : IsCanonical es → (i k : ℕ) (d : Entry) → i < k → k < length es → is_for t q (get_or es i d) ≡ true → is_for t q (get_or es k d) ≡ true → ⊥
  apart sorted i k d l h a b =
      let key = rank t ∷ q in
      let x = sort_key (get_or es i d) in
      let y = sort_key (get_or es k d) in
      let up : slice_cmp nat_cmp x y ≡ Less = Less-from_sorted compared es i k d sorted l h in
      let first : slice_cmp nat_cmp x key ≡ Equal = equal _ (stands (get_or es i d) ∙ a) in
      let second : slice_cmp nat_cmp y key ≡ Equal = equal _ (stands (get_or es k d) ∙ b) in
      let same : slice_cmp nat_cmp x y ≡ slice_cmp nat_cmp key y = nat_list_cmp_total.congr x key y first in
      let turned : slice_cmp nat_cmp key y ≡ Equal = nat_list_cmp_total.antisymm key y ∙ ap ordering_reverse second in
      let differ : Less ≡ Equal = sym up ∙ same ∙ turned in cc

  others : IsCanonical es → (i k : ℕ) (d : Entry) → i < length es → k < length es → (k ≡ i → ⊥) → is_for t q (get_or es i d) ≡ true → (b : Bool) → is_for t q (get_or es k d) ≡ b → b ≡ false
  others sorted i k d l h n a false e = refl
  others sorted i k d l h n a true e = absurd (by (nat_cmp k i) (ranks k i))
    where
      by : (r : Ordering) → MatchOrdering r (k < i) (k ≡ i) (i < k) → ⊥
      by Less o = apart sorted k i d o l e a
      by Equal o = n o
      by Greater o = apart sorted i k d o h a e

  pub found_at : IsCanonical es → (request perms : Perms) (i : ℕ) → i < length es → HoldsAt (λ (e : Entry). IsTrue (is_for t q e)) es i → HoldsAt (λ (e : Entry). e.perms ≡ perms) es i →
      judged (holds perms request) i ≡ found (stands_at (rank t ∷ q)) es request
  found_at sorted request perms i l a held =
      ap (λ (p : Perms). judged (holds p request) i) (sym (held some))
      ∙ only (stands_at (rank t ∷ q)) es request i some l (stands (get_or es i some) ∙ a some)
      (λ k d h n. stands (get_or es k d) ∙ others sorted i k d l h n (a d) (is_for t q (get_or es k d)) refl)

  pub found_nowhere : (request : Perms) → list_any (is_for t q) es ≡ false → Nobody ≡ found (stands_at (rank t ∷ q)) es request
  found_nowhere request none = nobody (stands_at (rank t ∷ q)) es request (λ k d h. stands (get_or es k d) ∙ by k d h (is_for t q (get_or es k d)) refl)
    where
      by : (k : ℕ) (d : Entry) → k < length es → (b : Bool) → is_for t q (get_or es k d) ≡ b → b ≡ false
      by k d h false e = refl
      by k d h true e = absurd (true≢false (sym (list_any_at (is_for t q) es k d h e) ∙ none))
