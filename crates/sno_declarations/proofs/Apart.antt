-- Names that are all different.
use Rattle.std.proofs.Common.{◌≡◌, ℕ, zero, suc, ◌+◌, ◌-◌, ◌<◌, ◌≤◌, Bool, true, false, not, ◌&&◌, ◌||◌, cond, List, [], ◌∷◌, ◌++◌, length, drop, get_or, Ok, Err, refl, sym, ap, ◌∙◌, nat_eq, append-nil, arith}
use Rattle.std.{specs.Prelude.{Result, IfOk}, proofs.lemmas.List.{drop_more}, specs.List.{list_any}, specs.Ordering.{nat_cmp}}
use Rattle.std.specs.{Cmp.Lexicographic.{pointwise, slice_cmp, texts_ties}, BTreeSet.{BTreeSet, contains, Updates}}
use Rattle.sno_declarations.specs.{Prototypes.{are_different}, inner.Reading.{HasMet, Meets}}

abbrev is_in : List ℕ → List (List ℕ) → Bool
is_in name names = list_any (λ other. pointwise nat_eq other name) names

neither : (a b : Bool) → b ≡ false → (a && b) ≡ false
neither true b h = h
neither false b h = refl

and_true : (a b : Bool) → b ≡ true → (a && b) ≡ a
and_true true b h = h
and_true false b h = refl

either : (a b : Bool) → cond a true b ≡ (a || b)
either true b = refl
either false b = refl

-- A NAME, OR NAMES, AMONG OTHERS

-- a set that has no names has met none
none_met : (met : BTreeSet (List ℕ)) → met.keys ≡ [] → HasMet met []
none_met met h = (refl, λ name. ap (list_any (λ other. _)) h)

pub one_met : (new : Bool) (met after : BTreeSet (List ℕ)) (name key : List ℕ) → key ≡ name → new ≡ not (contains (slice_cmp nat_cmp) met key)
    → Updates (slice_cmp nat_cmp) met after key true → Meets new met after (name ∷ [])
one_met new met after name key same added updates = rw (sym same) met_key
  where
    met_key : Meets new met after (key ∷ [])
    met_key others has =
        let is : new ≡ (not (is_in key others) && are_different others) =
        added ∙ ap not (has.1 key) ∙ sym (and_true (not (is_in key others)) (are_different others) has.0) in (
          is,
          λ h. (
            sym is ∙ h,
            λ q.
                updates.0 q ∙ sym (ap (λ (b : Bool). cond b true (contains (slice_cmp nat_cmp) met q)) (texts_ties key q))
                ∙ ap (cond (pointwise nat_eq key q) true) (has.1 q) ∙ either (pointwise nat_eq key q) (is_in q others),
          ),
        )

-- one name more before those that were met
one_more_met : (new : Bool) (first met after : BTreeSet (List ℕ)) (name : List ℕ) (names : List (List ℕ)) → Meets true first met names
    → Meets new met after (name ∷ []) → Meets new first after (name ∷ names)
one_more_met new first met after name names early late others has = late (names ++ others) ((early others has).1 refl)

-- names before others that are not all different are not either
still_same : (names others : List (List ℕ)) → are_different others ≡ false → are_different (names ++ others) ≡ false
still_same [] others h = h
still_same (name ∷ names) others h = neither (not (is_in name (names ++ others))) (are_different (names ++ others)) (still_same names others h)

-- where the last names are not all different from those met before, all are not
stopped : (left : ℕ) (first after : BTreeSet (List ℕ)) (names : List (List ℕ)) → Meets false first after (drop left names) → Meets false first after names
stopped left first after names last others has = (sym (same left names (sym (last others has).0)), λ h. absurd cc)
  where
    same : (k : ℕ) (ns : List (List ℕ)) → are_different (drop k ns ++ others) ≡ false → are_different (ns ++ others) ≡ false
    same zero ns h = h
    same (suc k) [] h = h
    same (suc k) (n ∷ ns) h = neither (not (is_in n (ns ++ others))) (are_different (ns ++ others)) (same k ns h)

-- the last names, with the one that stands before them
front : (left : ℕ) (names : List (List ℕ)) (name : List ℕ) → 0 < left → left ≤ length names → name ≡ get_or names (left - 1) name
    → drop (left - 1) names ≡ name ∷ drop left names
front left names name some le is =
    let within : left - 1 < length names = omega (arith, some, le) in
    let next : left - 1 + 1 ≡ left = omega (arith, some) in
    drop_more names (left - 1) name within ∙ ap (λ (n : List ℕ). n ∷ drop (left - 1 + 1) names) (sym is) ∙ ap (λ (k : ℕ). name ∷ drop k names) next

module _ (new : Bool) (first met after : BTreeSet (List ℕ)) (left : ℕ) (names : List (List ℕ)) (name : List ℕ) where
  from_one_more : 0 < left → left ≤ length names → name ≡ get_or names (left - 1) name → Meets true first met (drop left names) → Meets new met after (name ∷ [])
      → Meets new first after (drop (left - 1) names)
  from_one_more some le is early late = rw (front left names name some le is) (one_more_met new first met after name (drop left names) early late)

  pub goes_on : new ≡ true → 0 < left → left ≤ length names → name ≡ get_or names (left - 1) name → Meets true first met (drop left names)
      → Meets new met after (name ∷ []) → Meets true first after (drop (left - 1) names)
  goes_on fresh some le is early late = rw fresh at (from_one_more some le is early late)

  pub stops : new ≡ false → 0 < left → left ≤ length names → name ≡ get_or names (left - 1) name → Meets true first met (drop left names)
      → Meets new met after (name ∷ []) → Meets false first after names
  stops stale some le is early late = stopped (left - 1) first after names (rw (sym stale) (from_one_more some le is early late))

-- A FUNCTION'S NAMES

module _ (none : BTreeSet (List ℕ)) (name : List ℕ) (ps ls : List (List ℕ)) where
  abbrev IsSaid : Bool → Type 0
  IsSaid is = is ≡ are_different (name ∷ (ps ++ ls))

  has_locals : (new : Bool) (met : BTreeSet (List ℕ)) → new ≡ true → none.keys ≡ [] → Meets new none met ls → HasMet met ls
  has_locals new met fresh empty all = rw (sym (append-nil ls)) ((all [] (none_met none empty)).1 fresh)

  pub in_locals : (new : Bool) (met : BTreeSet (List ℕ)) → new ≡ false → none.keys ≡ [] → Meets new none met ls → IsSaid false
  in_locals new met stale empty all =
      let same : are_different ls ≡ false = ap are_different (sym (append-nil ls)) ∙ sym (all [] (none_met none empty)).0 ∙ stale in
      sym (still_same (name ∷ ps) ls same)

  module _ (new : Bool) (met after : BTreeSet (List ℕ)) (fresh : new ≡ true) (empty : none.keys ≡ []) (all : Meets new none met ls) where
    pub in_parameters : (more : Bool) → more ≡ false → Meets more met after ps → IsSaid false
    in_parameters more stale rest =
        let same : are_different (ps ++ ls) ≡ false = sym (rest ls (has_locals new met fresh empty all)).0 ∙ stale in
        sym (neither (not (is_in name (ps ++ ls))) (are_different (ps ++ ls)) same)

    pub in_none : {E : Type 0} (more : Bool) (last : BTreeSet (List ℕ)) (own : Result Bool E) → more ≡ true → Meets more met after ps
        → IfOk own (λ is. Meets is after last (name ∷ [])) → IfOk own (λ is. is ≡ are_different (name ∷ (ps ++ ls)))
    in_none more last (Ok is) too rest own = (own (ps ++ ls) ((rest ls (has_locals new met fresh empty all)).1 too)).0
    in_none more last (Err e) too rest own = tt
