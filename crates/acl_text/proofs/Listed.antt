-- The whole text: what is read is spelled, what is spelled is read, and one order is canonical.
use Rattle.std.proofs.Common.{◌≡◌, ◌∙◌, ap, sym, subst, refl, ℕ, ◌+◌, ◌≤◌, Bool, true, false, cond, List, [], ◌∷◌, ◌++◌, Option, Some, None, not, arith, ◌⊎◌, inl, inr}
use Rattle.std.specs.{Prelude.{Result, Ok, Err, IsPermutation, count_by, ◌==◌, ◌&&◌}, List.{list_any, AllZip, AllByRecursion}, List.Sorted.{IsStrictlySortedBy}}
use Rattle.std.specs.declared.cmp.Ordering.TheVariants.{Less, Equal}
use Rattle.std.proofs.lemmas.List.Sorted.{All-permutation, IsPermutation-refl, IsPermutation-sym, IsPermutation-trans, IsPermutation-middle}
use Rattle.std.proofs.lemmas.{Cmp.{tied_itself}, Bool.{ne_eqb}, List.Elements.{All-from_recursion, recursion_from_All}}
use Rattle.mon_acl.specs.declared.entries.{Tag.TheVariants.{UserObj, User, GroupObj, Group, Mask, Other}, Entry.{Entry}}
use Rattle.mon_acl.specs.declared.refusals.AclError.{AclError, TheVariants.{Twice, TooMany, Missing, NoMask}}
use Rattle.mon_acl.{specs.Entries.{has_tag, is_named, is_for, IsValidAcl, IsCanonical, IsAcl, compared}, proofs.Keyed.{counted}}
use Rattle.acl_text.specs.{Texts.{SpellsEntry, SpellList}, Refusals.{◌>>=◌, joined, lacking, entry_of, entries_on}, Reading.{arranged, read_pieces}}
use Rattle.acl_text.proofs.{Order.{order, count_moved, arranged_moves}, Spelled.{bind_ok, read_spells, spelled_read}, Lacks.{whole}}
use Rattle.acl_text.proofs.Valid.{count_some, IsApart, apart_rest, apart_moved, arranged_sorted, count_less, some_of_count, joined_ok, readable, read_acl, valid_moved}

-- ---- what is read is spelled

pub read_spelled : (n : ℕ) (es : List Entry) (ps : List (List ℕ)) (all : List Entry) → entries_on n es ps ≡ Ok all →
    (written : List Entry) × AllZip SpellsEntry ps written × IsPermutation (written ++ es) all
read_spelled n es [] all h = ([], tt, subst (IsPermutation es) (let k : Ok es ≡ Ok all = h in cc) (IsPermutation-refl es))
read_spelled n es (p ∷ ps) all h =
    let a = bind_ok (entry_of n p) (λ e. joined n e es >>= λ more. entries_on (n + 1) more ps) all h in
    let b = bind_ok (joined n a.0 es) (λ more. entries_on (n + 1) more ps) all a.2 in
    let j = joined_ok n a.0 es b.0 b.1 in
    let rest = read_spelled (n + 1) (a.0 ∷ es) ps all (ap (λ (more : List Entry). entries_on (n + 1) more ps) j.2 ∙ b.2) in (
      a.0 ∷ rest.0,
      (read_spells n p a.0 a.1, rest.1),
      IsPermutation-trans (a.0 ∷ (rest.0 ++ es)) (rest.0 ++ a.0 ∷ es) all
          (IsPermutation-sym (rest.0 ++ a.0 ∷ es) (a.0 ∷ (rest.0 ++ es)) (IsPermutation-middle rest.0 a.0 es)) rest.2,
    )

append_none : (xs : List Entry) → xs ++ [] ≡ xs
append_none [] = refl
append_none (x ∷ xs) = ap (λ (ys : List Entry). x ∷ ys) (append_none xs)

pub read_is_list : (texts : List (List ℕ)) (es : List Entry) → read_pieces texts ≡ Ok es → SpellList texts es
read_is_list texts es h =
    let r = readable texts es h in
    let w = read_spelled 1 [] texts r.all r.read in (
      read_acl texts es h,
      w.0,
      w.1,
      IsPermutation-trans w.0 r.all es (subst (λ (xs : List Entry). IsPermutation xs r.all) (append_none w.0) w.2)
          (subst (IsPermutation r.all) r.is (arranged_moves r.all)),
    )

-- ---- what is spelled is read

-- in a valid list at most one entry is of each type and name
and_left : (a b : Bool) → (a && b) ≡ true → a ≡ true
and_left true b h = refl
and_left false b h = h

pub valid_apart : (es : List Entry) → IsValidAcl es → IsApart es
valid_apart es v UserObj name = omega (arith, count_less (is_for UserObj name) (has_tag UserObj) es (λ x h. and_left _ _ h), v.owner)
valid_apart es v User name = v.users_differ name
valid_apart es v GroupObj name = omega (arith, count_less (is_for GroupObj name) (has_tag GroupObj) es (λ x h. and_left _ _ h), v.owning_group)
valid_apart es v Group name = v.groups_differ name
valid_apart es v Mask name = omega (arith, count_less (is_for Mask name) (has_tag Mask) es (λ x h. and_left _ _ h), v.one_mask)
valid_apart es v Other name = omega (arith, count_less (is_for Other name) (has_tag Other) es (λ x h. and_left _ _ h), v.other)

few_rest : (b : Bool) (k : ℕ) → cond b 1 0 + k ≤ 100 → (b && (k == 100)) ≡ false
few_rest true k h = ne_eqb k 100 (λ e. omega (arith, h, e))
few_rest false k h = refl

joined_one : (n : ℕ) (e : Entry) (es : List Entry) → IsApart (e ∷ es) → count_by is_named (e ∷ es) ≤ 100 → joined n e es ≡ Ok (e ∷ es)
joined_one n e es apart few =
    let none = (apart_rest e es apart).1 in
    let room = few_rest (is_named e) (count_by is_named es) (omega (arith, few, counted is_named e es)) in
    ap (λ (b : Bool). cond b (Err (Twice n)) (cond (is_named e && (count_by is_named es == 100)) (Err (TooMany n)) (Ok (e ∷ es)))) none
    ∙ ap (λ (b : Bool). cond b (Err (TooMany n)) (Ok (e ∷ es))) room

apart_behind : (xs ys : List Entry) → IsApart (xs ++ ys) → IsApart ys
apart_behind [] ys a = a
apart_behind (x ∷ xs) ys a = apart_behind xs ys (apart_rest x (xs ++ ys) a).0

few_behind : (xs ys : List Entry) → count_by is_named (xs ++ ys) ≤ 100 → count_by is_named ys ≤ 100
few_behind [] ys h = h
few_behind (x ∷ xs) ys h = few_behind xs ys (omega (arith, h, counted is_named x (xs ++ ys)))

pub spelled_entries : (n : ℕ) (es : List Entry) (ps : List (List ℕ)) (written : List Entry) → AllZip SpellsEntry ps written →
    IsApart (written ++ es) → count_by is_named (written ++ es) ≤ 100 →
    (all : List Entry) × (entries_on n es ps ≡ Ok all) × IsPermutation (written ++ es) all
spelled_entries n es [] [] z apart few = (es, refl, IsPermutation-refl es)
spelled_entries n es [] (w ∷ ws) z apart few = absurd z
spelled_entries n es (p ∷ ps) [] z apart few = absurd z
spelled_entries n es (p ∷ ps) (e ∷ ws) z apart few =
    let back : IsPermutation (e ∷ (ws ++ es)) (ws ++ e ∷ es) = IsPermutation-sym (ws ++ e ∷ es) (e ∷ (ws ++ es)) (IsPermutation-middle ws e es) in
    let apart' : IsApart (ws ++ e ∷ es) = apart_moved (e ∷ (ws ++ es)) (ws ++ e ∷ es) back apart in
    let few' : count_by is_named (ws ++ e ∷ es) ≤ 100 = omega (arith, few, count_moved is_named (e ∷ (ws ++ es)) (ws ++ e ∷ es) back) in
    let rest = spelled_entries (n + 1) (e ∷ es) ps ws z.1 apart' few' in (
      rest.0,
      ap (λ (r : Result Entry AclError). r >>= λ x. joined n x es >>= λ more. entries_on (n + 1) more ps) (spelled_read n p e z.0)
          ∙ ap (λ (r : Result (List Entry) AclError). r >>= λ more. entries_on (n + 1) more ps) (joined_one n e es (apart_behind ws (e ∷ es) apart') (few_behind ws (e ∷ es) few'))
          ∙ rest.1,
      IsPermutation-trans (e ∷ (ws ++ es)) (ws ++ e ∷ es) rest.0 back rest.2,
    )

valid_lacks : (es : List Entry) → IsValidAcl es → lacking es ≡ None
valid_lacks es v =
    at (list_any (has_tag UserObj) es) (list_any (has_tag GroupObj) es) (list_any (has_tag Other) es) (list_any is_named es) refl (list_any (has_tag Mask) es)
    (some_of_count (has_tag UserObj) es (omega (arith, v.owner))) (some_of_count (has_tag GroupObj) es (omega (arith, v.owning_group)))
    (some_of_count (has_tag Other) es (omega (arith, v.other)))
    (λ h. some_of_count (has_tag Mask) es (omega (arith, v.masked (count_some is_named es h))))
  where
    at : (u g o n : Bool) → list_any is_named es ≡ n → (m : Bool) → u ≡ true → g ≡ true → o ≡ true → (list_any is_named es ≡ true → m ≡ true) →
        cond (not u) (Some (Missing UserObj)) (cond (not g) (Some (Missing GroupObj)) (cond (not o) (Some (Missing Other)) (cond (n && not m) (Some NoMask) None))) ≡ None
    at true true true true e true hu hg ho hm = refl
    at true true true true e false hu hg ho hm = absurd (let k : false ≡ true = hm e in cc)
    at true true true false e m hu hg ho hm = refl
    at false g o n e m hu hg ho hm = absurd (let k : false ≡ true = hu in cc)
    at true false o n e m hu hg ho hm = absurd (let k : false ≡ true = hg in cc)
    at true true false n e m hu hg ho hm = absurd (let k : false ≡ true = ho in cc)

-- ---- one canonical order

-- the first of two lists in canonical order that have the same entries
less_not_self : (x : Entry) → compared x x ≡ Less → ⊥
less_not_self x h = let k : Less ≡ Equal = sym h ∙ tied_itself order x in cc

less_back : (x y : Entry) → compared x y ≡ Less → compared y x ≡ Less → ⊥
less_back x y h k = less_not_self x (order.trans x y x h k)

-- whether an entry is among others, by recursion
abbrev pub IsIn : Entry → List Entry → Type 0
IsIn x [] = ⊥
IsIn x (y ∷ ys) = (x ≡ y) ⊎ IsIn x ys

in_each : (P : Entry → Type 0) (x : Entry) (ys : List Entry) → AllByRecursion P ys → IsIn x ys → P x
in_each P x [] all h = absurd h
in_each P x (y ∷ ys) all (inl e) = subst P (sym e) all.0
in_each P x (y ∷ ys) all (inr h) = in_each P x ys all.1 h

same_order : (xs ys : List Entry) → IsStrictlySortedBy compared xs → IsStrictlySortedBy compared ys →
    ((z : Entry) → IsIn z xs → IsIn z ys) → ((z : Entry) → IsIn z ys → IsIn z xs) → xs ≡ ys
unfolding IsStrictlySortedBy
same_order [] [] s t f g = refl
same_order [] (y ∷ ys) s t f g = absurd (g y (inl refl))
same_order (x ∷ xs) [] s t f g = absurd (f x (inl refl))
same_order (x ∷ xs) (y ∷ ys) s t f g =
    let head : x ≡ y = at (f x (inl refl)) (g y (inl refl)) in
    let tail : xs ≡ ys = same_order xs ys s.1 t.1 (λ z h. one z h (f z (inr h)) head) (λ z h. two z h (g z (inr h)) head) in
    ap (λ (w : Entry). w ∷ xs) head ∙ ap (λ (ws : List Entry). y ∷ ws) tail
  where
    at : (x ≡ y) ⊎ IsIn x ys → (y ≡ x) ⊎ IsIn y xs → x ≡ y
    at (inl e) k = e
    at (inr h) (inl e) = sym e
    at (inr h) (inr k) = absurd (less_back x y (in_each (λ z. compared x z ≡ Less) y xs s.0 k) (in_each (λ z. compared y z ≡ Less) x ys t.0 h))

    one : (z : Entry) → IsIn z xs → (z ≡ y) ⊎ IsIn z ys → x ≡ y → IsIn z ys
    one z h (inr k) e = k
    one z h (inl k) e = absurd (less_not_self x (subst (λ (w : Entry). compared x w ≡ Less) (k ∙ sym e) (in_each (λ w. compared x w ≡ Less) z xs s.0 h)))

    two : (z : Entry) → IsIn z ys → (z ≡ x) ⊎ IsIn z xs → x ≡ y → IsIn z xs
    two z h (inr k) e = k
    two z h (inl k) e = absurd (less_not_self y (subst (λ (w : Entry). compared y w ≡ Less) (k ∙ e) (in_each (λ w. compared y w ≡ Less) z ys t.0 h)))

each_weaker : (P Q : Entry → Type 0) → ((x : Entry) → P x → Q x) → (xs : List Entry) → AllByRecursion P xs → AllByRecursion Q xs
each_weaker P Q f [] all = tt
each_weaker P Q f (x ∷ xs) all = (f x all.0, each_weaker P Q f xs all.1)

in_itself : (xs : List Entry) → AllByRecursion (λ w. IsIn w xs) xs
in_itself [] = tt
in_itself (x ∷ xs) = (inl refl, each_weaker (λ w. IsIn w xs) (λ w. IsIn w (x ∷ xs)) (λ w h. inr h) xs (in_itself xs))

in_moved : (xs ys : List Entry) → IsPermutation xs ys → (z : Entry) → IsIn z ys → IsIn z xs
in_moved xs ys m z h =
    in_each (λ w. IsIn w xs) z ys
    (recursion_from_All (λ w. IsIn w xs) ys (All-permutation (λ w. IsIn w xs) xs ys m (All-from_recursion (λ w. IsIn w xs) xs (in_itself xs)))) h

-- the same entries have one canonical order
pub one_order : (xs ys : List Entry) → IsCanonical xs → IsCanonical ys → IsPermutation xs ys → xs ≡ ys
one_order xs ys s t m = same_order xs ys s t (in_moved ys xs (IsPermutation-sym xs ys m)) (in_moved xs ys m)

pub list_is_read : (texts : List (List ℕ)) (es : List Entry) → SpellList texts es → read_pieces texts ≡ Ok es
list_is_read texts es h =
    let written = h.1 in
    let back : IsPermutation es written = IsPermutation-sym written es h.3 in
    let valid = valid_moved es written back h.0.valid in
    let apart : IsApart (written ++ []) = subst IsApart (sym (append_none written)) (valid_apart written valid) in
    let few : count_by is_named (written ++ []) ≤ 100 = subst (λ (xs : List Entry). count_by is_named xs ≤ 100) (sym (append_none written)) valid.few in
    let r = spelled_entries 1 [] texts written h.2 apart few in
    let moved : IsPermutation written r.0 = subst (λ (xs : List Entry). IsPermutation xs r.0) (append_none written) r.2 in
    let valid_all = valid_moved written r.0 moved valid in
    let same : arranged r.0 ≡ es =
    one_order (arranged r.0) es (arranged_sorted r.0 (valid_apart r.0 valid_all)) h.0.canonical
    (IsPermutation-trans (arranged r.0) r.0 es (IsPermutation-sym r.0 (arranged r.0) (arranged_moves r.0))
    (IsPermutation-trans r.0 written es (IsPermutation-sym written r.0 moved) h.3)) in
    ap (λ (x : Result (List Entry) AclError). x >>= λ all. whole (lacking all) (arranged all)) r.1
    ∙ ap (λ (o : Option AclError). whole o (arranged r.0)) (valid_lacks r.0 valid_all)
    ∙ ap (λ (xs : List Entry). Ok xs) same

-- texts spell one list at the most
pub one_list : (texts : List (List ℕ)) (es fs : List Entry) → SpellList texts es → SpellList texts fs → es ≡ fs
one_list texts es fs h k = let e : Ok es ≡ Ok fs = sym (list_is_read texts es h) ∙ list_is_read texts fs k in cc

-- each valid list has a canonical order
pub canonical_order : (es : List Entry) → IsValidAcl es → (cs : List Entry) × IsPermutation es cs × IsAcl cs
canonical_order es v =
    (arranged es, arranged_moves es, record { valid = valid_moved es (arranged es) (arranged_moves es) v; canonical = arranged_sorted es (valid_apart es v) })
