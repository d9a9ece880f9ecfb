-- Cutting a text at its first separator.
use Rattle.std.proofs.Common.{◌≡◌, ◌∙◌, ap, sym, subst, ℕ, ◌+◌, ◌-◌, ◌<◌, ◌≤◌, Bool, true, false, cond, List, [], ◌∷◌, length, take, drop, Option, Some, None, arith, length-drop, refl, map, option_copied, Bor}
use Rattle.mon_acl.specs.declared.entries.Tag.{Tag}
use Rattle.acl_text.specs.{Texts.{is_colon, trimmed, is_hash, without_comment}, inner.Building.{parts_behind}, Refusals.{parts_of}}
use Rattle.std.specs.{Prelude.{nat_lt}, List.{slice_split, onto_first, position, position_or_len}}
use Rattle.std.proofs.lemmas.{List.Splits.{slice_split_first, slice_split_none}, List.Sums.{fails_before_first}, List.{take_all}, Option.{cond_some}}
use Rattle.std.proofs.lemmas.Bool.{ltb-true, ltb-false}

pub cut_some : (p : ℕ → Bool) (xs : List ℕ) (i : ℕ) → position p xs ≡ Some i →
    slice_split p xs ≡ take i xs ∷ slice_split p (take (length xs - (i + 1)) (drop (i + 1) xs))
cut_some p xs i e =
    let s = cond_some (nat_lt (position_or_len p xs) (length xs)) (position_or_len p xs) i e in
    let k = position_or_len p xs in
    let whole : take (length xs - (k + 1)) (drop (k + 1) xs) ≡ drop (k + 1) xs = take_all _ _ (omega (arith, length-drop (k + 1) xs)) in
    subst (λ (j : ℕ). slice_split p xs ≡ take j xs ∷ slice_split p (take (length xs - (j + 1)) (drop (j + 1) xs))) s.1
    (slice_split_first p xs 0 (ltb-true _ _ s.0) ∙ ap (λ (t : List ℕ). take k xs ∷ slice_split p t) (sym whole))

pub cut_none : (p : ℕ → Bool) (xs : List ℕ) → position p xs ≡ None → slice_split p xs ≡ xs ∷ []
cut_none p xs e = slice_split_none p xs (λ k d h. fails_before_first p xs k d (at (nat_lt (position_or_len p xs) (length xs)) k h (λ f. ltb-false _ _ f) e))
  where
    at : (b : Bool) (k : ℕ) → k < length xs → (b ≡ false → length xs ≤ position_or_len p xs) → cond b (Some (position_or_len p xs)) None ≡ None → k < position_or_len p xs
    at true k h f e = absurd (let n : Some (position_or_len p xs) ≡ None = e in cc)
    at false k h f e = let l : length xs ≤ position_or_len p xs = f refl in omega arith

pub split_some : (p : ℕ → Bool) (xs : List ℕ) → (y : List ℕ) × (ys : List (List ℕ)) × (slice_split p xs ≡ y ∷ ys)
split_some p [] = ([], [], refl)
split_some p (x ∷ xs) = at (p x) (split_some p xs)
  where
    at : (b : Bool) → (y : List ℕ) × (ys : List (List ℕ)) × (slice_split p xs ≡ y ∷ ys) →
        (y : List ℕ) × (ys : List (List ℕ)) × (cond b ([] ∷ slice_split p xs) (onto_first x (slice_split p xs)) ≡ y ∷ ys)
    at true (y, ys, e) = ([], slice_split p xs, refl)
    at false (y, ys, e) = (x ∷ y, ys, ap (λ (l : List (List ℕ)). onto_first x l) e)

-- what stands before the first `#` is the line without its comment
pub first_part : (line first : List ℕ) (rest : List (List ℕ)) → slice_split is_hash line ≡ first ∷ rest → first ≡ without_comment line
first_part [] first rest h = let k : [] ∷ [] ≡ first ∷ rest = h in cc
first_part (c ∷ cs) first rest h = at (is_hash c) (split_some is_hash cs) (first_part cs) h
  where
    at : (b : Bool) → (y : List ℕ) × (ys : List (List ℕ)) × (slice_split is_hash cs ≡ y ∷ ys) →
        ((y : List ℕ) (ys : List (List ℕ)) → slice_split is_hash cs ≡ y ∷ ys → y ≡ without_comment cs) →
        cond b ([] ∷ slice_split is_hash cs) (onto_first c (slice_split is_hash cs)) ≡ first ∷ rest → first ≡ cond b [] (c ∷ without_comment cs)
    at true s more k = let e : [] ∷ slice_split is_hash cs ≡ first ∷ rest = k in cc
    at false (y, ys, s) more k =
        let e : (c ∷ y) ∷ ys ≡ first ∷ rest = sym (ap (onto_first c) s) ∙ k in
        let same : c ∷ y ≡ first = cc in
        sym same ∙ ap (λ (t : List ℕ). c ∷ t) (more y ys s)

-- four fields are too many
pub four_fields : (tag : Tag) (f : Option (Bor (List ℕ))) (a : Bor (List ℕ)) (second : List ℕ) (f2 : Option (Bor (List ℕ))) (b : Bor (List ℕ)) (third : List ℕ) (f3 : Option (Bor (List ℕ))) (r : Bor (List ℕ)) →
    f ≡ Some a → slice_split is_colon a.now ≡ second ∷ parts_behind is_colon (option_copied f2) →
    f2 ≡ Some b → slice_split is_colon b.now ≡ third ∷ parts_behind is_colon (option_copied f3) →
    f3 ≡ Some r → None ≡ parts_of tag (map trimmed (parts_behind is_colon (option_copied f)))
four_fields tag f a second f2 b third f3 r e ea e2 eb e3 =
    let behind : Option (Bor (List ℕ)) → List (List ℕ) = λ o. parts_behind is_colon (option_copied o) in
    let more = split_some is_colon r.now in
    let whole : behind f ≡ second ∷ third ∷ more.0 ∷ more.1 =
    ap behind e ∙ ea ∙ ap (λ (l : List (List ℕ)). second ∷ l) (ap behind e2 ∙ eb ∙ ap (λ (l : List (List ℕ)). third ∷ l) (ap behind e3 ∙ more.2)) in
    sym (ap (λ (l : List (List ℕ)). parts_of tag (map trimmed l)) whole)
