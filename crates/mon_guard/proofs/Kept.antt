-- What a filter keeps.
use Rattle.std.proofs.Common.{◌≡◌, ◌<◌, ◌∷◌, [], Bool, true, false, cond, List, refl, sym, ap, ◌∙◌, subst, inl, inr, arith}
use Rattle.std.specs.List.{filter, Contains}
use Rattle.std.proofs.lemmas.List.Elements.{Contains-append_left, Contains-append_right, Contains-push, Contains-push_cases, Contains-append_cases, All-contains, All-contains_itself, All-filter, filter_passes}

more : {X : Type 0} (b : Bool) (x y : X) (ys : List X) → Contains ys y → Contains (cond b (x ∷ ys) ys) y
more true x y ys has = Contains-append_right (x ∷ []) ys y has
more false x y ys has = has

first : {X : Type 0} (x y : X) (ys : List X) → x ≡ y → Contains (x ∷ ys) y
first {X} x y ys same =
    let P : X → Type 0 = λ z. Contains (z ∷ []) y in
    Contains-append_left (x ∷ []) ys y (subst P (sym same) (Contains-push [] y))

nowhere : {X : Type 0} (y : X) → Contains [] y → ⊥
nowhere y has = let none : has.0 < 0 = has.1 in omega arith

kept : {X : Type 0} (p : X → Bool) (xs : List X) (y : X) → Contains xs y → p y ≡ true → Contains (filter p xs) y
kept p [] y has passes = has
kept {X} p (x ∷ xs) y has passes =
    elim (Contains-append_cases (x ∷ []) xs y has) [
      | inl at_first ↦ elim (Contains-push_cases [] x y at_first) [
        | inl never ↦ absurd (nowhere y never)
        | inr same ↦
            let P : Bool → Type 0 = λ b. Contains (cond b (x ∷ filter p xs) (filter p xs)) y in
            subst P (sym (ap p same ∙ passes)) (first x y (filter p xs) same)
      ]
      | inr later ↦ more (p x) x y (filter p xs) (kept p xs y later passes)
    ]

-- an element is kept exactly where it is there and passes
pub keeps : {X : Type 0} (p : X → Bool) (xs : List X) (y : X) → Contains xs y × (p y ≡ true) → Contains (filter p xs) y
keeps p xs y h = kept p xs y h.0 h.1

pub kept_only : {X : Type 0} (p : X → Bool) (xs : List X) (y : X) → Contains (filter p xs) y → Contains xs y × (p y ≡ true)
kept_only p xs y has = (
  All-contains (Contains xs) (filter p xs) y (All-filter p (Contains xs) xs (All-contains_itself xs)) has,
  All-contains (λ x. p x ≡ true) (filter p xs) y (filter_passes p xs) has,
)

again : {X : Type 0} (p : X → Bool) (x : X) (ys : List X) (b : Bool) → p x ≡ b → filter p ys ≡ ys → filter p (cond b (x ∷ ys) ys) ≡ cond b (x ∷ ys) ys
again {X} p x ys true e rest = ap (λ (b : Bool). cond b (x ∷ filter p ys) (filter p ys)) e ∙ ap (λ (zs : List X). x ∷ zs) rest
again p x ys false e rest = rest

-- what was kept is kept again
pub filter_again : {X : Type 0} (p : X → Bool) (xs : List X) → filter p (filter p xs) ≡ filter p xs
filter_again p [] = refl
filter_again p (x ∷ xs) = again p x (filter p xs) (p x) refl (filter_again p xs)
