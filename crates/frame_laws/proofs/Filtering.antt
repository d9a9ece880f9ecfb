-- What a look-up and a change are over the data sets whose names pass.
use Rattle.std.proofs.Common.{◌≡◌, ℕ, suc, ◌<◌, ◌≤◌, nat_eq, Bool, true, false, cond, List, [], ◌∷◌, ◌++◌, length, Option, Some, None, refl, sym, ap, ◌∙◌, arith}
use Rattle.std.specs.{Prelude.{if◌then◌else◌, nat_le, is_some, filter}, Cmp.Lexicographic.{pointwise, bytes_decides}}
use Rattle.std.proofs.lemmas.{List.{append-nil}, List.Elements.{filter-append}, Bool.Decides.{nat_tests}}
use Rattle.mon_catalogue.specs.declared.{data_set.DataSet.{DataSet}, catalogue.CreateError.TheVariants.{NameTaken, CatalogueFull}}
use Rattle.mon_catalogue.specs.{Sets.{Sets, find_set, create_refusal}, Changes.{without_set, with_changed}}
use Rattle.frame_laws.specs.Naming.{of_names}

apart : {X : Type 0} (p : List ℕ → Bool) (a b : List ℕ) → pointwise nat_eq a b ≡ true → p a ≡ true → p b ≡ false → X
apart p a b e ours out = absurd (let same : true ≡ false = sym ours ∙ ap p ((bytes_decides a b).0 e) ∙ out in cc)

alike : (p : List ℕ → Bool) (a b : List ℕ) → pointwise nat_eq a b ≡ true → p a ≡ false → p b ≡ false
alike p a b e out = sym (ap p ((bytes_decides a b).0 e)) ∙ out

module _ (p : List ℕ → Bool) (name : List ℕ) (ours : p name ≡ true) where
  pub found : (sets : Sets) → find_set name (of_names p sets) ≡ find_set name sets
  found [] = refl
  found (named ∷ sets) = by (pointwise nat_eq name named.0) refl (p named.0) refl (found sets)
    where
      by : (a : Bool) → pointwise nat_eq name named.0 ≡ a → (b : Bool) → p named.0 ≡ b → find_set name (of_names p sets) ≡ find_set name sets
          → find_set name (if b then named ∷ of_names p sets else of_names p sets) ≡ cond a (Some named.1) (find_set name sets)
      by a e true f rest = ap (λ (c : Bool). cond c (Some named.1) (find_set name (of_names p sets))) e ∙ ap (λ (o : Option DataSet). cond a (Some named.1) o) rest
      by true e false f rest = apart p name named.0 e ours f
      by false e false f rest = rest

  pub changed_own : (f : DataSet → DataSet) (sets : Sets) → with_changed name f (of_names p sets) ≡ of_names p (with_changed name f sets)
  changed_own f [] = refl
  changed_own f (named ∷ sets) = by (pointwise nat_eq name named.0) refl (p named.0) refl (changed_own f sets)
    where
      by : (a : Bool) → pointwise nat_eq name named.0 ≡ a → (b : Bool) → p named.0 ≡ b → with_changed name f (of_names p sets) ≡ of_names p (with_changed name f sets)
          → with_changed name f (if b then named ∷ of_names p sets else of_names p sets) ≡ of_names p (if a then (named.0, f named.1) ∷ sets else named ∷ with_changed name f sets)
      by true e true g rest =
          ap (λ (c : Bool). if c then (named.0, f named.1) ∷ of_names p sets else named ∷ with_changed name f (of_names p sets)) e
          ∙ sym (ap (λ (c : Bool). if c then (named.0, f named.1) ∷ of_names p sets else of_names p sets) g)
      by false e true g rest =
          ap (λ (c : Bool). if c then (named.0, f named.1) ∷ of_names p sets else named ∷ with_changed name f (of_names p sets)) e
          ∙ ap (λ (l : Sets). named ∷ l) rest
          ∙ sym (ap (λ (c : Bool). if c then named ∷ of_names p (with_changed name f sets) else of_names p (with_changed name f sets)) g)
      by true e false g rest = apart p name named.0 e ours g
      by false e false g rest = rest ∙ sym (ap (λ (c : Bool). if c then named ∷ of_names p (with_changed name f sets) else of_names p (with_changed name f sets)) g)

  pub removed_own : (sets : Sets) → without_set name (of_names p sets) ≡ of_names p (without_set name sets)
  removed_own [] = refl
  removed_own (named ∷ sets) = by (pointwise nat_eq name named.0) refl (p named.0) refl (removed_own sets)
    where
      by : (a : Bool) → pointwise nat_eq name named.0 ≡ a → (b : Bool) → p named.0 ≡ b → without_set name (of_names p sets) ≡ of_names p (without_set name sets)
          → without_set name (if b then named ∷ of_names p sets else of_names p sets) ≡ of_names p (if a then sets else named ∷ without_set name sets)
      by true e true g rest = ap (λ (c : Bool). if c then of_names p sets else named ∷ without_set name (of_names p sets)) e
      by false e true g rest =
          ap (λ (c : Bool). if c then of_names p sets else named ∷ without_set name (of_names p sets)) e ∙ ap (λ (l : Sets). named ∷ l) rest
          ∙ sym (ap (λ (c : Bool). if c then named ∷ of_names p (without_set name sets) else of_names p (without_set name sets)) g)
      by true e false g rest = apart p name named.0 e ours g
      by false e false g rest = rest ∙ sym (ap (λ (c : Bool). if c then named ∷ of_names p (without_set name sets) else of_names p (without_set name sets)) g)

  pub added_own : (d : DataSet) (sets : Sets) → of_names p sets ++ (name, d) ∷ [] ≡ of_names p (sets ++ (name, d) ∷ [])
  added_own d sets =
      sym (filter-append (λ (named : List ℕ × DataSet). p named.0) sets ((name, d) ∷ [])
      ∙ ap (λ (c : Bool). of_names p sets ++ (if c then (name, d) ∷ [] else [])) ours)

  pub refusal_own : (sets : Sets) → length sets < 1000 → length (of_names p sets) ≤ length sets → create_refusal name (of_names p sets) ≡ create_refusal name sets
  refusal_own sets room fewer =
      let here : nat_le 1000 (length sets) ≡ false = grind (arith, nat_tests) in
      let there : nat_le 1000 (length (of_names p sets)) ≡ false = grind (arith, nat_tests) in
      ap (λ (o : Option DataSet). if is_some o then Some NameTaken else if nat_le 1000 (length (of_names p sets)) then Some CatalogueFull else None) (found sets)
      ∙ ap (λ (c : Bool). if is_some (find_set name sets) then Some NameTaken else if c then Some CatalogueFull else None) (there ∙ sym here)

module _ (q : List ℕ → Bool) (name : List ℕ) (out : q name ≡ false) where
  pub changed_others : (f : DataSet → DataSet) (sets : Sets) → of_names q (with_changed name f sets) ≡ of_names q sets
  changed_others f [] = refl
  changed_others f (named ∷ sets) = by (pointwise nat_eq name named.0) refl (changed_others f sets)
    where
      by : (a : Bool) → pointwise nat_eq name named.0 ≡ a → of_names q (with_changed name f sets) ≡ of_names q sets
          → of_names q (if a then (named.0, f named.1) ∷ sets else named ∷ with_changed name f sets) ≡ of_names q (named ∷ sets)
      by true e rest =
          let g = alike q name named.0 e out in
          ap (λ (c : Bool). if c then (named.0, f named.1) ∷ of_names q sets else of_names q sets) g
          ∙ sym (ap (λ (c : Bool). if c then named ∷ of_names q sets else of_names q sets) g)
      by false e rest = ap (λ (l : Sets). if q named.0 then named ∷ l else l) rest

  pub removed_others : (sets : Sets) → of_names q (without_set name sets) ≡ of_names q sets
  removed_others [] = refl
  removed_others (named ∷ sets) = by (pointwise nat_eq name named.0) refl (removed_others sets)
    where
      by : (a : Bool) → pointwise nat_eq name named.0 ≡ a → of_names q (without_set name sets) ≡ of_names q sets
          → of_names q (if a then sets else named ∷ without_set name sets) ≡ of_names q (named ∷ sets)
      by true e rest = sym (ap (λ (c : Bool). if c then named ∷ of_names q sets else of_names q sets) (alike q name named.0 e out))
      by false e rest = ap (λ (l : Sets). if q named.0 then named ∷ l else l) rest

  pub added_others : (d : DataSet) (sets : Sets) → of_names q (sets ++ (name, d) ∷ []) ≡ of_names q sets
  added_others d sets =
      filter-append (λ (named : List ℕ × DataSet). q named.0) sets ((name, d) ∷ [])
      ∙ ap (λ (c : Bool). of_names q sets ++ (if c then (name, d) ∷ [] else [])) out ∙ append-nil (of_names q sets)

pub changed_length : (name : List ℕ) (f : DataSet → DataSet) (sets : Sets) → length (with_changed name f sets) ≡ length sets
changed_length name f [] = refl
changed_length name f (named ∷ sets) = by (pointwise nat_eq name named.0) (changed_length name f sets)
  where
    by : (a : Bool) → length (with_changed name f sets) ≡ length sets
        → length (if a then (named.0, f named.1) ∷ sets else named ∷ with_changed name f sets) ≡ length (named ∷ sets)
    by true rest = refl
    by false rest = ap suc rest

pub removed_length : (name : List ℕ) (sets : Sets) → length (without_set name sets) ≤ length sets
removed_length name [] = omega arith
removed_length name (named ∷ sets) = by (pointwise nat_eq name named.0) (removed_length name sets)
  where
    by : (a : Bool) → length (without_set name sets) ≤ length sets → length (if a then sets else named ∷ without_set name sets) ≤ length (named ∷ sets)
    by true rest = omega arith
    by false rest = omega (arith, rest)

pub added_length : (x : List ℕ × DataSet) (sets : Sets) → length (sets ++ x ∷ []) ≡ suc (length sets)
added_length x [] = refl
added_length x (named ∷ sets) = ap suc (added_length x sets)

pub fewer : {A : Type 0} (p : A → Bool) (xs : List A) → length (filter p xs) ≤ length xs
fewer p [] = omega arith
fewer p (x ∷ xs) = by (p x) (fewer p xs)
  where
    by : (b : Bool) → length (filter p xs) ≤ length xs → length (if b then x ∷ filter p xs else filter p xs) ≤ length (x ∷ xs)
    by true rest = omega (arith, rest)
    by false rest = omega (arith, rest)
