-- A change at the place of a name is a change of the set of that name.
use Rattle.std.proofs.Common.{◌≡◌, ℕ, zero, suc, nat_eq, nat_lt, Bool, true, false, cond, not, List, [], ◌∷◌, ◌+◌, length, None, Some, position, refl, sym, ap, subst, ◌∙◌, arith}
use Rattle.std.specs.{List.{position_or_len, IsDistinct}, Cmp.Lexicographic.{pointwise}, Map.{keys_of}}
use Rattle.indexmap.specs.IndexMap.{set_value_at}
use Rattle.mon_acl.specs.declared.entries.Entry.{Entry}
use Rattle.mon_catalogue.specs.{declared.data_set.DataSet.{DataSet}, Sets.{Sets, find_set, IsCatalogue}, Changes.{with_changed, with_acl}}
use Rattle.mon_catalogue.proofs.Shorthand.{listed}

keys_stay : (sets : Sets) (i : ℕ) (set : DataSet) → keys_of (set_value_at sets i set) ≡ keys_of sets
keys_stay [] i set = refl
keys_stay (named ∷ sets) zero set = refl
keys_stay (named ∷ sets) (suc i) set = ap (λ names. named.0 ∷ names) (keys_stay sets i set)

length_stays : (sets : Sets) (i : ℕ) (set : DataSet) → length (set_value_at sets i set) ≡ length sets
length_stays [] i set = refl
length_stays (named ∷ sets) zero set = refl
length_stays (named ∷ sets) (suc i) set = ap suc (length_stays sets i set)

-- whatever is written at a place, it is a catalogue
pub still_catalogue : (sets : Sets) (i : ℕ) (set : DataSet) → IsCatalogue sets → IsCatalogue (set_value_at sets i set)
still_catalogue sets i set is = (
  subst (IsDistinct (pointwise nat_eq)) (sym (keys_stay sets i set)) is.0,
  omega (arith, length_stays sets i set),
)

-- the set at the first place of a name is the set of that name
at_first : (name : List ℕ) (sets : Sets) (set : DataSet)
    → set_value_at sets (position_or_len (pointwise nat_eq name) (keys_of sets)) set ≡ with_changed name (λ _. set) sets
at_first name [] set = refl
at_first name (named ∷ sets) set = by (pointwise nat_eq name named.0) (at_first name sets set)
  where
    by : (b : Bool) → set_value_at sets (position_or_len (pointwise nat_eq name) (keys_of sets)) set ≡ with_changed name (λ _. set) sets
        → set_value_at (named ∷ sets) (cond (not b) (1 + position_or_len (pointwise nat_eq name) (keys_of sets)) 0) set
        ≡ cond b ((named.0, set) ∷ sets) (named ∷ with_changed name (λ _. set) sets)
    by true rest = refl
    by false rest =
        let next : 1 + position_or_len (pointwise nat_eq name) (keys_of sets) ≡ suc (position_or_len (pointwise nat_eq name) (keys_of sets)) = omega arith in
        rw next (ap (λ (l : Sets). named ∷ l) rest)

first_place : {K : Type 0} (test : K → Bool) (ks : List K) (i : ℕ) → position test ks ≡ Some i → position_or_len test ks ≡ i
first_place test ks i = by (nat_lt (position_or_len test ks) (length ks))
  where
    by : (b : Bool) → cond b (Some (position_or_len test ks)) None ≡ Some i → position_or_len test ks ≡ i
    by true e = cc
    by false e = cc

-- what is written at the place of a name is the set of that name
pub with_value_there : (name : List ℕ) (sets : Sets) (i : ℕ) (set : DataSet) → Some i ≡ position (pointwise nat_eq name) (keys_of sets)
    → set_value_at sets i set ≡ with_changed name (λ _. set) sets
with_value_there name sets i set at =
    ap (λ (n : ℕ). set_value_at sets n set) (sym (first_place (pointwise nat_eq name) (keys_of sets) i (sym at))) ∙ at_first name sets set

-- to write the set as it is changed is to change it
pub changed_there : (name : List ℕ) (change : DataSet → DataSet) (sets : Sets) (set : DataSet) → Some set ≡ find_set name sets
    → with_changed name (λ _. change set) sets ≡ with_changed name change sets
changed_there name change [] set = λ at. refl
changed_there name change (named ∷ sets) set = by (pointwise nat_eq name named.0) (changed_there name change sets set)
  where
    by : (same : Bool) → (Some set ≡ find_set name sets → with_changed name (λ _. change set) sets ≡ with_changed name change sets)
        → Some set ≡ cond same (Some named.1) (find_set name sets)
        → cond same ((named.0, change set) ∷ sets) (named ∷ with_changed name (λ _. change set) sets)
        ≡ cond same ((named.0, change named.1) ∷ sets) (named ∷ with_changed name change sets)
    by true rest at = let same : set ≡ named.1 = cc in rw same refl
    by false rest at = ap (λ (l : Sets). named ∷ l) (rest at)

-- where there is none, there is nothing to change
unchanged_where_none : (name : List ℕ) (change : DataSet → DataSet) (sets : Sets) → None ≡ find_set name sets → sets ≡ with_changed name change sets
unchanged_where_none name change [] = λ at. refl
unchanged_where_none name change (named ∷ sets) = by (pointwise nat_eq name named.0) (unchanged_where_none name change sets)
  where
    by : (same : Bool) → (None ≡ find_set name sets → sets ≡ with_changed name change sets)
        → None ≡ cond same (Some named.1) (find_set name sets)
        → named ∷ sets ≡ cond same ((named.0, change named.1) ∷ sets) (named ∷ with_changed name change sets)
    by true rest at = cc
    by false rest at = ap (λ (l : Sets). named ∷ l) (rest at)

-- these for a set's list
pub with_list_there : (name : List ℕ) (sets : Sets) (set : DataSet) (acl : List Entry) → Some set ≡ find_set name sets
    → with_changed name (λ _. listed acl set) sets ≡ with_acl name acl sets
with_list_there name sets set acl = changed_there name (listed acl) sets set

pub without_list_there : (name : List ℕ) (sets : Sets) (acl : List Entry) → None ≡ find_set name sets → sets ≡ with_acl name acl sets
without_list_there name sets acl = unchanged_where_none name (listed acl) sets

pub ruleset changes = (with_list_there, without_list_there)
