-- What a change of one set makes of the look-ups and the names.
use Rattle.std.proofs.Common.{◌≡◌, ◌≢◌, ℕ, nat_eq, Bool, true, false, cond, not, filter, List, [], ◌∷◌, None, Some, Option, option_map, refl, sym, ap, subst, ◌∙◌}
use Rattle.std.specs.{List.{AllByRecursion}, Cmp.Lexicographic.{pointwise, bytes_decides, nat_list_eq_equiv}, Map.{keys_of}}
use Rattle.std.proofs.lemmas.Map.{lookup-remove_entry, Keys.{IsDistinct-head, IsDistinct-tail}}
use Rattle.mon_catalogue.specs.{declared.data_set.DataSet.{DataSet}, Sets.{Sets, find_set, NamesDiffer}, Changes.{without_set, with_changed}}
use Rattle.mon_catalogue.specs.Laws.{OtherSetsStay, NamedSetChanges, OrderStays}

-- a name that is another's is no key of it
apart : (name other key : List ℕ) → other ≢ name → pointwise nat_eq name key ≡ true → pointwise nat_eq other key ≡ false
apart name other key differ same = by (pointwise nat_eq other key) refl
  where
    by : (b : Bool) → pointwise nat_eq other key ≡ b → b ≡ false
    by true e = absurd (differ ((bytes_decides other key).0 e ∙ sym ((bytes_decides name key).0 same)))
    by false e = refl

others_without : (name other : List ℕ) → other ≢ name → (sets : Sets) → find_set other (without_set name sets) ≡ find_set other sets
others_without name other differ [] = refl
others_without name other differ (named ∷ sets) = by (pointwise nat_eq name named.0) refl (others_without name other differ sets)
  where
    by : (b : Bool) → pointwise nat_eq name named.0 ≡ b → find_set other (without_set name sets) ≡ find_set other sets
        → find_set other (cond b sets (named ∷ without_set name sets)) ≡ find_set other (named ∷ sets)
    by true e rest = sym (ap (λ (b : Bool). cond b (Some named.1) (find_set other sets)) (apart name other named.0 differ e))
    by false e rest = ap (λ (o : Option DataSet). cond (pointwise nat_eq other named.0) (Some named.1) o) rest

others_changed : (name other : List ℕ) → other ≢ name → (change : DataSet → DataSet) (sets : Sets) → find_set other (with_changed name change sets) ≡ find_set other sets
others_changed name other differ change [] = refl
others_changed name other differ change (named ∷ sets) = by (pointwise nat_eq name named.0) refl (others_changed name other differ change sets)
  where
    by : (b : Bool) → pointwise nat_eq name named.0 ≡ b → find_set other (with_changed name change sets) ≡ find_set other sets
        → find_set other (cond b ((named.0, change named.1) ∷ sets) (named ∷ with_changed name change sets)) ≡ find_set other (named ∷ sets)
    by true e rest =
        let no = apart name other named.0 differ e in
        ap (λ (b : Bool). cond b (Some (change named.1)) (find_set other sets)) no ∙ sym (ap (λ (b : Bool). cond b (Some named.1) (find_set other sets)) no)
    by false e rest = ap (λ (o : Option DataSet). cond (pointwise nat_eq other named.0) (Some named.1) o) rest

pub other_sets_stay : OtherSetsStay
other_sets_stay name other sets change differ = (others_without name other differ sets, others_changed name other differ change sets)

named_without : (name : List ℕ) (sets : Sets) → NamesDiffer sets → find_set name (without_set name sets) ≡ None
named_without name sets differ =
    lookup-remove_entry nat_list_eq_equiv (pointwise nat_eq name) (λ x y. nat_list_eq_equiv.congr name x y) name sets differ
    ∙ ap (λ (b : Bool). cond b None (find_set name sets)) (nat_list_eq_equiv.refl name)

named_changed : (name : List ℕ) (change : DataSet → DataSet) (sets : Sets) → find_set name (with_changed name change sets) ≡ option_map change (find_set name sets)
named_changed name change [] = refl
named_changed name change (named ∷ sets) = by (pointwise nat_eq name named.0) refl (named_changed name change sets)
  where
    by : (b : Bool) → pointwise nat_eq name named.0 ≡ b → find_set name (with_changed name change sets) ≡ option_map change (find_set name sets)
        → find_set name (cond b ((named.0, change named.1) ∷ sets) (named ∷ with_changed name change sets)) ≡ option_map change (cond b (Some named.1) (find_set name sets))
    by true e rest = ap (λ (b : Bool). cond b (Some (change named.1)) (find_set name sets)) e
    by false e rest = ap (λ (b : Bool). cond b (Some named.1) (find_set name (with_changed name change sets))) e ∙ rest

pub named_set_changes : NamedSetChanges
named_set_changes name sets change = (named_without name sets, named_changed name change sets)

-- where no name passes, all are left
all_left : (name : List ℕ) (names : List (List ℕ)) → AllByRecursion (λ y. pointwise nat_eq name y ≡ false) names
    → names ≡ filter (λ other. not (pointwise nat_eq name other)) names
all_left name [] none = refl
all_left name (first ∷ names) none =
    let others = filter (λ other. not (pointwise nat_eq name other)) names in
    ap (λ (l : List (List ℕ)). first ∷ l) (all_left name names none.1) ∙ sym (ap (λ (b : Bool). cond (not b) (first ∷ others) others) none.0)

names_without : (name : List ℕ) (sets : Sets) → NamesDiffer sets → keys_of (without_set name sets) ≡ filter (λ other. not (pointwise nat_eq name other)) (keys_of sets)
names_without name [] differ = refl
names_without name (named ∷ sets) differ = by (pointwise nat_eq name named.0) refl (names_without name sets (IsDistinct-tail (pointwise nat_eq) named.0 (keys_of sets) differ))
  where
    by : (b : Bool) → pointwise nat_eq name named.0 ≡ b
        → keys_of (without_set name sets) ≡ filter (λ other. not (pointwise nat_eq name other)) (keys_of sets)
        → keys_of (cond b sets (named ∷ without_set name sets))
        ≡ cond (not b) (named.0 ∷ filter (λ other. not (pointwise nat_eq name other)) (keys_of sets)) (filter (λ other. not (pointwise nat_eq name other)) (keys_of sets))
    by true e rest =
        let same = (bytes_decides name named.0).0 e in
        all_left name (keys_of sets)
        (subst (λ (n : List ℕ). AllByRecursion (λ y. pointwise nat_eq n y ≡ false) (keys_of sets)) (sym same)
        (IsDistinct-head (pointwise nat_eq) named.0 (keys_of sets) differ))
    by false e rest = ap (λ (l : List (List ℕ)). named.0 ∷ l) rest

names_changed : (name : List ℕ) (change : DataSet → DataSet) (sets : Sets) → keys_of (with_changed name change sets) ≡ keys_of sets
names_changed name change [] = refl
names_changed name change (named ∷ sets) = by (pointwise nat_eq name named.0) (names_changed name change sets)
  where
    by : (b : Bool) → keys_of (with_changed name change sets) ≡ keys_of sets
        → keys_of (cond b ((named.0, change named.1) ∷ sets) (named ∷ with_changed name change sets)) ≡ keys_of (named ∷ sets)
    by true rest = refl
    by false rest = ap (λ (l : List (List ℕ)). named.0 ∷ l) rest

pub order_stays : OrderStays
order_stays name sets change = (names_without name sets, names_changed name change sets)
