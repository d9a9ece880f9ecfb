-- Kinds of entries, joined, and told by where an entry stands.
use Rattle.std.proofs.Common.{◌≡◌, ◌∙◌, ℕ, suc, ◌+◌, ◌<◌, min, Bool, true, false, cond, not, ◌&&◌, ◌||◌, ◌==◌, List, [], ◌∷◌, length, get_or, take, drop, refl, sym, ap, ap₂, arith, nat_eq, nat_lt, true≢false, Option, None, Some, bytes_eq, All, take-append-drop}
use Rattle.std.specs.{List.{list_any, position_or_len}, Option.{option_map_or, unwrap_or}, Cmp.Lexicographic.{pointwise, nat_list_eq_equiv, texts_ties}}
use Rattle.std.proofs.lemmas.{Bool.Decides.{nat_tests}, List.Folds.{list_any_more, list_any-append}}
use Rattle.mon_acl.specs.{declared.entries.Perms.{Perms}, declared.entries.Tag.{Tag}, declared.entries.Entry.{Entry}, Permissions.{holds}}
use Rattle.mon_acl.specs.declared.entries.Tag.TheVariants.{UserObj, User, GroupObj, Group, Mask, Other}
use Rattle.mon_acl.specs.Entries.{rank, has_tag, qualifier, is_qualified, sort_key, IsEntry}
use Rattle.mon_access.specs.declared.{account.Account.{Account}, finding.Found.{Found}, finding.Found.TheVariants.{Lacking, Holding}}
use Rattle.mon_access.{specs.Matches.{is_in_group, is_for_owning_group, is_for_named_group, is_for_group, some_holds}, proofs.Places.{list_any_by_place}}
use Rattle.mon_access.specs.inner.Kinds.{found, found_of, joined, stands_at, is_for_one_of, is_so_far}

-- ---- kinds that the elements of a list do not tell apart
abbrev Same : {X : Type 0} → (X → Bool) → (X → Bool) → List X → Type 0
Same {X} p q xs = (k : ℕ) (d : X) → k < length xs → p (get_or xs k d) ≡ q (get_or xs k d)

any_same : {X : Type 0} (p q : X → Bool) (xs : List X) → Same p q xs → list_any p xs ≡ list_any q xs
any_same p q [] same = refl
any_same p q (x ∷ xs) same =
    let here : p x ≡ q x = same 0 x (omega arith) in
    ap₂ (λ (a b : Bool). a || b) here (any_same p q xs (λ k d h. same (suc k) d (omega arith)))

place_same : {X : Type 0} (p q : X → Bool) (xs : List X) → Same p q xs → position_or_len p xs ≡ position_or_len q xs
place_same p q [] same = refl
place_same p q (x ∷ xs) same =
    let here : p x ≡ q x = same 0 x (omega arith) in
    ap₂ (λ (a : Bool) (n : ℕ). cond (not a) (1 + n) 0) here (place_same p q xs (λ k d h. same (suc k) d (omega arith)))

pub alike : (p q : Entry → Bool) (es : List Entry) (request : Perms) → Same p q es → found p es request ≡ found q es request
alike p q es request same =
    let h : some_holds p es request ≡ some_holds q es request =
    any_same (λ (e : Entry). p e && holds e.perms request) (λ (e : Entry). q e && holds e.perms request) es
    (λ k d l. ap (λ (b : Bool). b && holds (get_or es k d).perms request) (same k d l)) in
    let a : list_any p es ≡ list_any q es = any_same p q es same in
    ap₂ (λ (h a : Bool). found_of h a (position_or_len p es)) h a
    ∙ ap (found_of (some_holds q es request) (list_any q es)) (place_same p q es same)

-- ---- two kinds together
mixed : (a b c d : Bool) → ((a || b) || (c || d)) ≡ ((a || c) || (b || d))
mixed true b c d = refl
mixed false true true d = refl
mixed false true false d = refl
mixed false false c d = refl

any_or : {X : Type 0} (p q : X → Bool) (xs : List X) → list_any (λ (x : X). p x || q x) xs ≡ (list_any p xs || list_any q xs)
any_or p q [] = refl
any_or p q (x ∷ xs) = ap (λ (b : Bool). (p x || q x) || b) (any_or p q xs) ∙ mixed (p x) (q x) (list_any p xs) (list_any q xs)

spread : (a b h : Bool) → ((a || b) && h) ≡ ((a && h) || (b && h))
spread true true true = refl
spread true true false = refl
spread true false true = refl
spread true false false = refl
spread false b h = refl

place_or : {X : Type 0} (p q : X → Bool) (xs : List X) → position_or_len (λ (x : X). p x || q x) xs ≡ min (position_or_len p xs) (position_or_len q xs)
place_or p q [] = omega arith
place_or p q (x ∷ xs) = by (p x) (q x) (position_or_len p xs) (position_or_len q xs) _ (place_or p q xs)
  where
    by : (a b : Bool) (i j n : ℕ) → n ≡ min i j → cond (not (a || b)) (1 + n) 0 ≡ min (cond (not a) (1 + i) 0) (cond (not b) (1 + j) 0)
    by true true i j n e = omega arith
    by true false i j n e = omega arith
    by false true i j n e = omega arith
    by false false i j n e = omega arith

joining : (g h a b : Bool) (i j n : ℕ) → a ≡ nat_lt i n → b ≡ nat_lt j n → found_of (g || h) (a || b) (min i j) ≡ joined (found_of g a i) (found_of h b j)
joining true h a b i j n p q = refl
joining false true true b i j n p q = refl
joining false true false b i j n p q = refl
joining false false true true i j n p q = refl
joining false false true false i j n p q = let least : min i j ≡ i = grind (arith, nat_tests) in ap Lacking least
joining false false false true i j n p q = let least : min i j ≡ j = grind (arith, nat_tests) in ap Lacking least
joining false false false false i j n p q = refl

pub together : (p q : Entry → Bool) (es : List Entry) (request : Perms) → found (λ (e : Entry). p e || q e) es request ≡ joined (found p es request) (found q es request)
together p q es request =
    let h : some_holds (λ (e : Entry). p e || q e) es request ≡ (some_holds p es request || some_holds q es request) =
    any_same (λ (e : Entry). (p e || q e) && holds e.perms request) (λ (e : Entry). (p e && holds e.perms request) || (q e && holds e.perms request)) es
    (λ k d l. spread (p (get_or es k d)) (q (get_or es k d)) (holds (get_or es k d).perms request))
    ∙ any_or (λ (e : Entry). p e && holds e.perms request) (λ (e : Entry). q e && holds e.perms request) es in
    ap₂ (λ (h a : Bool). found_of h a (position_or_len (λ (e : Entry). p e || q e) es)) h (any_or p q es)
    ∙ ap (found_of (some_holds p es request || some_holds q es request) (list_any p es || list_any q es)) (place_or p q es)
    ∙ joining (some_holds p es request) (some_holds q es request) (list_any p es) (list_any q es) _ _ (length es) (list_any_by_place p es) (list_any_by_place q es)

-- ---- what the sort key of an entry tells
row : ℕ → List ℕ → Entry → Bool
row r name e = (rank e.tag == r) && pointwise nat_eq (qualifier e) name

stands : (r : ℕ) (name : List ℕ) (e : Entry) → stands_at (r ∷ name) e ≡ row r name e
unfolding row
stands r name e = sym (texts_ties (sort_key e) (r ∷ name))

pub user_kind : (name : List ℕ) (e : Entry) → IsEntry e → stands_at (rank User ∷ name) e ≡ (has_tag User e && option_map_or (bytes_eq name) e.name false)
unfolding row
user_kind name e valid = stands (rank User) name e ∙ by e.tag e.name valid
  where
    by : (t : Tag) (o : Option (List ℕ)) → is_qualified t o ≡ true →
        ((rank t == 1) && pointwise nat_eq (unwrap_or o []) name) ≡ ((rank t == 1) && option_map_or (bytes_eq name) o false)
    by UserObj o v = refl
    by User None v = absurd (true≢false (sym v))
    by User (Some m) v = nat_list_eq_equiv.symm m name
    by GroupObj o v = refl
    by Group o v = refl
    by Mask o v = refl
    by Other o v = refl

pub and_true : (b : Bool) → (b && true) ≡ b
and_true true = refl
and_true false = refl

pub and_false : (b : Bool) → (b && false) ≡ false
and_false true = refl
and_false false = refl

pub lone_kind : (t : Tag) (e : Entry) → is_qualified t None ≡ true → IsEntry e → stands_at (rank t ∷ []) e ≡ has_tag t e
unfolding row
lone_kind t e bare valid = stands (rank t) [] e ∙ by e.tag e.name valid
  where
    user : (t : Tag) → is_qualified t None ≡ true → (1 == rank t) ≡ false
    user UserObj v = refl
    user User v = absurd (true≢false (sym v))
    user GroupObj v = refl
    user Group v = refl
    user Mask v = refl
    user Other v = refl

    group : (t : Tag) → is_qualified t None ≡ true → (3 == rank t) ≡ false
    group UserObj v = refl
    group User v = refl
    group GroupObj v = refl
    group Group v = absurd (true≢false (sym v))
    group Mask v = refl
    group Other v = refl

    by : (u : Tag) (o : Option (List ℕ)) → is_qualified u o ≡ true → ((rank u == rank t) && pointwise nat_eq (unwrap_or o []) []) ≡ (rank u == rank t)
    by u None v = and_true (rank u == rank t)
    by UserObj (Some m) v = absurd (true≢false (sym v))
    by User (Some m) v = rw (user t bare) refl
    by GroupObj (Some m) v = absurd (true≢false (sym v))
    by Group (Some m) v = rw (group t bare) refl
    by Mask (Some m) v = absurd (true≢false (sym v))
    by Other (Some m) v = absurd (true≢false (sym v))

none_of : {X : Type 0} (xs : List X) → list_any (λ (x : X). false) xs ≡ false
none_of [] = refl
none_of (x ∷ xs) = none_of xs

named_group : (account : Account) (e : Entry) → IsEntry e → is_for_named_group account e ≡ (stands_at (rank Group ∷ account.primary) e || is_for_one_of account.groups e)
unfolding row
named_group account e valid =
    by e.tag e.name valid
    ∙ sym (ap₂ (λ (a b : Bool). a || b) (stands 3 account.primary e)
    (any_same (λ (name : List ℕ). stands_at (3 ∷ name) e) (λ (name : List ℕ). row 3 name e) account.groups (λ k d h. stands 3 (get_or account.groups k d) e)))
  where
    by : (t : Tag) (o : Option (List ℕ)) → is_qualified t o ≡ true →
        ((rank t == 3) && option_map_or (is_in_group account) o false)
        ≡ (((rank t == 3) && pointwise nat_eq (unwrap_or o []) account.primary) || list_any (λ (name : List ℕ). (rank t == 3) && pointwise nat_eq (unwrap_or o []) name) account.groups)
    by UserObj o v = sym (none_of account.groups)
    by User o v = sym (none_of account.groups)
    by GroupObj o v = sym (none_of account.groups)
    by Group None v = absurd (true≢false (sym v))
    by Group (Some m) v = ap (λ (b : Bool). b || list_any (bytes_eq m) account.groups) (nat_list_eq_equiv.symm account.primary m)
    by Mask o v = sym (none_of account.groups)
    by Other o v = sym (none_of account.groups)

or_assoc : (a b c : Bool) → (a || (b || c)) ≡ ((a || b) || c)
or_assoc true b c = refl
or_assoc false b c = refl

or_false : (a : Bool) → (a || false) ≡ a
or_false true = refl
or_false false = refl

-- ---- the groups of an account, one after the other
module _ (account : Account) (es : List Entry) (request : Perms) (valid : All IsEntry es) where
  pub all_groups : found (is_so_far account account.groups) es request ≡ found (is_for_named_group account) es request
  all_groups =
      alike (is_so_far account account.groups) (is_for_named_group account) es request (λ k d h. sym (named_group account (get_or es k d) (valid k d h)))

  pub no_group : found (stands_at (rank Group ∷ account.primary)) es request ≡ found (is_so_far account []) es request
  no_group = alike (stands_at (rank Group ∷ account.primary)) (is_so_far account []) es request (λ k d h. sym (or_false _))

  pub one_more : (i : ℕ) (name : List ℕ) → i < length account.groups → name ≡ get_or account.groups i name →
      joined (found (is_so_far account (take i account.groups)) es request) (found (stands_at (rank Group ∷ name)) es request)
      ≡ found (is_so_far account (take (i + 1) account.groups)) es request
  one_more i name h is =
      sym (together (is_so_far account (take i account.groups)) (stands_at (rank Group ∷ name)) es request)
      ∙ alike (λ (e : Entry). is_so_far account (take i account.groups) e || stands_at (rank Group ∷ name) e) (is_so_far account (take (i + 1) account.groups)) es request
      (λ k d l. more (get_or es k d))
    where
      more : (e : Entry) → (is_so_far account (take i account.groups) e || stands_at (rank Group ∷ name) e) ≡ is_so_far account (take (i + 1) account.groups) e
      more e =
          let first = stands_at (rank Group ∷ account.primary) e in
          sym (or_assoc first (is_for_one_of (take i account.groups) e) (stands_at (rank Group ∷ name) e))
          ∙ ap (λ (b : Bool). first || b)
          (ap (λ (n : List ℕ). is_for_one_of (take i account.groups) e || stands_at (rank Group ∷ n) e) is
          ∙ sym (list_any_more (λ (n : List ℕ). stands_at (rank Group ∷ n) e) account.groups i name h))

  -- what some of them hold all of them hold
  pub held_already : (i : ℕ) → found (is_so_far account (take i account.groups)) es request ≡ Holding → Holding ≡ found (is_for_named_group account) es request
  held_already i h =
      sym (ap (λ (f : Found). joined f (found (is_for_one_of (drop i account.groups)) es request)) h)
      ∙ sym (together (is_so_far account (take i account.groups)) (is_for_one_of (drop i account.groups)) es request)
      ∙ alike (λ (e : Entry). is_so_far account (take i account.groups) e || is_for_one_of (drop i account.groups) e) (is_so_far account account.groups) es request
      (λ k d l. whole (get_or es k d))
      ∙ all_groups
    where
      whole : (e : Entry) → (is_so_far account (take i account.groups) e || is_for_one_of (drop i account.groups) e) ≡ is_so_far account account.groups e
      whole e =
          let first = stands_at (rank Group ∷ account.primary) e in
          sym (or_assoc first (is_for_one_of (take i account.groups) e) (is_for_one_of (drop i account.groups) e))
          ∙ ap (λ (b : Bool). first || b)
          (sym (list_any-append (λ (n : List ℕ). stands_at (rank Group ∷ n) e) (take i account.groups) (drop i account.groups))
          ∙ ap (λ (names : List (List ℕ)). is_for_one_of names e) (take-append-drop i account.groups))

or_swaps : (a b : Bool) → (a || b) ≡ (b || a)
or_swaps true true = refl
or_swaps true false = refl
or_swaps false true = refl
or_swaps false false = refl

-- ---- the named groups of an account, and then the owning one
module _ (account : Account) (group : List ℕ) (es : List Entry) (request : Perms) where
  pub owning_last : joined (found (is_for_named_group account) es request) (found (is_for_owning_group account group) es request) ≡ found (is_for_group account group) es request
  owning_last =
      sym (together (is_for_named_group account) (is_for_owning_group account group) es request)
      ∙ alike (λ (e : Entry). is_for_named_group account e || is_for_owning_group account group e) (is_for_group account group) es request
      (λ k d h. or_swaps (is_for_named_group account (get_or es k d)) (is_for_owning_group account group (get_or es k d)))

  pub named_hold : Holding ≡ found (is_for_named_group account) es request → Holding ≡ found (is_for_group account group) es request
  named_hold h = ap (λ (f : Found). joined f (found (is_for_owning_group account group) es request)) h ∙ owning_last
