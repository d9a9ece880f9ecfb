-- Values that are exchanged with those of variables, one after the other.
use Rattle.std.proofs.Common.{◌≡◌, ℕ, zero, suc, ◌+◌, ◌<◌, ◌≤◌, nat_eq, nat_lt, Bool, true, false, cond, not, ◌||◌, ◌&&◌, List, [], ◌∷◌, ◌++◌, length, take, drop, set, get_or, drop-cons, Option, None, Some, position, slice_get, refl, sym, ap, ap₂, ◌∙◌, true≢false, arith}
use Rattle.std.{proofs.Math.Seq.{take-suc, take-suc-set}, specs.Prelude.{unwrap_or, is_some, if◌then◌else◌}, specs.List.{list_any, position_or_len}}
use Rattle.std.{proofs.lemmas.List.{append_assoc, append-nil, map-append, length-append, length-map, take-append-drop}, specs.Map.{keys_of, values_of, lookup}}
use Rattle.std.{specs.Cmp.Lexicographic.{pointwise, nat_list_eq_equiv}, proofs.lemmas.Bool.Decides.{nat_tests}}
use Rattle.sno_value.specs.{declared.value.Value.{Value}, Values.{null}}
use Rattle.sno_declarations.specs.{declared.prototype.Prototype.{Prototype}, Prototypes.{names_of, are_different}}
use Rattle.sno_variables.specs.{declared.variable.Variable.{Variable}, Variables.{Variables, holding, variable_of, is_named, value_of, put, given}}
use Rattle.sno_variables.{specs.Bindings.{Bindings, paired, assigned}, proofs.Saved.{saved}, proofs.Looking.{same, found, put_is_found, given_found}}
use Rattle.sno_variables.specs.inner.Exchanging.{values_now, with_value_in, with_value_at, value_in, value_at, after, before, taken_by, undone}
use Rattle.sno_variables.proofs.{Places.{value_there, none_there, place}, Written.{written_there}, Assigned.{other_given}}

-- ONE VALUE

found_in : (name : List ℕ) (vs : Variables) → nat_lt (position_or_len (same name) (keys_of vs)) (length (keys_of vs)) ≡ true → is_some (lookup (same name) vs) ≡ true
found_in name [] within = absurd (true≢false (sym within))
found_in name (e ∷ es) within = by (same name e.0) within (λ h. found_in name es h)
  where
    by : (b : Bool) → nat_lt (cond (not b) (1 + position_or_len (same name) (keys_of es)) 0) (suc (length (keys_of es))) ≡ true
        → (nat_lt (position_or_len (same name) (keys_of es)) (length (keys_of es)) ≡ true → is_some (lookup (same name) es) ≡ true)
        → is_some (cond b (Some e.1) (lookup (same name) es)) ≡ true
    by true h rest = refl
    by false h rest =
        let inside : nat_lt (position_or_len (same name) (keys_of es)) (length (keys_of es)) ≡ true = grind (arith, nat_tests) in
        rest inside

module _ (name : List ℕ) (vs : Variables) (i : ℕ) (w : Value) (at : Some i ≡ position (pointwise nat_eq name) (keys_of vs)) where
  one_there : (o : Option Variable) → slice_get (values_of vs) i ≡ o → is_some o ≡ true → (with_value_in o i w vs ≡ given name w vs) × (value_in o w ≡ value_of name vs)
  one_there None is some = absurd (true≢false (sym some))
  one_there (Some x) is some = (
    written_there name vs i x w at (sym is),
    ap (λ (o : Option Variable). (unwrap_or o (holding null)).value) (sym is ∙ value_there name vs i at),
  )

  there : (with_value_at i w vs ≡ given name w vs) × (value_at i w vs ≡ value_of name vs)
  there =
      let p = place name vs i (sym at) in
      one_there (slice_get (values_of vs) i) refl (ap (λ (o : Option Variable). is_some o) (value_there name vs i at) ∙ found_in name vs p.1)

  pub named_there : true ≡ is_named name vs
  named_there =
      let p = place name vs i (sym at) in
      sym (found_in name vs p.1)

  pub after_there : with_value_at i w vs ≡ after name w vs
  after_there = there.0 ∙ ap (λ (b : Bool). if b then given name w vs else vs) named_there

  pub before_there : value_at i w vs ≡ before name w vs
  before_there = there.1 ∙ ap (λ (b : Bool). if b then value_of name vs else w) named_there

module _ (name : List ℕ) (vs : Variables) (w : Value) (at : None ≡ position (pointwise nat_eq name) (keys_of vs)) where
  pub never_named : false ≡ is_named name vs
  never_named = ap (λ (o : Option Variable). is_some o) (none_there name vs at)

  pub after_none : vs ≡ after name w vs
  after_none = ap (λ (b : Bool). if b then given name w vs else vs) never_named

  pub before_none : w ≡ before name w vs
  before_none = ap (λ (b : Bool). if b then value_of name vs else w) never_named

pub ruleset one_exchanged = (after_there, before_there, after_none, before_none)

-- ONE VALUE, EXCHANGED AGAIN

put_twice : (name : List ℕ) (x y : Variable) (vs : Variables) → put name x (put name y vs) ≡ put name x vs
put_twice name x y [] = ap (λ (b : Bool). if b then (name, x) ∷ [] else (name, y) ∷ (name, x) ∷ []) (nat_list_eq_equiv.refl name)
put_twice name x y (e ∷ es) = by (same name e.0) refl (put_twice name x y es)
  where
    by : (b : Bool) → same name e.0 ≡ b → put name x (put name y es) ≡ put name x es
        → put name x (if b then (e.0, y) ∷ es else e ∷ put name y es) ≡ (if b then (e.0, x) ∷ es else e ∷ put name x es)
    by true h rest = ap (λ (b : Bool). if b then (e.0, x) ∷ es else (e.0, y) ∷ put name x es) h
    by false h rest = ap (λ (b : Bool). if b then (e.0, x) ∷ put name y es else e ∷ put name x (put name y es)) h ∙ ap (λ (l : Variables). e ∷ l) rest

put_same : (name : List ℕ) (vs : Variables) → is_named name vs ≡ true → put name (variable_of name vs) vs ≡ vs
put_same name [] named = absurd (true≢false (sym named))
put_same name (e ∷ es) named = by (same name e.0) named (λ h. put_same name es h)
  where
    by : (b : Bool) → is_some (cond b (Some e.1) (lookup (same name) es)) ≡ true → (is_named name es ≡ true → put name (variable_of name es) es ≡ es)
        → (if b then (e.0, unwrap_or (cond b (Some e.1) (lookup (same name) es)) (holding null)) ∷ es else e ∷ put name (unwrap_or (cond b (Some e.1) (lookup (same name) es)) (holding null)) es) ≡ e ∷ es
    by true h rest = refl
    by false h rest = ap (λ (l : Variables). e ∷ l) (rest h)

module _ (name : List ℕ) (w : Value) (vs : Variables) where
  abbrev new : Variable
  new = record (variable_of name vs) { value = w }

  still_named : is_named name (given name w vs) ≡ true
  still_named = ap (λ (o : Option Variable). is_some o) (found name new vs)

  given_again : is_named name vs ≡ true → given name (value_of name vs) (given name w vs) ≡ vs
  given_again named =
      ap (λ (x : Variable). put name (record x { value = value_of name vs }) (given name w vs)) (put_is_found name new vs)
      ∙ put_twice name (variable_of name vs) new vs ∙ put_same name vs named

  both_again : (before name (before name w vs) (after name w vs) ≡ w) × (after name (before name w vs) (after name w vs) ≡ vs)
  both_again = by (is_named name vs) refl
    where
      by : (b : Bool) → is_named name vs ≡ b
          → (before name (if b then value_of name vs else w) (if b then given name w vs else vs) ≡ w)
          × (after name (if b then value_of name vs else w) (if b then given name w vs else vs) ≡ vs)
      by true h = (
        ap (λ (b : Bool). if b then value_of name (given name w vs) else value_of name vs) still_named ∙ given_found name w vs,
        ap (λ (b : Bool). if b then given name (value_of name vs) (given name w vs) else given name w vs) still_named ∙ given_again h,
      )
      by false h = (
        ap (λ (b : Bool). if b then value_of name vs else w) h,
        ap (λ (b : Bool). if b then given name w vs else vs) h,
      )

-- VALUES, ONE AFTER THE OTHER

set_same : {A : Type 0} (xs : List A) (i : ℕ) (d : A) → set xs i (get_or xs i d) ≡ xs
set_same [] i d = refl
set_same (x ∷ xs) zero d = refl
set_same (x ∷ xs) (suc i) d = ap (λ l. x ∷ l) (set_same xs i d)

set_twice : {A : Type 0} (xs : List A) (i : ℕ) (x y : A) → set (set xs i x) i y ≡ set xs i y
set_twice [] i x y = refl
set_twice (z ∷ xs) zero x y = refl
set_twice (z ∷ xs) (suc i) x y = ap (λ l. z ∷ l) (set_twice xs i x y)

get_set : {A : Type 0} (xs : List A) (i : ℕ) (x d : A) → i < length xs → get_or (set xs i x) i d ≡ x
get_set [] i x d h = absurd (omega (arith, h))
get_set (z ∷ xs) zero x d h = refl
get_set (z ∷ xs) (suc i) x d h = get_set xs i x d (omega (arith, h))

any_default : {A : Type 0} (xs : List A) (i : ℕ) (d e : A) → i < length xs → get_or xs i d ≡ get_or xs i e
any_default [] i d e h = absurd (omega (arith, h))
any_default (z ∷ xs) zero d e h = refl
any_default (z ∷ xs) (suc i) d e h = any_default xs i d e (omega (arith, h))

take_all : {A : Type 0} (xs : List A) (n : ℕ) → length xs ≤ n → take n xs ≡ xs
take_all [] zero h = refl
take_all [] (suc n) h = refl
take_all (x ∷ xs) zero h = absurd (omega arith)
take_all (x ∷ xs) (suc n) h = ap (λ l. x ∷ l) (take_all xs n (omega arith))

drop_set : {A : Type 0} (xs : List A) (i : ℕ) (y : A) → drop (suc i) (set xs i y) ≡ drop (suc i) xs
drop_set [] i y = refl
drop_set (x ∷ xs) zero y = refl
drop_set (x ∷ xs) (suc i) y = drop_set xs i y

drop_all : {A : Type 0} (xs : List A) (n : ℕ) → length xs ≤ n → drop n xs ≡ []
drop_all [] zero h = refl
drop_all [] (suc n) h = refl
drop_all (x ∷ xs) zero h = absurd (omega arith)
drop_all (x ∷ xs) (suc n) h = drop_all xs n (omega arith)

module _ (names : List (List ℕ)) (ws : List Value) (vs : Variables) (i : ℕ) (d : List ℕ) (e : Value) where
  abbrev here : List ℕ
  here = get_or names i d

  abbrev w : Value
  w = get_or ws i e

  abbrev new_values : List Value
  new_values = set ws i (before here w vs)

  abbrev new_variables : Variables
  new_variables = after here w vs

  is_after : is_named here vs ≡ true → after here w vs ≡ given here w vs
  is_after known = ap (λ (b : Bool). if b then given here w vs else vs) known

  is_before : is_named here vs ≡ true → before here w vs ≡ value_of here vs
  is_before known = ap (λ (b : Bool). if b then value_of here vs else w) known

  pub one_assigned : is_named here vs ≡ true → i < length names → i < length ws
      → assigned (paired (drop (i + 1) names) (drop (i + 1) new_values)) new_variables ≡ assigned (paired (drop i names) (drop i ws)) vs
  one_assigned known h k =
      let one : i + 1 ≡ suc i = omega arith in
      ap (λ n. assigned (paired (drop n names) (drop n new_values)) new_variables) one
      ∙ ap₂ (λ (l : List Value) (v : Variables). assigned (paired (drop (suc i) names) l) v) (drop_set ws i (before here w vs)) (is_after known)
      ∙ sym (ap₂ (λ (a : List (List ℕ)) (b : List Value). assigned (paired a b) vs) (drop-cons names i d h) (drop-cons ws i e k))

  pub one_taken : is_named here vs ≡ true → i < length names → i < length ws
      → take (i + 1) new_values ++ taken_by (drop (i + 1) names) (drop (i + 1) new_values) new_variables ≡ take i ws ++ taken_by (drop i names) (drop i ws) vs
  one_taken known h k =
      let one : i + 1 ≡ suc i = omega arith in
      ap (λ n. take n new_values ++ taken_by (drop n names) (drop n new_values) new_variables) one
      ∙ ap₂ (λ a b. a ++ taken_by (drop (suc i) names) b new_variables) (take-suc-set ws i (before here w vs) k) (drop_set ws i (before here w vs))
      ∙ append_assoc (take i ws) (before here w vs ∷ []) (taken_by (drop (suc i) names) (drop (suc i) ws) new_variables)
      ∙ ap₂ (λ (v : Value) (l : Variables). take i ws ++ v ∷ taken_by (drop (suc i) names) (drop (suc i) ws) l) (is_before known) (is_after known)
      ∙ sym (ap (λ l. take i ws ++ l) (ap₂ (λ (a : List (List ℕ)) (b : List Value). taken_by a b vs) (drop-cons names i d h) (drop-cons ws i e k)))

  -- exchanged again at first where one more was exchanged
  pub one_undone : i < length names → i < length ws → undone (i + 1) names new_values new_variables ≡ undone i names ws vs
  one_undone h k =
      let one : i + 1 ≡ suc i = omega arith in
      let again = both_again here w vs in
      let same_name : get_or names i [] ≡ here = any_default names i [] d h in
      let there : get_or new_values i null ≡ before here w vs = get_set ws i (before here w vs) null k in
      ap (λ n. undone n names new_values new_variables) one
      ∙ ap₂ (λ (n : List ℕ) (v : Value). undone i names (set new_values i (before n v new_variables)) (after n v new_variables)) same_name there
      ∙ ap₂ (λ (v : Value) (l : Variables). undone i names (set new_values i v) l) again.0 again.1
      ∙ ap (λ (l : List Value). undone i names l vs) (set_twice ws i (before here w vs) w ∙ set_same ws i e)

  -- nothing to undo where it was never named
  pub none_undone : is_named here vs ≡ false → undone i names new_values new_variables ≡ undone i names ws vs
  none_undone unknown =
      ap (λ (b : Bool). undone i names (set ws i (if b then value_of here vs else w)) (if b then given here w vs else vs)) unknown
      ∙ ap (λ (l : List Value). undone i names l vs) (set_same ws i e)

  -- one further is exchanged again
  pub one_back : i < length names → i < length ws → undone i names new_values new_variables ≡ undone (i + 1) names ws vs
  one_back h k =
      let one : i + 1 ≡ suc i = omega arith in
      sym (ap (λ n. undone n names ws vs) one
      ∙ ap₂ (λ (n : List ℕ) (v : Value). undone i names (set ws i (before n v vs)) (after n v vs)) (any_default names i [] d h) (any_default ws i null e k))

set_length : {A : Type 0} (xs : List A) (i : ℕ) (x : A) → length (set xs i x) ≡ length xs
set_length [] i x = refl
set_length (z ∷ xs) zero x = refl
set_length (z ∷ xs) (suc i) x = ap suc (set_length xs i x)

pub still_as_many : (ws : List Value) (i : ℕ) (v : Value) → length (set ws i v) ≡ length ws
still_as_many ws i v = set_length ws i v

-- one more is exchanged, the value and the variables being as is said of them
pub one_step : (names : List (List ℕ)) (ws : List Value) (vs us : Variables) (i : ℕ) (v : Value) → v ≡ before (get_or names i []) (get_or ws i null) vs
    → us ≡ after (get_or names i []) (get_or ws i null) vs → is_named (get_or names i []) vs ≡ true → i < length names → i < length ws
    → (undone (i + 1) names (set ws i v) us ≡ undone i names ws vs)
    × (assigned (paired (drop (i + 1) names) (drop (i + 1) (set ws i v))) us ≡ assigned (paired (drop i names) (drop i ws)) vs)
    × (take (i + 1) (set ws i v) ++ taken_by (drop (i + 1) names) (drop (i + 1) (set ws i v)) us ≡ take i ws ++ taken_by (drop i names) (drop i ws) vs)
one_step names ws vs us i v taken written known h k = (
  ap₂ (λ (x : Value) (l : Variables). undone (i + 1) names (set ws i x) l) taken written ∙ one_undone names ws vs i [] null h k,
  ap₂ (λ (x : Value) (l : Variables). assigned (paired (drop (i + 1) names) (drop (i + 1) (set ws i x))) l) taken written ∙ one_assigned names ws vs i [] null known h k,
  ap₂ (λ (x : Value) (l : Variables). take (i + 1) (set ws i x) ++ taken_by (drop (i + 1) names) (drop (i + 1) (set ws i x)) l) taken written ∙ one_taken names ws vs i [] null known h k,
)

-- and one is exchanged again
pub one_step_back : (names : List (List ℕ)) (ws : List Value) (vs us : Variables) (i : ℕ) (v : Value) → v ≡ before (get_or names i []) (get_or ws i null) vs
    → us ≡ after (get_or names i []) (get_or ws i null) vs → i < length names → i < length ws → undone i names (set ws i v) us ≡ undone (i + 1) names ws vs
one_step_back names ws vs us i v taken written h k =
    ap₂ (λ (x : Value) (l : Variables). undone i names (set ws i x) l) taken written ∙ one_back names ws vs i [] null h k

pub all_assigned : (names : List (List ℕ)) (ws : List Value) (vs : Variables) (i : ℕ) → length names ≤ i → assigned (paired (drop i names) (drop i ws)) vs ≡ vs
all_assigned names ws vs i h = ap (λ (l : List (List ℕ)). assigned (paired l (drop i ws)) vs) (drop_all names i h)

pub all_taken : (names : List (List ℕ)) (ws : List Value) (vs : Variables) (i : ℕ) → length names ≤ i → take i ws ++ taken_by (drop i names) (drop i ws) vs ≡ ws
all_taken names ws vs i h = ap (λ (l : List (List ℕ)). take i ws ++ taken_by l (drop i ws) vs) (drop_all names i h) ∙ take-append-drop i ws

pub ruleset exchanging = (none_undone, all_assigned, all_taken)

-- WHAT THIS COMES TO

-- a value of another variable stays
others_now : (name : List ℕ) (w : Value) (names : List (List ℕ)) (vs : Variables) → list_any (λ other. pointwise nat_eq other name) names ≡ false → values_now names (given name w vs) ≡ values_now names vs
others_now name w [] vs apart = refl
others_now name w (n ∷ ns) vs apart = by (same n name) refl apart (λ h. others_now name w ns vs h)
  where
    by : (b : Bool) → same n name ≡ b → (b || list_any (λ other. pointwise nat_eq other name) ns) ≡ false
        → (list_any (λ other. pointwise nat_eq other name) ns ≡ false → values_now ns (given name w vs) ≡ values_now ns vs)
        → values_now (n ∷ ns) (given name w vs) ≡ values_now (n ∷ ns) vs
    by true g h rest = absurd (true≢false h)
    by false g h rest = ap₂ (λ (v : Value) (l : List Value). v ∷ l) (other_given n name w vs g) (rest h)

both : (a b : Bool) → (not a && b) ≡ true → (a ≡ false) × (b ≡ true)
both true b h = cc
both false true h = (refl, refl)
both false false h = cc

pub taken_now : (names : List (List ℕ)) (ws : List Value) (vs : Variables) → length ws ≡ length names → are_different names ≡ true → taken_by names ws vs ≡ values_now names vs
taken_now [] [] vs n different = refl
taken_now [] (w ∷ ws) vs n different = cc
taken_now (name ∷ names) [] vs n different = cc
taken_now (name ∷ names) (w ∷ ws) vs n different =
    let apart = both (list_any (λ other. pointwise nat_eq other name) names) (are_different names) different in
    ap (λ (l : List Value). value_of name vs ∷ l) (taken_now names ws (given name w vs) (omega (arith, n)) apart.1 ∙ others_now name w names vs apart.0)

-- WHAT NAMES HAVE

pub saved_pairs : (names : List (List ℕ)) (vs : Variables) → paired names (values_now names vs) ≡ saved names vs
saved_pairs [] vs = refl
saved_pairs (n ∷ ns) vs = ap (λ (bs : Bindings). (n, value_of n vs) ∷ bs) (saved_pairs ns vs)

pub length_now : (names : List (List ℕ)) (vs : Variables) → length (values_now names vs) ≡ length names
length_now names vs = length-map names (λ name. value_of name vs)

-- NAMES AND VALUES, IN THREE PARTS

drop_none : (n : ℕ) → drop {A = Value} n [] ≡ []
drop_none zero = refl
drop_none (suc n) = refl

pub parted : (ps ls : List (List ℕ)) (ws : List Value) → paired ps ws ++ paired ls (drop (length ps) ws) ≡ paired (ps ++ ls) ws
parted [] ls ws = refl
parted (n ∷ ns) ls [] = ap (λ (bs : Bindings). (n, null) ∷ bs) (ap (λ (l : List Value). paired ns [] ++ paired ls l) (sym (drop_none (length ns))) ∙ parted ns ls [])
parted (n ∷ ns) ls (v ∷ ws) = ap (λ (bs : Bindings). (n, v) ∷ bs) (parted ns ls ws)

pub three_parts : (name : List ℕ) (ps ls : List (List ℕ)) (ws : List Value) → (name, unwrap_or (slice_get ws 0) null) ∷ (paired ps (drop 1 ws) ++ (paired ls (drop (1 + length ps) ws) ++ [])) ≡ paired (name ∷ (ps ++ ls)) ws
three_parts name ps ls [] =
    ap (λ (l : List Value). (name, null) ∷ (paired ps [] ++ (paired ls l ++ []))) (drop_none (1 + length ps))
    ∙ ap (λ (bs : Bindings). (name, null) ∷ (paired ps [] ++ bs)) (append-nil (paired ls [])) ∙ ap (λ (bs : Bindings). (name, null) ∷ bs) (nothing_left ∙ parted ps ls [])
  where
    nothing_left : paired ps [] ++ paired ls [] ≡ paired ps [] ++ paired ls (drop (length ps) [])
    nothing_left = ap (λ (l : List Value). paired ps [] ++ paired ls l) (sym (drop_none (length ps)))
three_parts name ps ls (w ∷ ws) =
    let one : 1 + length ps ≡ suc (length ps) = omega arith in
    ap (λ (bs : Bindings). (name, w) ∷ (paired ps ws ++ bs)) (append-nil (paired ls (drop (1 + length ps) (w ∷ ws))))
    ∙ ap (λ (n : ℕ). (name, w) ∷ (paired ps ws ++ paired ls (drop n (w ∷ ws)))) one
    ∙ ap (λ (bs : Bindings). (name, w) ∷ bs) (parted ps ls ws)

pub three_bound : (name : List ℕ) (ps ls : List (List ℕ)) (ws : List Value) (v : Value) (a b c : Bindings) → a ≡ paired ls (drop (1 + length ps) ws) ++ [] → b ≡ paired ps (drop 1 ws) ++ a
    → v ≡ unwrap_or (slice_get ws 0) null → c ≡ (name, v) ∷ b → c ≡ paired (name ∷ (ps ++ ls)) ws
three_bound name ps ls ws v a b c p q r t =
    t ∙ ap₂ (λ (w : Value) (bs : Bindings). (name, w) ∷ bs) r (q ∙ ap (λ (bs : Bindings). paired ps (drop 1 ws) ++ bs) p) ∙ three_parts name ps ls ws

pub behind_first : (p : Prototype) (ws : List Value) → length ws ≡ length (names_of p) → 1 ≤ length ws
behind_first p ws n = omega (arith, n)

pub behind_parameters : (p : Prototype) (ws : List Value) → length ws ≡ length (names_of p) → 1 + length p.parameters ≤ length ws
behind_parameters p ws n = let parts = length-append p.parameters p.locals in omega (arith, n, parts)

pub ruleset binding = (three_bound, three_parts, behind_first, behind_parameters)

-- values are added, one after the other
pub one_more : (names : List (List ℕ)) (at : ℕ) (vs : Variables) (before now : List Value) (d : List ℕ) → at < length names
    → now ≡ before ++ values_now (take at names) vs → now ++ value_of (get_or names at d) vs ∷ [] ≡ before ++ values_now (take (at + 1) names) vs
one_more names at vs before now d within is =
    let one : at + 1 ≡ suc at = omega arith in
    let value : List ℕ → Value = λ name. value_of name vs in
    let more : values_now (take (suc at) names) vs ≡ values_now (take at names) vs ++ value (get_or names at d) ∷ [] =
    ap (λ ns. values_now ns vs) (take-suc names at d within) ∙ map-append value (take at names) (get_or names at d ∷ []) in
    ap (λ l. l ++ value (get_or names at d) ∷ []) is
    ∙ append_assoc before (values_now (take at names) vs) (value (get_or names at d) ∷ [])
    ∙ ap (λ l. before ++ l) (sym more) ∙ ap (λ n. before ++ values_now (take n names) vs) (sym one)

pub none_more : (names : List (List ℕ)) (vs : Variables) (before : List Value) → before ≡ before ++ values_now (take 0 names) vs
none_more names vs before = sym (append-nil before)

pub all_more : (names : List (List ℕ)) (at : ℕ) (vs : Variables) (before now : List Value) → length names ≤ at → now ≡ before ++ values_now (take at names) vs → now ≡ before ++ values_now names vs
all_more names at vs before now past is = is ∙ ap (λ ns. before ++ values_now ns vs) (take_all names at past)

pub three_more : (name : List ℕ) (ps ls : List (List ℕ)) (vs : Variables) → (([] ++ value_of name vs ∷ []) ++ values_now ps vs) ++ values_now ls vs ≡ values_now (name ∷ (ps ++ ls)) vs
three_more name ps ls vs = ap (λ l. value_of name vs ∷ l) (sym (map-append (λ n. value_of n vs) ps ls))

pub ruleset adding = (one_more, none_more, all_more)
