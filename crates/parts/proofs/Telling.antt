-- The tests tell splits.
use Rattle.std.proofs.Common.{◌≡◌, ℕ, zero, suc, nat_eq, ◌<◌, ◌≤◌, max, Bool, true, false, cond, List, [], ◌∷◌, ◌++◌, length, Option, Some, None, refl, sym, ap, ◌∙◌, map, arith}
use Rattle.std.specs.{Prelude.{nat_lt, ◌==◌, ◌&&◌, ◌||◌, not, unwrap_or, slice_get}, List.{list_all, list_any, AllByRecursion, IsDistinct}}
use Rattle.std.specs.{Map.{lookup, keys_of}, Cmp.Lexicographic.{pointwise, bytes_decides}}
use Rattle.std.proofs.{lemmas.Bool.Decides.{nat_tests}, Math.Nat.{le-max_right}, lemmas.List.{length-append}, lemmas.List.Folds.{list_all-map}}
use Rattle.std.proofs.lemmas.Map.Keys.{IsDistinct-head, IsDistinct-tail}
use Rattle.parts_laws.specs.Runs.{GoWithNames}
use Rattle.parts.specs.{Told.{Told}, Splits.{speaks, goes, numbered, AreWithin}, declared.text.Text.{Text}}
use Rattle.parts.specs.inner.Tests.{goes_along, all_in, name_goes, are_within}

both : (a b : Bool) → (a && b) ≡ true → (a ≡ true) × (b ≡ true)
both true b h = (refl, h)
both false b h = absurd (let c : false ≡ true = h in cc)

same_number : (n m : ℕ) → (n == m) ≡ true → n ≡ m
same_number n m h = grind (arith, nat_tests, h)

-- A NAME OF A TEXT

module _ (told : Told) (part : ℕ) where
  named_goes : (names : List (List ℕ)) → list_all (name_goes told part) names ≡ true → (other : List ℕ)
      → list_any (λ name. pointwise nat_eq name other) names ≡ true → (goes told).of_name other ≡ part
  named_goes [] h other spoken = absurd (let c : false ≡ true = spoken in cc)
  named_goes (name ∷ names) h other spoken =
      let here = both (name_goes told part name) (list_all (name_goes told part) names) h in
      by (pointwise nat_eq name other) refl here.0 (named_goes names here.1 other) spoken
    where
      by : (b : Bool) → pointwise nat_eq name other ≡ b → name_goes told part name ≡ true
          → (list_any (λ name. pointwise nat_eq name other) names ≡ true → (goes told).of_name other ≡ part)
          → (b || list_any (λ name. pointwise nat_eq name other) names) ≡ true → (goes told).of_name other ≡ part
      by true e goes_so rest spoken =
          ap (λ (n : List ℕ). (goes told).of_name n) (sym ((bytes_decides name other).0 e)) ∙ same_number ((goes told).of_name name) part goes_so
      by false e goes_so rest spoken = rest spoken

  -- whatever the names of the split
  any_goes : (0 ≡ part) → (names : List (List ℕ × ℕ)) → list_all (λ e. e.1 == part) names ≡ true → (name : List ℕ)
      → unwrap_or (lookup (pointwise nat_eq name) names) 0 ≡ part
  any_goes zero_is [] h name = zero_is
  any_goes zero_is (e ∷ names) h name =
      let here = both (e.1 == part) (list_all (λ e. e.1 == part) names) h in
      by (pointwise nat_eq name e.0) (same_number e.1 part here.0) (any_goes zero_is names here.1 name)
    where
      by : (b : Bool) → e.1 ≡ part → unwrap_or (lookup (pointwise nat_eq name) names) 0 ≡ part
          → unwrap_or (cond b (Some e.1) (lookup (pointwise nat_eq name) names)) 0 ≡ part
      by true own rest = own
      by false own rest = rest

sound_one : (told : Told) (text : Text) → goes_along told text ≡ true → (other : List ℕ) → speaks text other ≡ true → (goes told).of_name other ≡ (goes told).of_text text.number
sound_one told text h other spoken =
    let part = (goes told).of_text text.number in
    let parts = both (list_all (name_goes told part) text.names.items) (not text.all || all_in told part) h in
    by text.all parts.0 parts.1 spoken
  where
    by : (all : Bool) → list_all (name_goes told ((goes told).of_text text.number)) text.names.items ≡ true → (not all || all_in told ((goes told).of_text text.number)) ≡ true
        → (all || list_any (λ name. pointwise nat_eq name other) text.names.items) ≡ true → (goes told).of_name other ≡ (goes told).of_text text.number
    by true names all spoken =
        let part = (goes told).of_text text.number in
        let here = both (part == 0) (list_all (λ e. e.1 == part) told.names) all in
        any_goes told part (sym (same_number part 0 here.0)) told.names here.1 other
    by false names all spoken = named_goes told ((goes told).of_text text.number) text.names.items names other spoken

pub sound : (told : Told) (texts : List Text) → list_all (goes_along told) texts ≡ true → GoWithNames speaks (goes told) (map numbered texts)
sound told [] h = tt
sound told (text ∷ texts) h =
    let here = both (goes_along told text) (list_all (goes_along told) texts) h in
    (sound_one told text here.0, sound told texts here.1)

-- THE OTHER WAY ROUND

joins : (a b : Bool) → a ≡ true → b ≡ true → (a && b) ≡ true
joins true b h g = g
joins false b h g = absurd (let c : false ≡ true = h in cc)

of_first : (a b : Bool) → a ≡ true → (a || b) ≡ true
of_first true b h = refl
of_first false b h = absurd (let c : false ≡ true = h in cc)

of_second : (a b : Bool) → b ≡ true → (a || b) ≡ true
of_second true b h = refl
of_second false b h = h

as_test : (n m : ℕ) → n ≡ m → (n == m) ≡ true
as_test n m h = grind (arith, nat_tests, h)

module _ (told : Told) (part : ℕ) where
  names_go_back : (names : List (List ℕ)) → ((other : List ℕ) → list_any (λ name. pointwise nat_eq name other) names ≡ true → (goes told).of_name other ≡ part)
      → list_all (name_goes told part) names ≡ true
  names_go_back [] h = refl
  names_go_back (name ∷ names) h =
      joins (name_goes told part name) (list_all (name_goes told part) names)
      (as_test ((goes told).of_name name) part (h name (of_first (pointwise nat_eq name name) (list_any (λ n. pointwise nat_eq n name) names) ((bytes_decides name name).1 refl))))
      (names_go_back names (λ other e. h other (of_second (pointwise nat_eq name other) (list_any (λ n. pointwise nat_eq n other) names) e)))

-- a name that is longer than all of a split's is none of them
abbrev all_letters : List (List ℕ × ℕ) → List ℕ
all_letters [] = 0 ∷ []
all_letters (e ∷ names) = e.0 ++ all_letters names

some_letters : (names : List (List ℕ × ℕ)) → 1 ≤ length (all_letters names)
some_letters [] = omega arith
some_letters (e ∷ names) = let both = length-append e.0 (all_letters names) in let rest = some_letters names in omega (arith, both, rest)

absent : (name : List ℕ) (names : List (List ℕ × ℕ)) → length (all_letters names) ≤ length name → lookup (pointwise nat_eq name) names ≡ None
absent name [] long = refl
absent name (e ∷ names) long =
    let both = length-append e.0 (all_letters names) in
    let some = some_letters names in
    by (pointwise nat_eq name e.0) refl (absent name names (omega (arith, long, both))) (omega (arith, long, both, some))
  where
    by : (b : Bool) → pointwise nat_eq name e.0 ≡ b → lookup (pointwise nat_eq name) names ≡ None → length e.0 < length name
        → cond b (Some e.1) (lookup (pointwise nat_eq name) names) ≡ None
    by true same rest longer = absurd (let is : length name ≡ length e.0 = ap (λ (n : List ℕ). length n) ((bytes_decides name e.0).0 same) in omega (arith, is, longer))
    by false same rest longer = rest

other_stays : (told : List (List ℕ × ℕ)) (name : List ℕ) (part : ℕ) (key : List ℕ) → pointwise nat_eq name key ≡ false
    → unwrap_or (lookup (pointwise nat_eq key) ((name, part) ∷ told)) 0 ≡ unwrap_or (lookup (pointwise nat_eq key) told) 0
other_stays told name part key apart = by (pointwise nat_eq key name) refl
  where
    by : (b : Bool) → pointwise nat_eq key name ≡ b → unwrap_or (cond b (Some part) (lookup (pointwise nat_eq key) told)) 0 ≡ unwrap_or (lookup (pointwise nat_eq key) told) 0
    by true same = absurd (let turned : pointwise nat_eq name key ≡ true = (bytes_decides name key).1 (sym ((bytes_decides key name).0 same)) in
        let c : true ≡ false = sym turned ∙ apart in cc)
    by false same = refl

-- each key has its own part
own_parts : (part : ℕ) (names : List (List ℕ × ℕ)) → IsDistinct (pointwise nat_eq) (keys_of names)
    → AllByRecursion (λ key. unwrap_or (lookup (pointwise nat_eq key) names) 0 ≡ part) (keys_of names) → list_all (λ e. e.1 == part) names ≡ true
own_parts part [] apart h = refl
own_parts part (e ∷ names) apart h =
    joins (e.1 == part) (list_all (λ e. e.1 == part) names)
    (as_test e.1 part (sym (ap (λ (b : Bool). unwrap_or (cond b (Some e.1) (lookup (pointwise nat_eq e.0) names)) 0) ((bytes_decides e.0 e.0).1 refl)) ∙ h.0))
    (own_parts part names (IsDistinct-tail (pointwise nat_eq) e.0 (keys_of names) apart)
    (later (keys_of names) (IsDistinct-head (pointwise nat_eq) e.0 (keys_of names) apart) h.1))
  where
    later : (keys : List (List ℕ)) → AllByRecursion (λ key. pointwise nat_eq e.0 key ≡ false) keys
        → AllByRecursion (λ key. unwrap_or (lookup (pointwise nat_eq key) (e ∷ names)) 0 ≡ part) keys
        → AllByRecursion (λ key. unwrap_or (lookup (pointwise nat_eq key) names) 0 ≡ part) keys
    later [] apart h = tt
    later (key ∷ keys) apart h = (sym (other_stays names e.0 e.1 key apart.0) ∙ h.0, later keys apart.1 h.1)

each : (P : List ℕ → Type 0) → ((name : List ℕ) → P name) → (keys : List (List ℕ)) → AllByRecursion P keys
each P h [] = tt
each P h (key ∷ keys) = (h key, each P h keys)

all_back : (told : Told) (part : ℕ) → IsDistinct (pointwise nat_eq) (keys_of told.names) → ((name : List ℕ) → (goes told).of_name name ≡ part) → all_in told part ≡ true
all_back told part apart h =
    let none = absent (all_letters told.names) told.names (omega arith) in
    let zero_is : part ≡ 0 = sym (h (all_letters told.names)) ∙ ap (λ (o : Option ℕ). unwrap_or o 0) none in
    joins (part == 0) (list_all (λ e. e.1 == part) told.names) (as_test part 0 zero_is)
    (own_parts part told.names apart (each (λ key. unwrap_or (lookup (pointwise nat_eq key) told.names) 0 ≡ part) h (keys_of told.names)))

complete_one : (told : Told) (text : Text) → IsDistinct (pointwise nat_eq) (keys_of told.names)
    → ((name : List ℕ) → speaks text name ≡ true → (goes told).of_name name ≡ (goes told).of_text text.number) → goes_along told text ≡ true
complete_one told text apart h =
    let part = (goes told).of_text text.number in
    joins (list_all (name_goes told part) text.names.items) (not text.all || all_in told part)
    (names_go_back told part text.names.items (λ other e. h other (of_second text.all (list_any (λ name. pointwise nat_eq name other) text.names.items) e)))
    (by text.all refl)
  where
    by : (all : Bool) → text.all ≡ all → (not all || all_in told ((goes told).of_text text.number)) ≡ true
    by false e = refl
    by true e = all_back told ((goes told).of_text text.number) apart
        (λ name. h name (of_first text.all (list_any (λ n. pointwise nat_eq n name) text.names.items) e))

pub complete : (told : Told) → IsDistinct (pointwise nat_eq) (keys_of told.names) → (texts : List Text)
    → GoWithNames speaks (goes told) (map numbered texts) → list_all (goes_along told) texts ≡ true
complete told apart [] h = refl
complete told apart (text ∷ texts) h =
    joins (goes_along told text) (list_all (goes_along told) texts) (complete_one told text apart h.0) (complete told apart texts h.1)

-- what the values are, is told of the entries
pub values_in : (part : ℕ) (names : List (List ℕ × ℕ)) → list_all (λ own. own == part) (map (λ e. e.1) names) ≡ list_all (λ e. e.1 == part) names
values_in part names = list_all-map (λ own. own == part) (λ e. e.1) names

pub values_below : (most : ℕ) (names : List (List ℕ × ℕ)) → list_all (λ part. nat_lt part most) (map (λ e. e.1) names) ≡ list_all (λ e. nat_lt e.1 most) names
values_below most names = list_all-map (λ part. nat_lt part most) (λ e. e.1) names

-- HOW MANY PARTS

is_less : (n m : ℕ) → nat_lt n m ≡ true → n < m
is_less n m h = grind (arith, nat_tests, h)

module _ (most : ℕ) (some : 0 < most) where
  texts_are : (texts : List ℕ) → list_all (λ part. nat_lt part most) texts ≡ true → (n : ℕ) → unwrap_or (slice_get texts n) 0 < most
  texts_are [] h n = some
  texts_are (part ∷ texts) h zero = is_less part most (both (nat_lt part most) (list_all (λ p. nat_lt p most) texts) h).0
  texts_are (part ∷ texts) h (suc n) = texts_are texts (both (nat_lt part most) (list_all (λ p. nat_lt p most) texts) h).1 n

  names_are : (names : List (List ℕ × ℕ)) → list_all (λ e. nat_lt e.1 most) names ≡ true → (name : List ℕ) → unwrap_or (lookup (pointwise nat_eq name) names) 0 < most
  names_are [] h name = some
  names_are (e ∷ names) h name =
      let here = both (nat_lt e.1 most) (list_all (λ e. nat_lt e.1 most) names) h in
      by (pointwise nat_eq name e.0) (is_less e.1 most here.0) (names_are names here.1 name)
    where
      by : (b : Bool) → e.1 < most → unwrap_or (lookup (pointwise nat_eq name) names) 0 < most
          → unwrap_or (cond b (Some e.1) (lookup (pointwise nat_eq name) names)) 0 < most
      by true own rest = own
      by false own rest = rest

  pub within : (told : Told) → are_within most told ≡ true → AreWithin most told
  within told h =
      let here = both (list_all (λ part. nat_lt part most) told.texts) (list_all (λ e. nat_lt e.1 most) told.names) h in
      record { texts = texts_are told.texts here.0; names = names_are told.names here.1 }

-- with at least one
pub within_some : (most : ℕ) (told : Told) → are_within (max most 1) told ≡ true → AreWithin (max most 1) told
within_some most told h = let some = le-max_right most 1 in within (max most 1) (omega (arith, some)) told h

-- ALL IN ONE

abbrev in_one : Told
in_one = record { texts = []; names = [] }

pub one_goes : (told : Told) → told ≡ in_one → (texts : List Text) → GoWithNames speaks (goes told) (map numbered texts)
one_goes told is [] = tt
one_goes told is (text ∷ texts) =
    (λ name spoken. ap (λ (t : Told). (goes t).of_name name) is ∙ sym (ap (λ (t : Told). (goes t).of_text text.number) is), one_goes told is texts)

pub one_within : (most : ℕ) (told : Told) → told ≡ in_one → AreWithin (max most 1) told
one_within most told is = let some = le-max_right most 1 in record {
  texts = λ n. (let here : (goes told).of_text n ≡ 0 = ap (λ (t : Told). (goes t).of_text n) is in omega (arith, some, here));
  names = λ name. (let here : (goes told).of_name name ≡ 0 = ap (λ (t : Told). (goes t).of_name name) is in omega (arith, some, here));
}
