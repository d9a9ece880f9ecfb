-- The table of what stands for each character, made from left to right, and the text that it makes.
use Rattle.std.proofs.Common.{arith, ◌≡◌, ◌≢◌, ℕ, ◌+◌, ◌<◌, List, [], ◌∷◌, ◌++◌, length, get_or, take, set, reverse, map, refl, sym, ap, ◌∙◌, subst, Bool, true, false, cond, ◌==◌, ◌&&◌, get_or-set_same, get_or-set_other}
use Rattle.std.specs.{Prelude.{Some, find, zip, if◌then◌else◌}, List.{list_all}, Option.{option_map_or}}
use Rattle.std.proofs.lemmas.{List.{take_more, length-take, reverse-append}, List.Folds.{list_all-append}, Bool.Decides.{nat_tests}}
use Rattle.mon_text.specs.{Characters.{is_printable}, Lines.{IsLine}}
use Rattle.sno_value.specs.Primitives.{replacement}

zip_last : (us vs : List ℕ) (a b : ℕ) → length us ≡ length vs → zip (us ++ a ∷ []) (vs ++ b ∷ []) ≡ zip us vs ++ (a, b) ∷ []
zip_last [] [] a b e = refl
zip_last [] (y ∷ ys) a b e = absurd (omega arith)
zip_last (x ∷ xs) [] a b e = absurd (omega arith)
zip_last (x ∷ xs) (y ∷ ys) a b e = ap (λ (r : List (ℕ × ℕ)). (x, y) ∷ r) (zip_last xs ys a b (omega arith))

first_pair : (b : Bool) (new c : ℕ) (old : ℕ) (pairs : List (ℕ × ℕ))
    → option_map_or (λ p. p.1) (cond b (Some (old, new)) (find (λ p. p.0 == c) pairs)) c ≡ (if b then new else option_map_or (λ p. p.1) (find (λ p. p.0 == c) pairs) c)
first_pair true new c old pairs = refl
first_pair false new c old pairs = refl

-- one more pair goes before those to its left
last_pair : (us vs : List ℕ) (a b c : ℕ) → length us ≡ length vs → replacement (us ++ a ∷ []) (vs ++ b ∷ []) c ≡ (if a == c then b else replacement us vs c)
last_pair us vs a b c e =
    ap (λ (pairs : List (ℕ × ℕ)). option_map_or (λ p. p.1) (find (λ p. p.0 == c) pairs) c) (ap reverse (zip_last us vs a b e) ∙ reverse-append (zip us vs) ((a, b) ∷ []))
    ∙ first_pair (a == c) b c a (reverse (zip us vs))

one_more : (from to : List ℕ) (i c : ℕ) → i < length from → length from ≡ length to
    → replacement (take (i + 1) from) (take (i + 1) to) c ≡ (if get_or from i 0 == c then get_or to i 0 else replacement (take i from) (take i to) c)
one_more from to i c lt e =
    let first = take_more from i 0 lt in
    let second = take_more to i 0 (omega arith) in
    let fewer : length (take i from) ≡ length (take i to) = simp (length-take) (omega arith) in
    rw (first, second) (last_pair (take i from) (take i to) (get_or from i 0) (get_or to i 0) c fewer)

-- no pairs leave each character as it is
pub unchanged : (c : ℕ) → c ≡ replacement [] [] c
unchanged c = refl

by_code : (table : List ℕ) (old new c before : ℕ) (b : Bool) → (old == c) ≡ b → old < length table → get_or table c 0 ≡ before
    → get_or (set table old new) c 0 ≡ (if b then new else before)
by_code table old new c before true e lt h =
    let same : old ≡ c = grind (arith, nat_tests, e) in
    subst (λ (k : ℕ). get_or (set table old new) k 0 ≡ new) same (get_or-set_same table old new 0 lt)
by_code table old new c before false e lt h =
    let other : c ≢ old = λ (same : c ≡ old). grind (arith, nat_tests, e, same) in
    get_or-set_other table old c new 0 other ∙ h

-- the step of the loop
pub set_one : (table from to : List ℕ) (i c : ℕ) → i < length from → length from ≡ length to → get_or from i 0 < length table
    → get_or table c 0 ≡ replacement (take i from) (take i to) c
    → get_or (set table (get_or from i 0) (get_or to i 0)) c 0 ≡ replacement (take (i + 1) from) (take (i + 1) to) c
set_one table from to i c lt e within h =
    by_code table (get_or from i 0) (get_or to i 0) c (replacement (take i from) (take i to) c) (get_or from i 0 == c) refl within h
    ∙ sym (one_more from to i c lt e)

-- WHAT IS MADE OF A LINE IS A LINE

both : (a b : Bool) → a ≡ true → b ≡ true → (a && b) ≡ true
both true b h k = k
both false b h k = h

first : (a b : Bool) → (a && b) ≡ true → a ≡ true
first true b h = refl
first false b h = h

second : (a b : Bool) → (a && b) ≡ true → b ≡ true
second true b h = h
second false b h = absurd (cc)

pairs_printable : (us vs : List ℕ) → IsLine vs → list_all (λ p. is_printable p.1) (zip us vs) ≡ true
pairs_printable [] vs h = refl
pairs_printable (u ∷ us) [] h = refl
pairs_printable (u ∷ us) (v ∷ vs) h = both (is_printable v) _ (first (is_printable v) _ h) (pairs_printable us vs (second (is_printable v) _ h))

reversed_printable : (pairs : List (ℕ × ℕ)) → list_all (λ p. is_printable p.1) pairs ≡ true → list_all (λ p. is_printable p.1) (reverse pairs) ≡ true
reversed_printable [] h = refl
reversed_printable (p ∷ ps) h =
    ap (list_all (λ (q : ℕ × ℕ). is_printable q.1)) (reverse-append (p ∷ []) ps)
    ∙ (list_all-append (λ (q : ℕ × ℕ). is_printable q.1) (reverse ps) (p ∷ [])
    ∙ both (list_all (λ q. is_printable q.1) (reverse ps)) (is_printable p.1 && true)
    (reversed_printable ps (second (is_printable p.1) _ h)) (both (is_printable p.1) true (first (is_printable p.1) _ h) refl))

one_printable : (b : Bool) (p : ℕ × ℕ) (c : ℕ) (ps : List (ℕ × ℕ)) → is_printable p.1 ≡ true
    → is_printable (option_map_or (λ q. q.1) (find (λ q. q.0 == c) ps) c) ≡ true
    → is_printable (option_map_or (λ q. q.1) (cond b (Some p) (find (λ q. q.0 == c) ps)) c) ≡ true
one_printable true p c ps h k = h
one_printable false p c ps h k = k

found_printable : (c : ℕ) (pairs : List (ℕ × ℕ)) → is_printable c ≡ true → list_all (λ p. is_printable p.1) pairs ≡ true
    → is_printable (option_map_or (λ q. q.1) (find (λ q. q.0 == c) pairs) c) ≡ true
found_printable c [] h all = h
found_printable c (p ∷ ps) h all =
    one_printable (p.0 == c) p c ps (first (is_printable p.1) _ all) (found_printable c ps h (second (is_printable p.1) _ all))

replaced_printable : (from to : List ℕ) (c : ℕ) → IsLine to → is_printable c ≡ true → is_printable (replacement from to c) ≡ true
replaced_printable from to c h k = found_printable c (reverse (zip from to)) k (reversed_printable (zip from to) (pairs_printable from to h))

pub line_of_replaced : (from to text : List ℕ) → IsLine to → IsLine text → IsLine (map (replacement from to) text)
line_of_replaced from to [] h k = refl
line_of_replaced from to (c ∷ cs) h k =
    both (is_printable (replacement from to c)) _ (replaced_printable from to c h (first (is_printable c) _ k)) (line_of_replaced from to cs h (second (is_printable c) _ k))
