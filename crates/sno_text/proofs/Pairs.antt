-- Parentheses in pairs: what is counted is what is told character by character.
use Rattle.std.proofs.Common.{arith, ◌≡◌, ℕ, zero, suc, ◌+◌, ◌≤◌, ◌<◌, List, [], ◌∷◌, refl, sym, ap, ◌∙◌, length, take_all}
use Rattle.std.specs.{Prelude.{Bool, true, false, ◌&&◌, take, nat_eq, nat_le, if◌then◌else◌, cond}, List.{filter, list_all, range_with_len}}
use Rattle.std.proofs.lemmas.Bool.{eqb-true, Decides.{nat_tests}}
use Rattle.sno_text.specs.{Balance.{times, in_pairs}, inner.Reaching.{closes}}

-- so many `(` more than `)`, of which the text opens all but k, and no beginning of it has k more `)` than `(`
abbrev InPairs : ℕ → List ℕ → Type 0
InPairs k t = (times 41 t ≡ k + times 40 t) × ((n : ℕ) → times 41 (take n t) ≤ k + times 40 (take n t))

-- no character is both
apart : (x : ℕ) → nat_eq x 40 ≡ true → nat_eq x 41 ≡ true → ⊥
apart x a b = let d : x ≡ 40 = eqb-true x 40 a in let e : x ≡ 41 = eqb-true x 41 b in omega (arith, d, e)

counted : (c x : ℕ) (xs : List ℕ) → nat_eq x c ≡ true → times c (x ∷ xs) ≡ suc (times c xs)
counted c x xs e = ap (λ (b : Bool). length (cond b (x ∷ filter (λ y. nat_eq y c) xs) (filter (λ y. nat_eq y c) xs))) e

passed : (c x : ℕ) (xs : List ℕ) → nat_eq x c ≡ false → times c (x ∷ xs) ≡ times c xs
passed c x xs e = ap (λ (b : Bool). length (cond b (x ∷ filter (λ y. nat_eq y c) xs) (filter (λ y. nat_eq y c) xs))) e

-- a `(`, a `)` and any other character before a text
opens : (k x : ℕ) (xs : List ℕ) → nat_eq x 40 ≡ true → nat_eq x 41 ≡ false → InPairs (suc k) xs → InPairs k (x ∷ xs)
opens k x xs a b r = (let h = counted 40 x xs a in let i = passed 41 x xs b in let j = r.0 in omega (arith, h, i, j), le)
  where
    le : (n : ℕ) → times 41 (take n (x ∷ xs)) ≤ k + times 40 (take n (x ∷ xs))
    le zero = omega arith
    le (suc n) = let h = counted 40 x (take n xs) a in let i = passed 41 x (take n xs) b in let j = r.1 n in omega (arith, h, i, j)

shuts : (k x : ℕ) (xs : List ℕ) → nat_eq x 40 ≡ false → nat_eq x 41 ≡ true → InPairs k xs → InPairs (suc k) (x ∷ xs)
shuts k x xs a b r = (let h = passed 40 x xs a in let i = counted 41 x xs b in let j = r.0 in omega (arith, h, i, j), le)
  where
    le : (n : ℕ) → times 41 (take n (x ∷ xs)) ≤ suc k + times 40 (take n (x ∷ xs))
    le zero = omega arith
    le (suc n) = let h = passed 40 x (take n xs) a in let i = counted 41 x (take n xs) b in let j = r.1 n in omega (arith, h, i, j)

others : (k x : ℕ) (xs : List ℕ) → nat_eq x 40 ≡ false → nat_eq x 41 ≡ false → InPairs k xs → InPairs k (x ∷ xs)
others k x xs a b r = (let h = passed 40 x xs a in let i = passed 41 x xs b in let j = r.0 in omega (arith, h, i, j), le)
  where
    le : (n : ℕ) → times 41 (take n (x ∷ xs)) ≤ k + times 40 (take n (x ∷ xs))
    le zero = omega arith
    le (suc n) = let h = passed 40 x (take n xs) a in let i = passed 41 x (take n xs) b in let j = r.1 n in omega (arith, h, i, j)

closed : (k : ℕ) (t : List ℕ) → closes k t ≡ true → InPairs k t
closed zero [] e = (refl, λ n. none n)
  where
    none : (n : ℕ) → times 41 (take n []) ≤ 0 + times 40 (take n [])
    none zero = omega arith
    none (suc n) = omega arith
closed (suc k) [] e = let z : ⊥ = cc in absurd z
closed zero (x ∷ xs) e = at (nat_eq x 40) (nat_eq x 41) refl refl e (λ d. closed 1 xs d) (λ d. closed 0 xs d)
  where
    at : (p q : Bool) → nat_eq x 40 ≡ p → nat_eq x 41 ≡ q → (if p then closes 1 xs else if q then false else closes zero xs) ≡ true
        → (closes 1 xs ≡ true → InPairs 1 xs) → (closes 0 xs ≡ true → InPairs 0 xs) → InPairs 0 (x ∷ xs)
    at true true a b d on same = absurd (apart x a b)
    at true false a b d on same = opens 0 x xs a b (on d)
    at false true a b d on same = let z : ⊥ = cc in absurd z
    at false false a b d on same = others 0 x xs a b (same d)
closed (suc k) (x ∷ xs) e = at (nat_eq x 40) (nat_eq x 41) refl refl e (λ d. closed (suc (suc k)) xs d) (λ d. closed k xs d) (λ d. closed (suc k) xs d)
  where
    at : (p q : Bool) → nat_eq x 40 ≡ p → nat_eq x 41 ≡ q → (if p then closes (suc (suc k)) xs else if q then closes k xs else closes (suc k) xs) ≡ true
        → (closes (suc (suc k)) xs ≡ true → InPairs (suc (suc k)) xs) → (closes k xs ≡ true → InPairs k xs)
        → (closes (suc k) xs ≡ true → InPairs (suc k) xs) → InPairs (suc k) (x ∷ xs)
    at true true a b d on off same = absurd (apart x a b)
    at true false a b d on off same = opens (suc k) x xs a b (on d)
    at false true a b d on off same = shuts k x xs a b (off d)
    at false false a b d on off same = others (suc k) x xs a b (same d)

-- and back
opened : (k x : ℕ) (xs : List ℕ) → nat_eq x 40 ≡ true → nat_eq x 41 ≡ false → InPairs k (x ∷ xs) → InPairs (suc k) xs
opened k x xs a b r = (let h = counted 40 x xs a in let i = passed 41 x xs b in let j = r.0 in omega (arith, h, i, j), le)
  where
    le : (n : ℕ) → times 41 (take n xs) ≤ suc k + times 40 (take n xs)
    le n = let h = counted 40 x (take n xs) a in let i = passed 41 x (take n xs) b in let j = r.1 (suc n) in omega (arith, h, i, j)

shut : (k x : ℕ) (xs : List ℕ) → nat_eq x 40 ≡ false → nat_eq x 41 ≡ true → InPairs (suc k) (x ∷ xs) → InPairs k xs
shut k x xs a b r = (let h = passed 40 x xs a in let i = counted 41 x xs b in let j = r.0 in omega (arith, h, i, j), le)
  where
    le : (n : ℕ) → times 41 (take n xs) ≤ k + times 40 (take n xs)
    le n = let h = passed 40 x (take n xs) a in let i = counted 41 x (take n xs) b in let j = r.1 (suc n) in omega (arith, h, i, j)

other : (k x : ℕ) (xs : List ℕ) → nat_eq x 40 ≡ false → nat_eq x 41 ≡ false → InPairs k (x ∷ xs) → InPairs k xs
other k x xs a b r = (let h = passed 40 x xs a in let i = passed 41 x xs b in let j = r.0 in omega (arith, h, i, j), le)
  where
    le : (n : ℕ) → times 41 (take n xs) ≤ k + times 40 (take n xs)
    le n = let h = passed 40 x (take n xs) a in let i = passed 41 x (take n xs) b in let j = r.1 (suc n) in omega (arith, h, i, j)

-- no text in pairs begins with a `)`
none_shut : (x : ℕ) (xs : List ℕ) → nat_eq x 40 ≡ false → nat_eq x 41 ≡ true → InPairs 0 (x ∷ xs) → ⊥
none_shut x xs a b r = let h = passed 40 x [] a in let i = counted 41 x [] b in let j = r.1 1 in omega (arith, h, i, j)

paired : (k : ℕ) (t : List ℕ) → InPairs k t → closes k t ≡ true
paired zero [] r = refl
paired (suc k) [] r = let j = r.0 in absurd (omega (arith, j))
paired zero (x ∷ xs) r = at (nat_eq x 40) (nat_eq x 41) refl refl (λ d. paired 1 xs d) (λ d. paired 0 xs d)
  where
    at : (p q : Bool) → nat_eq x 40 ≡ p → nat_eq x 41 ≡ q → (InPairs 1 xs → closes 1 xs ≡ true) → (InPairs 0 xs → closes 0 xs ≡ true)
        → (if p then closes 1 xs else if q then false else closes zero xs) ≡ true
    at true true a b on same = absurd (apart x a b)
    at true false a b on same = on (opened 0 x xs a b r)
    at false true a b on same = absurd (none_shut x xs a b r)
    at false false a b on same = same (other 0 x xs a b r)
paired (suc k) (x ∷ xs) r = at (nat_eq x 40) (nat_eq x 41) refl refl (λ d. paired (suc (suc k)) xs d) (λ d. paired k xs d) (λ d. paired (suc k) xs d)
  where
    at : (p q : Bool) → nat_eq x 40 ≡ p → nat_eq x 41 ≡ q → (InPairs (suc (suc k)) xs → closes (suc (suc k)) xs ≡ true) → (InPairs k xs → closes k xs ≡ true)
        → (InPairs (suc k) xs → closes (suc k) xs ≡ true) → (if p then closes (suc (suc k)) xs else if q then closes k xs else closes (suc k) xs) ≡ true
    at true true a b on off same = absurd (apart x a b)
    at true false a b on off same = on (opened (suc k) x xs a b r)
    at false true a b on off same = off (shut k x xs a b r)
    at false false a b on off same = same (other (suc k) x xs a b r)

first_of : (a b : Bool) → (a && b) ≡ true → a ≡ true
first_of true b h = refl
first_of false b h = h

second_of : (a b : Bool) → (a && b) ≡ true → b ≡ true
second_of true b h = h
second_of false b h = let z : ⊥ = cc (h) in absurd z

-- what is tested of each of some numbers
each_passes : (f : ℕ → Bool) (b k : ℕ) → list_all f (range_with_len b k) ≡ true → (n : ℕ) → b ≤ n → n < b + k → f n ≡ true
each_passes f b zero h n l m = absurd (omega (arith, l, m))
each_passes f b (suc k) h n l m =
    by_cases (nat_eq n b) refl (λ d. each_passes f (b + 1) k (second_of (f b) (list_all f (range_with_len (b + 1) k)) h) n d (omega (arith, m)))
  where
    by_cases : (q : Bool) → nat_eq n b ≡ q → (b + 1 ≤ n → f n ≡ true) → f n ≡ true
    by_cases true e further = ap f (eqb-true n b e) ∙ first_of (f b) (list_all f (range_with_len (b + 1) k)) h
    by_cases false e further = let d : b + 1 ≤ n = grind (arith, nat_tests, e, l) in further d

all_pass : (f : ℕ → Bool) (b k : ℕ) → ((n : ℕ) → f n ≡ true) → list_all f (range_with_len b k) ≡ true
all_pass f b zero h = refl
all_pass f b (suc k) h = rw (h b) (all_pass f (b + 1) k h)

at_most : (m n : ℕ) → nat_le m n ≡ true → m ≤ n
at_most m n h = grind (arith, nat_tests)

is_at_most : (m n : ℕ) → m ≤ n → nat_le m n ≡ true
is_at_most m n h = grind (arith, nat_tests)

are_equal : (m n : ℕ) → m ≡ n → nat_eq m n ≡ true
are_equal m n h = grind (arith, nat_tests)

abbrev balanced : List ℕ → Bool
balanced t = nat_eq (times 41 t) (times 40 t)

abbrev begins_well : List ℕ → Bool
begins_well t = list_all (λ n. nat_le (times 41 (take n t)) (times 40 (take n t))) (range_with_len 0 (length t))

paired_so : (t : List ℕ) → in_pairs t ≡ true → InPairs 0 t
paired_so t h = (same, within)
  where
    same : times 41 t ≡ 0 + times 40 t
    same = let e = eqb-true (times 41 t) (times 40 t) (first_of (balanced t) (begins_well t) h) in omega (arith, e)

    by_length : (n : ℕ) (q : Bool) → nat_le (length t) n ≡ q → times 41 (take n t) ≤ 0 + times 40 (take n t)
    by_length n true e = let whole : take n t ≡ t = take_all n t (at_most (length t) n e) in rw whole (omega (arith, same))
    by_length n false e =
        let less : n < 0 + length t = grind (arith, nat_tests, e) in
        let passes = at_most (times 41 (take n t)) (times 40 (take n t))
        (each_passes (λ m. nat_le (times 41 (take m t)) (times 40 (take m t))) 0 (length t) (second_of (balanced t) (begins_well t) h) n
        (omega arith) less) in
        omega (arith, passes)

    within : (n : ℕ) → times 41 (take n t) ≤ 0 + times 40 (take n t)
    within n = by_length n (nat_le (length t) n) refl

so_paired : (t : List ℕ) → InPairs 0 t → in_pairs t ≡ true
so_paired t h =
    let e : times 41 t ≡ times 40 t = let f = h.0 in omega (arith, f) in
    rw (are_equal (times 41 t) (times 40 t) e) (all_pass (λ n. nat_le (times 41 (take n t)) (times 40 (take n t))) 0 (length t)
    (λ n. is_at_most (times 41 (take n t)) (times 40 (take n t)) (let l = h.1 n in omega (arith, l))))

same_test : (a b : Bool) → (a ≡ true → b ≡ true) → (b ≡ true → a ≡ true) → a ≡ b
same_test true true f g = refl
same_test false false f g = refl
same_test true false f g = sym (f refl)
same_test false true f g = g refl

-- what is counted is what is told character by character
pub pairs_close : in_pairs ≡ closes 0
pairs_close = λ i t. same_test (in_pairs t) (closes 0 t) (λ h. paired 0 t (paired_so t h)) (λ h. so_paired t (closed 0 t h)) i
