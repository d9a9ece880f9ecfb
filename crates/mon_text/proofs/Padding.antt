-- Names and the arrays that they lie in, with zeros behind them: how two compare, and the number that begins one.
use Rattle.std.proofs.Common.{◌≡◌, ℕ, zero, suc, ◌+◌, ◌-◌, ◌*◌, ◌<◌, ◌≤◌, ◌==◌, ◌++◌, drop, get_or, nat_le, get_or-drop, get_or-append-add, subst, Bool, true, false, ◌&&◌, List, [], ◌∷◌, length, length-take, take, refl, sym, ap, ◌∙◌, arith, nat_cmp, Ordering, true≢false}
use Rattle.std.specs.{List.{list_all}, Cmp.Lexicographic.{slice_cmp}, Slice.Scan.{big_endian}, Ordering.{ordering_then}}
use Rattle.std.proofs.lemmas.Bool.Decides.{Decides-eqb, nat_tests}
use Rattle.mon_text.specs.{Characters.{is_letter}, Names.{is_name_character, IsName, first_of, head_of}, inner.Padding.{IsZeroFrom}}
use Rattle.mon_text.proofs.WordOrder.{below, level, above}

-- none of the characters is 0
abbrev pub IsFilled : List ℕ → Type 0
IsFilled [] = Unit {0}
IsFilled (c ∷ cs) = (0 < c) × IsFilled cs

both : (a b : Bool) → (a && b) ≡ true → (a ≡ true) × (b ≡ true)
both true b h = (refl, h)
both false b h = absurd (true≢false (sym h))

filled_letter : (c : ℕ) → is_letter c ≡ true → 0 < c
filled_letter zero h = absurd (true≢false (sym h))
filled_letter (suc c) h = omega arith

filled_character : (c : ℕ) → is_name_character c ≡ true → 0 < c
filled_character zero h = absurd (true≢false (sym h))
filled_character (suc c) h = omega arith

filled_rest : (cs : List ℕ) → list_all is_name_character cs ≡ true → IsFilled cs
filled_rest [] h = tt
filled_rest (c ∷ cs) h = let t = both _ _ h in (filled_character c t.0, filled_rest cs t.1)

pub filled : (text : List ℕ) → IsName text → IsFilled text
filled [] h = tt
filled (c ∷ cs) h = let t = both _ _ (both _ _ h).0 in (filled_letter c t.0, filled_rest cs t.1)

padded : (n m : ℕ) (xs ys : List ℕ) → length xs ≡ length ys → n ≤ length xs → m ≤ length ys → IsFilled (take n xs) → IsFilled (take m ys) →
    IsZeroFrom n xs → IsZeroFrom m ys → slice_cmp nat_cmp xs ys ≡ slice_cmp nat_cmp (take n xs) (take m ys)
padded zero zero [] [] e p q f g y z = refl
padded (suc n) m [] [] e p q f g y z = absurd (omega arith)
padded zero (suc m) [] [] e p q f g y z = absurd (omega arith)
padded n m [] (d ∷ ds) e p q f g y z = absurd (omega arith)
padded n m (c ∷ cs) [] e p q f g y z = absurd (omega arith)
padded zero zero (c ∷ cs) (d ∷ ds) e p q f g y z =
    let first : c ≡ 0 = y 0 (omega arith) in
    let second : d ≡ 0 = z 0 (omega arith) in
    ap (λ (o : Ordering). ordering_then o (slice_cmp nat_cmp cs ds)) (level c d (first ∙ sym second))
    ∙ padded zero zero cs ds (omega arith) (omega arith) (omega arith) tt tt (λ k h. y (suc k) (omega arith)) (λ k h. z (suc k) (omega arith))
padded zero (suc m) (c ∷ cs) (d ∷ ds) e p q f g y z =
    let first : c ≡ 0 = y 0 (omega arith) in
    let second : 0 < d = g.0 in
    ap (λ (o : Ordering). ordering_then o (slice_cmp nat_cmp cs ds)) (below c d (omega arith))
padded (suc n) zero (c ∷ cs) (d ∷ ds) e p q f g y z =
    let first : 0 < c = f.0 in
    let second : d ≡ 0 = z 0 (omega arith) in
    ap (λ (o : Ordering). ordering_then o (slice_cmp nat_cmp cs ds)) (above c d (omega arith))
padded (suc n) (suc m) (c ∷ cs) (d ∷ ds) e p q f g y z =
    ap (ordering_then (nat_cmp c d))
    (padded n m cs ds (omega arith) (omega arith) (omega arith) f.1 g.1 (λ k h. y (suc k) (omega arith)) (λ k h. z (suc k) (omega arith)))

pub names_compare : (n m : ℕ) (xs ys : List ℕ) → length xs ≡ 32 → length ys ≡ 32 → n ≤ 31 → m ≤ 31 → IsName (take n xs) → IsName (take m ys) →
    IsZeroFrom n xs → IsZeroFrom m ys → slice_cmp nat_cmp xs ys ≡ slice_cmp nat_cmp (take n xs) (take m ys)
names_compare n m xs ys a b p q f g y z =
    padded n m xs ys (a ∙ sym b) (omega arith) (omega arith) (filled (take n xs) f) (filled (take m ys) g) y z

-- a name has at most 31 characters
pub short : (text : List ℕ) → IsName text → length text ≤ 31
short [] h = omega arith
short (c ∷ cs) h = let few : nat_le (length cs) 30 ≡ true = (both _ _ h).1 in grind (arith, nat_tests)

zeros : (xs : List ℕ) → list_all (λ b. b == 0) xs ≡ true → (k : ℕ) → get_or xs k 0 ≡ 0
zeros [] h k = refl
zeros (x ∷ xs) h zero = (Decides-eqb x 0).0 (both _ _ h).0
zeros (x ∷ xs) h (suc k) = zeros xs (both _ _ h).1 k

-- what lies behind a text that is written over zeros
pub zeros_behind : (n : ℕ) (text xs : List ℕ) → length text ≡ n → list_all (λ b. b == 0) xs ≡ true → IsZeroFrom n (text ++ drop n xs)
zeros_behind n text xs e h = λ k le.
    let at : length text + (k - n) ≡ k = omega arith in
    subst (λ (j : ℕ). get_or (text ++ drop n xs) j 0 ≡ 0) at
    (get_or-append-add text (drop n xs) (k - n) 0 ∙ get_or-drop n xs (k - n) 0 ∙ zeros xs h (n + (k - n)))

-- ---- the number that begins a name
-- up to its length and behind it, the array has the name's characters and then zeros
same_at : (n : ℕ) (cs : List ℕ) (i : ℕ) → IsZeroFrom n cs → get_or cs i 0 ≡ get_or (take n cs) i 0
same_at zero cs i z = z i (omega arith)
same_at (suc n) [] i z = refl
same_at (suc n) (c ∷ cs) zero z = refl
same_at (suc n) (c ∷ cs) (suc i) z = same_at n cs i (λ k h. z (suc k) (omega arith))

-- the first seven characters as they are read
pub seven : (q : List ℕ) → first_of 7 q ≡ get_or q 0 0 ∷ get_or q 1 0 ∷ get_or q 2 0 ∷ get_or q 3 0 ∷ get_or q 4 0 ∷ get_or q 5 0 ∷ get_or q 6 0 ∷ []
seven [] = refl
seven (a ∷ []) = refl
seven (a ∷ b ∷ []) = refl
seven (a ∷ b ∷ c ∷ []) = refl
seven (a ∷ b ∷ c ∷ d ∷ []) = refl
seven (a ∷ b ∷ c ∷ d ∷ e ∷ []) = refl
seven (a ∷ b ∷ c ∷ d ∷ e ∷ f ∷ []) = refl
seven (a ∷ b ∷ c ∷ d ∷ e ∷ f ∷ g ∷ rest) = refl

-- the bytes in front of an array are the head of the name in it
pub head_is : (n : ℕ) (cs : List ℕ) → n ≤ length cs → IsZeroFrom n cs →
    n * 72057594037927936 + get_or cs 0 0 * 281474976710656 + get_or cs 1 0 * 1099511627776 + get_or cs 2 0 * 4294967296
    + get_or cs 3 0 * 16777216 + get_or cs 4 0 * 65536 + get_or cs 5 0 * 256 + get_or cs 6 0 ≡ head_of (take n cs)
head_is n cs h z =
    omega (arith, length-take n cs, same_at n cs 0 z, same_at n cs 1 z, same_at n cs 2 z, same_at n cs 3 z, same_at n cs 4 z, same_at n cs 5 z, same_at n cs 6 z)
    ∙ sym (ap (λ (xs : List ℕ). big_endian 0 (length (take n cs) ∷ xs)) (seven (take n cs)))
