-- Eight bytes as one number compare as the bytes do.
use Rattle.std.proofs.Common.{◌≡◌, ◌≢◌, ℕ, zero, suc, ◌+◌, ◌*◌, ◌<◌, ◌≤◌, List, [], ◌∷◌, length, take, drop, get_or, refl, sym, ap, ap₂, subst, ◌∙◌, arith, nat_cmp, Ordering, Less, Equal, Greater, length-drop, get_or-drop, drop-drop, drop-cons}
use Rattle.std.specs.{Slice.Scan.{big_endian}, Cmp.{ranks}, Cmp.Lexicographic.{slice_cmp}, Ordering.{ordering_then, MatchOrdering}}
use lib.Lanes.{chunk}

abbrev pub AreBytes : List ℕ → Type 0
AreBytes xs = (k : ℕ) → get_or xs k 0 < 256

is_Less : (x y : ℕ) (r : Ordering) → MatchOrdering r (x < y) (x ≡ y) (y < x) → x < y → r ≡ Less
is_Less x y Less h l = refl
is_Less x y Equal h l = let e : x ≡ y = h in absurd (omega arith)
is_Less x y Greater h l = let e : y < x = h in absurd (omega arith)

is_Equal : (x y : ℕ) (r : Ordering) → MatchOrdering r (x < y) (x ≡ y) (y < x) → x ≡ y → r ≡ Equal
is_Equal x y Less h l = let e : x < y = h in absurd (omega arith)
is_Equal x y Equal h l = refl
is_Equal x y Greater h l = let e : y < x = h in absurd (omega arith)

is_Greater : (x y : ℕ) (r : Ordering) → MatchOrdering r (x < y) (x ≡ y) (y < x) → y < x → r ≡ Greater
is_Greater x y Less h l = let e : x < y = h in absurd (omega arith)
is_Greater x y Equal h l = let e : x ≡ y = h in absurd (omega arith)
is_Greater x y Greater h l = refl

pub below : (x y : ℕ) → x < y → nat_cmp x y ≡ Less
below x y = is_Less x y _ (ranks x y)

pub level : (x y : ℕ) → x ≡ y → nat_cmp x y ≡ Equal
level x y = is_Equal x y _ (ranks x y)

pub above : (x y : ℕ) → y < x → nat_cmp x y ≡ Greater
above x y = is_Greater x y _ (ranks x y)

-- a lower number stays lower, whatever bytes follow
rises : (n a b : ℕ) (us vs : List ℕ) → n ≤ length us → n ≤ length vs → AreBytes us → a < b → big_endian a (take n us) < big_endian b (take n vs)
rises zero a b us vs p q h l = l
rises (suc n) a b [] vs p q h l = absurd (omega arith)
rises (suc n) a b (u ∷ us) [] p q h l = absurd (omega arith)
rises (suc n) a b (u ∷ us) (v ∷ vs) p q h l =
    let small : u < 256 = h 0 in
    rises n (a * 256 + u) (b * 256 + v) us vs (omega arith) (omega arith) (λ k. h (suc k)) (omega arith)

-- the first n bytes decide as numbers, and where these are equal, what follows
front : (n a : ℕ) (us vs : List ℕ) → n ≤ length us → n ≤ length vs → AreBytes us → AreBytes vs →
    slice_cmp nat_cmp us vs ≡ ordering_then (nat_cmp (big_endian a (take n us)) (big_endian a (take n vs))) (slice_cmp nat_cmp (drop n us) (drop n vs))
front zero a us vs p q g h = sym (ap (λ (o : Ordering). ordering_then o (slice_cmp nat_cmp us vs)) (level a a refl))
front (suc n) a [] vs p q g h = absurd (omega arith)
front (suc n) a (u ∷ us) [] p q g h = absurd (omega arith)
front (suc n) a (u ∷ us) (v ∷ vs) p q g h =
    by (front n (a * 256 + u) us vs (omega arith) (omega arith) (λ k. g (suc k)) (λ k. h (suc k))) (nat_cmp u v) refl (ranks u v)
  where
    by : slice_cmp nat_cmp us vs ≡ ordering_then (nat_cmp (big_endian (a * 256 + u) (take n us)) (big_endian (a * 256 + u) (take n vs))) (slice_cmp nat_cmp (drop n us) (drop n vs))
        → (r : Ordering) → nat_cmp u v ≡ r → MatchOrdering r (u < v) (u ≡ v) (v < u)
        → ordering_then (nat_cmp u v) (slice_cmp nat_cmp us vs) ≡ ordering_then (nat_cmp (big_endian (a * 256 + u) (take n us)) (big_endian (a * 256 + v) (take n vs))) (slice_cmp nat_cmp (drop n us) (drop n vs))
    by rest Less e l =
        let under : u < v = l in
        let t = rises n (a * 256 + u) (a * 256 + v) us vs (omega arith) (omega arith) (λ k. g (suc k)) (omega arith) in
        ap (λ (o : Ordering). ordering_then o (slice_cmp nat_cmp us vs)) e
        ∙ sym (ap (λ (o : Ordering). ordering_then o (slice_cmp nat_cmp (drop n us) (drop n vs))) (below _ _ t))
    by rest Greater e l =
        let over : v < u = l in
        let t = rises n (a * 256 + v) (a * 256 + u) vs us (omega arith) (omega arith) (λ k. h (suc k)) (omega arith) in
        ap (λ (o : Ordering). ordering_then o (slice_cmp nat_cmp us vs)) e
        ∙ sym (ap (λ (o : Ordering). ordering_then o (slice_cmp nat_cmp (drop n us) (drop n vs))) (above _ _ t))
    by rest Equal e l =
        let same : u ≡ v = l in
        ap (λ (o : Ordering). ordering_then o (slice_cmp nat_cmp us vs)) e
        ∙ subst (λ (z : ℕ). slice_cmp nat_cmp us vs ≡ ordering_then (nat_cmp (big_endian (a * 256 + u) (take n us)) (big_endian (a * 256 + z) (take n vs))) (slice_cmp nat_cmp (drop n us) (drop n vs))) same rest

unequal : (x y : ℕ) (r o : Ordering) → MatchOrdering r (x < y) (x ≡ y) (y < x) → (x ≢ y) → ordering_then r o ≡ r
unequal x y Less o h n = refl
unequal x y Equal o h n = absurd (n h)
unequal x y Greater o h n = refl

module _ (xs ys : List ℕ) (k a b : ℕ) (p : k + 8 ≤ length xs) (q : k + 8 ≤ length ys) (g : AreBytes xs) (h : AreBytes ys)
    (ea : a ≡ big_endian 0 (chunk k 8 xs)) (eb : b ≡ big_endian 0 (chunk k 8 ys)) where
  at : slice_cmp nat_cmp (drop k xs) (drop k ys) ≡ ordering_then (nat_cmp a b) (slice_cmp nat_cmp (drop 8 (drop k xs)) (drop 8 (drop k ys)))
  at =
      let t = front 8 0 (drop k xs) (drop k ys) (omega (arith, length-drop k xs)) (omega (arith, length-drop k ys))
      (λ j. subst (λ (b : ℕ). b < 256) (sym (get_or-drop k xs j 0)) (g (k + j))) (λ j. subst (λ (b : ℕ). b < 256) (sym (get_or-drop k ys j 0)) (h (k + j))) in
      rw (ea, eb) t

  pub decided : (a ≢ b) → slice_cmp nat_cmp (drop k xs) (drop k ys) ≡ nat_cmp a b
  decided n = at ∙ unequal a b (nat_cmp a b) _ (ranks a b) n

  pub passed : a ≡ b → slice_cmp nat_cmp (drop k xs) (drop k ys) ≡ slice_cmp nat_cmp (drop (k + 8) xs) (drop (k + 8) ys)
  passed e = at ∙ ap (λ (o : Ordering). ordering_then o (slice_cmp nat_cmp (drop 8 (drop k xs)) (drop 8 (drop k ys)))) (level a b e)
      ∙ ap₂ (slice_cmp nat_cmp) (drop-drop 8 k xs) (drop-drop 8 k ys)

-- n bytes from i + k on, as they are read
abbrev reads : List ℕ → ℕ → ℕ → ℕ → List ℕ
reads xs i k zero = []
reads xs i k (suc n) = get_or xs (i + k) 0 ∷ reads xs i (suc k) n

read_out : (n : ℕ) (xs : List ℕ) (i k : ℕ) → i + k + n ≤ length xs → chunk (i + k) n xs ≡ reads xs i k n
read_out zero xs i k le = refl
read_out (suc n) xs i k le =
    let next : suc (i + k) ≡ i + suc k = omega arith in
    ap (take (suc n)) (drop-cons xs (i + k) 0 (omega arith))
    ∙ ap (λ l. get_or xs (i + k) 0 ∷ l) (ap (λ m. chunk m n xs) next ∙ read_out n xs i (suc k) (omega arith))

module _ (xs : List ℕ) (i : ℕ) where
  spelt : (n : ℕ) → i + n ≤ length xs → big_endian 0 (chunk i n xs) ≡ big_endian 0 (reads xs i 0 n)
  spelt n le = let e : i ≡ i + 0 = omega arith in ap (big_endian 0) (ap (λ m. chunk m n xs) e ∙ read_out n xs i 0 (omega arith))

  here : get_or xs (i + 0) 0 ≡ get_or xs i 0
  here = ap (λ k. get_or xs k 0) (omega arith)

  pub eight_are : i + 8 ≤ length xs
      → get_or xs i 0 * 72057594037927936 + get_or xs (i + 1) 0 * 281474976710656 + get_or xs (i + 2) 0 * 1099511627776 + get_or xs (i + 3) 0 * 4294967296
      + get_or xs (i + 4) 0 * 16777216 + get_or xs (i + 5) 0 * 65536 + get_or xs (i + 6) 0 * 256 + get_or xs (i + 7) 0 ≡ big_endian 0 (chunk i 8 xs)
  eight_are le = omega (arith, here) ∙ sym (spelt 8 le)
