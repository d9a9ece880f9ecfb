-- What is written is read as itself; what is cut off is refused.
use Rattle.std.proofs.Common.{◌≡◌, ◌⊎◌, inl, inr, ◌<◌, ◌≤◌, ℕ, zero, suc, ◌+◌, ◌-◌, ◌*◌, ◌/◌, ◌%◌, ◌^◌, Bool, true, false, List, [], ◌∷◌, ◌++◌, length, Option, Some, None, refl, sym, ap, ◌∙◌, subst, arith}
use Rattle.std.specs.{Prelude.{if◌then◌else◌, ◌==◌, ◌&&◌, nat_le, nat_lt, bytes_eq, decimal}, List.{AllByRecursion}}
use Rattle.std.proofs.lemmas.{Bool.Decides.{nat_tests}, Fmt.{decimal_by_steps}, Slice.Eq.{bytes_eq-Decides}}
use Rattle.ledger_text.specs.Text.{field_text, fields_text, commit_text, read_number, with_byte, read_bytes, field_at, with_field, and_fields, read_fields, fields_at, whole, commit_of, AreShort, ReadsBack, RefusesParts, RefusesMore, IsChain, Collide, OneHistory}

in_row : (xs ys zs : List ℕ) → (xs ++ ys) ++ zs ≡ xs ++ (ys ++ zs)
in_row [] ys zs = refl
in_row (x ∷ xs) ys zs = ap (λ (l : List ℕ). x ∷ l) (in_row xs ys zs)

-- ---- numbers

abbrev Reads : ℕ → List ℕ → Type 0
Reads n ds = n < 2 ^ 63 → (so_far : ℕ) (tail : List ℕ) → so_far ≡ 0 → read_number so_far (ds ++ tail) ≡ read_number n tail

digit : (m n c : ℕ) (tail : List ℕ) → c ≡ 48 + n → n < 10 → m < 2 ^ 60 → read_number m (c ∷ tail) ≡ read_number (10 * m + n) tail
digit m n c tail is small less = by (c == 10) refl (nat_le 48 c) refl (nat_le c 57) refl (nat_lt m (2 ^ 60)) refl
  where
    by : (a : Bool) → (c == 10) ≡ a → (b : Bool) → nat_le 48 c ≡ b → (d : Bool) → nat_le c 57 ≡ d → (l : Bool) → nat_lt m (2 ^ 60) ≡ l
        → (if a then Some (m, tail) else (if (b && d) && l then read_number (10 * m + (c - 48)) tail else None)) ≡ read_number (10 * m + n) tail
    by true e b f d g l h = absurd (grind (arith, nat_tests, e, is))
    by false e true f true g true h = ap (λ (k : ℕ). read_number k tail) (omega (arith, is))
    by false e false f d g l h = absurd (grind (arith, nat_tests, f, is))
    by false e true f false g l h = absurd (grind (arith, nat_tests, g, is, small))
    by false e true f true g false h = absurd (grind (arith, nat_tests, h, less))

one_digit : (n : ℕ) → n < 10 → Reads n ((48 + n) ∷ [])
one_digit n small fits so_far tail z = digit so_far n (48 + n) tail refl small (omega (arith, z)) ∙ ap (λ (k : ℕ). read_number k tail) (omega (arith, z))

one_more : (n : ℕ) (ds : List ℕ) → 10 ≤ n → Reads (n / 10) ds → Reads n (ds ++ (48 + n % 10) ∷ [])
one_more n ds large reads fits so_far tail z =
    ap (read_number so_far) (in_row ds ((48 + n % 10) ∷ []) tail) ∙ reads (omega (arith, fits)) so_far ((48 + n % 10) ∷ tail) z
    ∙ digit (n / 10) (n % 10) (48 + n % 10) tail refl (omega arith) (omega (arith, fits)) ∙ ap (λ (k : ℕ). read_number k tail) (omega arith)

number_back : (n : ℕ) (tail : List ℕ) → n < 2 ^ 63 → read_number 0 (decimal n ++ 10 ∷ tail) ≡ Some (n, tail)
number_back n tail fits = decimal_by_steps Reads one_digit one_more n (omega (arith, fits)) fits 0 (10 ∷ tail) refl

-- ---- fields

bytes_back : (field tail : List ℕ) → read_bytes (length field) (field ++ 10 ∷ tail) ≡ Some (field, tail)
bytes_back [] tail = refl
bytes_back (c ∷ field) tail = ap (with_byte c) (bytes_back field tail)

field_back : (field tail : List ℕ) → length field < 2 ^ 63 → field_at (read_number 0 (field_text field ++ tail)) ≡ Some (field, tail)
field_back field tail fits =
    ap (λ (l : List ℕ). field_at (read_number 0 l)) (in_row (decimal (length field)) (10 ∷ (field ++ 10 ∷ [])) tail ∙ ap (λ (l : List ℕ). decimal (length field) ++ 10 ∷ l) (in_row field (10 ∷ []) tail))
    ∙ ap field_at (number_back (length field) (field ++ 10 ∷ tail) fits) ∙ bytes_back field tail

fields_back : (fields : List (List ℕ)) (tail : List ℕ) → AllByRecursion (λ field. length field < 2 ^ 63) fields → read_fields (length fields) (fields_text fields ++ tail) ≡ Some (fields, tail)
fields_back [] tail fit = refl
fields_back (field ∷ fields) tail fit =
    ap (λ (l : List ℕ). and_fields (read_fields (length fields)) (field_at (read_number 0 l))) (in_row (field_text field) (fields_text fields) tail)
    ∙ ap (and_fields (read_fields (length fields))) (field_back field (fields_text fields ++ tail) fit.0)
    ∙ ap (with_field field) (fields_back fields tail fit.1)

all_back : (fields : List (List ℕ)) (tail : List ℕ) → AreShort fields → fields_at (read_number 0 (commit_text fields ++ tail)) ≡ Some (fields, tail)
all_back fields tail short =
    ap (λ (l : List ℕ). fields_at (read_number 0 l)) (in_row (decimal (length fields)) (10 ∷ fields_text fields) tail)
    ∙ ap fields_at (number_back (length fields) (fields_text fields ++ tail) short.0) ∙ fields_back fields tail short.1

none_behind : (xs : List ℕ) → xs ++ [] ≡ xs
none_behind [] = refl
none_behind (x ∷ xs) = ap (λ (l : List ℕ). x ∷ l) (none_behind xs)

pub reads_back : ReadsBack
reads_back fields short = ap commit_of (sym (none_behind (commit_text fields))) ∙ ap whole (all_back fields [] short)

pub refuses_more : RefusesMore
refuses_more fields c more short = ap whole (all_back fields (c ∷ more) short)

-- ---- what is read of a front is read of the whole

abbrev Ext : {A : Type 0} → Option (A × List ℕ) → Option (A × List ℕ) → List ℕ → Type 0
Ext None more_read more = Unit {0}
Ext (Some (a, rest)) more_read more = more_read ≡ Some (a, rest ++ more)

number_ext : (n : ℕ) (xs more : List ℕ) → Ext (read_number n xs) (read_number n (xs ++ more)) more
number_ext n [] more = tt
number_ext n (c ∷ xs) more = by (c == 10) ((nat_le 48 c && nat_le c 57) && nat_lt n (2 ^ 60)) (read_number (10 * n + (c - 48)) xs) (number_ext (10 * n + (c - 48)) xs more)
  where
    by : (a b : Bool) (o : Option (ℕ × List ℕ)) → Ext o (read_number (10 * n + (c - 48)) (xs ++ more)) more
        → Ext (if a then Some (n, xs) else (if b then o else None)) (if a then Some (n, xs ++ more) else (if b then read_number (10 * n + (c - 48)) (xs ++ more) else None)) more
    by true b o ih = refl
    by false true o ih = ih
    by false false o ih = tt

byte_ext : (c : ℕ) (o p : Option (List ℕ × List ℕ)) (more : List ℕ) → Ext o p more → Ext (with_byte c o) (with_byte c p) more
byte_ext c None p more e = tt
byte_ext c (Some (bytes, rest)) p more e = ap (with_byte c) e

bytes_ext : (k : ℕ) (xs more : List ℕ) → Ext (read_bytes k xs) (read_bytes k (xs ++ more)) more
bytes_ext zero [] more = tt
bytes_ext zero (c ∷ xs) more = by (c == 10)
  where
    by : (a : Bool) → Ext {A = List ℕ} (if a then Some ([], xs) else None) (if a then Some ([], xs ++ more) else None) more
    by true = refl
    by false = tt
bytes_ext (suc k) [] more = tt
bytes_ext (suc k) (c ∷ xs) more = byte_ext c (read_bytes k xs) (read_bytes k (xs ++ more)) more (bytes_ext k xs more)

field_ext : (o p : Option (ℕ × List ℕ)) (more : List ℕ) → Ext o p more → Ext (field_at o) (field_at p) more
field_ext None p more e = tt
field_ext (Some (n, rest)) p more e = subst (λ (p : Option (ℕ × List ℕ)). Ext (read_bytes n rest) (field_at p) more) (sym e) (bytes_ext n rest more)

with_ext : (field : List ℕ) (o p : Option (List (List ℕ) × List ℕ)) (more : List ℕ) → Ext o p more → Ext (with_field field o) (with_field field p) more
with_ext field None p more e = tt
with_ext field (Some (fields, rest)) p more e = ap (with_field field) e

and_ext : (k : ℕ) (more : List ℕ) → ((xs : List ℕ) → Ext (read_fields k xs) (read_fields k (xs ++ more)) more) → (o p : Option (List ℕ × List ℕ)) → Ext o p more
    → Ext (and_fields (read_fields k) o) (and_fields (read_fields k) p) more
and_ext k more ih None p e = tt
and_ext k more ih (Some (field, rest)) p e =
    subst (λ (p : Option (List ℕ × List ℕ)). Ext (with_field field (read_fields k rest)) (and_fields (read_fields k) p) more) (sym e) (with_ext field (read_fields k rest) (read_fields k (rest ++ more)) more (ih rest))

fields_ext : (k : ℕ) (xs more : List ℕ) → Ext (read_fields k xs) (read_fields k (xs ++ more)) more
fields_ext zero xs more = refl
fields_ext (suc k) xs more =
    and_ext k more (λ ys. fields_ext k ys more) (field_at (read_number 0 xs)) (field_at (read_number 0 (xs ++ more)))
    (field_ext (read_number 0 xs) (read_number 0 (xs ++ more)) more (number_ext 0 xs more))

all_ext : (o p : Option (ℕ × List ℕ)) (more : List ℕ) → Ext o p more → Ext (fields_at o) (fields_at p) more
all_ext None p more e = tt
all_ext (Some (k, rest)) p more e = subst (λ (p : Option (ℕ × List ℕ)). Ext (read_fields k rest) (fields_at p) more) (sym e) (fields_ext k rest more)

pub refuses_parts : RefusesParts
refuses_parts fields front c lost short is =
    by (fields_at (read_number 0 front)) (all_ext (read_number 0 front) (read_number 0 (front ++ c ∷ lost)) (c ∷ lost) (number_ext 0 front (c ∷ lost)))
  where
    all : fields_at (read_number 0 (front ++ c ∷ lost)) ≡ Some (fields, [])
    all = ap (λ (l : List ℕ). fields_at (read_number 0 l)) (sym is ∙ sym (none_behind (commit_text fields))) ∙ all_back fields [] short

    left_of : Option (List (List ℕ) × List ℕ) → ℕ
    left_of None = 0
    left_of (Some (fs, rest)) = length rest

    by : (o : Option (List (List ℕ) × List ℕ)) → Ext o (fields_at (read_number 0 (front ++ c ∷ lost))) (c ∷ lost) → whole o ≡ None
    by None e = refl
    by (Some (fs, [])) e = absurd (let h : 0 ≡ length (c ∷ lost) = ap left_of (sym all ∙ e) in omega (arith, h))
    by (Some (fs, d ∷ rest)) e = refl

-- ---- one history

pub one_history : OneHistory
one_history digest last [] [] len a b = inl refl
one_history digest last [] (y ∷ ys) len a b = absurd (omega (arith, len))
one_history digest last (x ∷ xs) [] len a b = absurd (omega (arith, len))
one_history digest last (x ∷ xs) (y ∷ ys) len a b =
    by (bytes_eq x y) refl (λ e. one_history digest x xs ys (omega (arith, len)) a.1 (subst (λ (z : List ℕ). IsChain digest (z ∷ ys)) (sym e) b.1))
  where
    inside : (d e : List ℕ) → Some d ≡ Some e → d ≡ e
    inside d e h = cc (h)

    same : digest x ≡ digest y
    same = inside (digest x) (digest y) (sym a.0 ∙ b.0)

    more : x ≡ y → (xs ≡ ys) ⊎ Collide digest → (x ∷ xs ≡ y ∷ ys) ⊎ Collide digest
    more e (inl rest) = inl (cc (e, rest))
    more e (inr collide) = inr collide

    by : (t : Bool) → bytes_eq x y ≡ t → (x ≡ y → (xs ≡ ys) ⊎ Collide digest) → (x ∷ xs ≡ y ∷ ys) ⊎ Collide digest
    by true e later = more ((bytes_eq-Decides x y).0 e) (later ((bytes_eq-Decides x y).0 e))
    by false e later = inr (record { one = x; other = y; apart = λ is. (let t : bytes_eq x y ≡ true = (bytes_eq-Decides x y).1 is in cc (t, e)); same = same })
