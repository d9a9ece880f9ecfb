-- How bytes, numbers and fields are taken from the front of a text.
use Rattle.std.proofs.Common.{◌≡◌, ◌<◌, ◌≤◌, ℕ, zero, suc, ◌+◌, ◌-◌, Bool, true, false, List, [], ◌∷◌, ◌++◌, length, take, drop, map, get_or, slice_index, Option, Some, None, refl, sym, ap, ◌∙◌, arith}
use Rattle.std.{specs.Prelude.{if◌then◌else◌, ◌==◌}, proofs.lemmas.List.{take_all, take_more, length-drop, map-append}}
use Rattle.ledger_text.specs.Text.{field_text, fields_text, read_number, with_byte, read_bytes, field_at, with_field, and_fields, read_fields, whole}

-- ---- bytes

pub bytes_short : (n : ℕ) (xs : List ℕ) → length xs ≤ n → read_bytes n xs ≡ None
bytes_short zero [] le = refl
bytes_short zero (x ∷ xs) le = absurd (omega (arith, le))
bytes_short (suc n) [] le = refl
bytes_short (suc n) (x ∷ xs) le = ap (with_byte x) (bytes_short n xs (omega (arith, le)))

pub bytes_other : (n : ℕ) (xs : List ℕ) → (slice_index xs n == 10) ≡ false → read_bytes n xs ≡ None
bytes_other zero [] e = refl
bytes_other zero (x ∷ xs) e = by (x == 10) e
  where
    by : (b : Bool) → b ≡ false → if◌then◌else◌ {A = Option (List ℕ × List ℕ)} b (Some ([], xs)) None ≡ None
    by false e = refl
    by true e = absurd (cc (e))
bytes_other (suc n) [] e = refl
bytes_other (suc n) (x ∷ xs) e = ap (with_byte x) (bytes_other n xs e)

pub bytes_there : (n : ℕ) (xs : List ℕ) → n < length xs → slice_index xs n ≡ 10 → read_bytes n xs ≡ Some (take n xs, drop (suc n) xs)
bytes_there n [] less e = absurd (omega (arith, less))
bytes_there zero (x ∷ xs) less e = ap (λ (c : ℕ). if◌then◌else◌ {A = Option (List ℕ × List ℕ)} (c == 10) (Some ([], xs)) None) e
bytes_there (suc n) (x ∷ xs) less e = ap (with_byte x) (bytes_there n xs (omega (arith, less)) e)

abbrev parts : List ℕ → List ℕ → Option (List ℕ × List ℕ)
parts bytes rest = Some (bytes, rest)

pub bytes_found : (n : ℕ) (xs : List ℕ) → n < length xs → slice_index xs n ≡ 10 → Some (take n xs, take (length xs - (n + 1)) (drop (n + 1) xs)) ≡ read_bytes n xs
bytes_found n xs less e = ap (parts (take n xs)) (take_all (length xs - (n + 1)) (drop (n + 1) xs) short) ∙ ap (λ (m : ℕ). parts (take n xs) (drop m xs)) next ∙ sym (bytes_there n xs less e)
  where
    short : length (drop (n + 1) xs) ≤ length xs - (n + 1)
    short = let h = length-drop (n + 1) xs in omega (arith, h)

    next : n + 1 ≡ suc n
    next = omega arith

-- ---- numbers

-- ---- fields

-- these fields, and then those
abbrev pub behind : List (List ℕ) → Option (List (List ℕ) × List ℕ) → Option (List (List ℕ) × List ℕ)
behind fields None = None
behind fields (Some (more, rest)) = Some (fields ++ more, rest)

in_row : (xs : List (List ℕ)) (y : List ℕ) (ys : List (List ℕ)) → (xs ++ y ∷ []) ++ ys ≡ xs ++ y ∷ ys
in_row [] y ys = refl
in_row (x ∷ xs) y ys = ap (λ (l : List (List ℕ)). x ∷ l) (in_row xs y ys)

none_before : (o : Option (List (List ℕ) × List ℕ)) → behind [] o ≡ o
none_before None = refl
none_before (Some (fields, rest)) = refl

pub begins : (count : ℕ) (text : List ℕ) → read_fields count text ≡ behind [] (read_fields count text)
begins count text = sym (none_before (read_fields count text))

one_behind : (fields : List (List ℕ)) (field : List ℕ) (o : Option (List (List ℕ) × List ℕ)) → behind fields (with_field field o) ≡ behind (fields ++ field ∷ []) o
one_behind fields field None = refl
one_behind fields field (Some (more, rest)) = ap (λ (l : List (List ℕ)). Some (l, rest)) (sym (in_row fields field more))

pub next_field : (fields : List (List ℕ)) (count i : ℕ) (text field rest : List ℕ) → i < count → field_at (read_number 0 text) ≡ Some (field, rest)
    → behind fields (read_fields (count - i) text) ≡ behind (fields ++ field ∷ []) (read_fields (count - (i + 1)) rest)
next_field fields count i text field rest less e =
    ap (λ (k : ℕ). behind fields (read_fields k text)) one ∙ ap (λ (o : Option (List ℕ × List ℕ)). behind fields (and_fields (read_fields (count - (i + 1))) o)) e
    ∙ one_behind fields field (read_fields (count - (i + 1)) rest)
  where
    one : count - i ≡ suc (count - (i + 1))
    one = omega (arith, less)

pub no_field : (fields : List (List ℕ)) (count i : ℕ) (text : List ℕ) → i < count → field_at (read_number 0 text) ≡ None → behind fields (read_fields (count - i) text) ≡ None
no_field fields count i text less e = ap (λ (k : ℕ). behind fields (read_fields k text)) one ∙ ap (λ (o : Option (List ℕ × List ℕ)). behind fields (and_fields (read_fields (count - (i + 1))) o)) e
  where
    one : count - i ≡ suc (count - (i + 1))
    one = omega (arith, less)

none_behind : (xs : List (List ℕ)) → xs ++ [] ≡ xs
none_behind [] = refl
none_behind (x ∷ xs) = ap (λ (l : List (List ℕ)). x ∷ l) (none_behind xs)

pub at_end : (fields : List (List ℕ)) (count : ℕ) (rest : List ℕ) → length rest ≡ 0 → whole (behind fields (read_fields (count - count) rest)) ≡ Some fields
at_end fields count [] e = ap (λ (k : ℕ). whole (behind fields (read_fields k []))) none ∙ ap (λ (l : List (List ℕ)). Some l) (none_behind fields)
  where
    none : count - count ≡ 0
    none = omega arith
at_end fields count (c ∷ rest) e = absurd (omega (arith, e))

-- ---- printing

row : (xs ys zs : List ℕ) → (xs ++ ys) ++ zs ≡ xs ++ (ys ++ zs)
row [] ys zs = refl
row (x ∷ xs) ys zs = ap (λ (l : List ℕ). x ∷ l) (row xs ys zs)

nothing_behind : (xs : List ℕ) → xs ++ [] ≡ xs
nothing_behind [] = refl
nothing_behind (x ∷ xs) = ap (λ (l : List ℕ). x ∷ l) (nothing_behind xs)

texts_behind : (fields : List (List ℕ)) (field : List ℕ) → fields_text (fields ++ field ∷ []) ≡ fields_text fields ++ field_text field
texts_behind [] field = nothing_behind (field_text field)
texts_behind (f ∷ fields) field = ap (λ (l : List ℕ). field_text f ++ l) (texts_behind fields field) ∙ sym (row (field_text f) (fields_text fields) (field_text field))

-- one field more is printed
pub next_text : {X : Type 0} (f : X → List ℕ) (xs : List X) (i : ℕ) (d : X) (count old new : List ℕ) → i < length xs → old ≡ count ++ 10 ∷ fields_text (map f (take i xs))
    → new ≡ old ++ field_text (f (get_or xs i d)) → new ≡ count ++ 10 ∷ fields_text (map f (take (i + 1) xs))
next_text {X} f xs i d count old new less before is =
    is ∙ ap (λ (l : List ℕ). l ++ field_text (f (get_or xs i d))) before ∙ row count (10 ∷ fields_text (map f (take i xs))) (field_text (f (get_or xs i d)))
    ∙ ap (λ (l : List ℕ). count ++ 10 ∷ l) (sym more)
  where
    more : fields_text (map f (take (i + 1) xs)) ≡ fields_text (map f (take i xs)) ++ field_text (f (get_or xs i d))
    more = ap (λ (l : List X). fields_text (map f l)) (take_more xs i d less) ∙ ap fields_text (map-append f (take i xs) (get_or xs i d ∷ [])) ∙ texts_behind (map f (take i xs)) (f (get_or xs i d))
