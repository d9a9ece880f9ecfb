-- The text of a commit (own): the number of its fields, and each field behind its length. The first field is the digest of the commit
-- before.
--
--     3                  so many fields
--     64                 so many bytes
--     e3b0c44298fc..     these, and a line end
--     ..
use Rattle.std.specs.Prelude.{◌≡◌, ◌≢◌, ◌⊎◌, ◌<◌, ℕ, zero, suc, ◌+◌, ◌-◌, ◌*◌, ◌^◌, ◌&&◌, ◌==◌, nat_le, nat_lt, if◌then◌else◌}
use Rattle.std.specs.Prelude.{List, [], ◌∷◌, ◌++◌, length, Option, None, Some, decimal}
use Rattle.std.specs.List.{AllByRecursion}

-- a field behind its length
abbrev pub field_text : List ℕ → List ℕ
field_text field = decimal (length field) ++ 10 ∷ (field ++ 10 ∷ [])

-- fields, one after the other
abbrev pub fields_text : List (List ℕ) → List ℕ
fields_text [] = []
fields_text (field ∷ fields) = field_text field ++ fields_text fields

-- a commit of these fields
abbrev pub commit_text : List (List ℕ) → List ℕ
commit_text fields = decimal (length fields) ++ 10 ∷ fields_text fields

-- ---- reading

-- a number to the end of its line, and what is behind it; such numbers are below 2^63, so one that is at 2^60 already has no digit more
abbrev pub read_number : ℕ → List ℕ → Option (ℕ × List ℕ)
read_number so_far [] = None
read_number so_far (c ∷ rest) =
    if c == 10 then Some (so_far, rest)
    else (if (nat_le 48 c && nat_le c 57) && nat_lt so_far (2 ^ 60) then read_number (10 * so_far + (c - 48)) rest else None)

-- this byte first
abbrev pub with_byte : ℕ → Option (List ℕ × List ℕ) → Option (List ℕ × List ℕ)
with_byte c None = None
with_byte c (Some (bytes, rest)) = Some (c ∷ bytes, rest)

-- so many bytes and a line end, and what is behind these
abbrev pub read_bytes : ℕ → List ℕ → Option (List ℕ × List ℕ)
read_bytes zero [] = None
read_bytes zero (c ∷ rest) = if c == 10 then Some ([], rest) else None
read_bytes (suc n) [] = None
read_bytes (suc n) (c ∷ rest) = with_byte c (read_bytes n rest)

-- a field whose length was read
abbrev pub field_at : Option (ℕ × List ℕ) → Option (List ℕ × List ℕ)
field_at None = None
field_at (Some (n, rest)) = read_bytes n rest

-- this field first
abbrev pub with_field : List ℕ → Option (List (List ℕ) × List ℕ) → Option (List (List ℕ) × List ℕ)
with_field field None = None
with_field field (Some (fields, rest)) = Some (field ∷ fields, rest)

-- a field, and then more
abbrev pub and_fields : (List ℕ → Option (List (List ℕ) × List ℕ)) → Option (List ℕ × List ℕ) → Option (List (List ℕ) × List ℕ)
and_fields more None = None
and_fields more (Some (field, rest)) = with_field field (more rest)

-- so many fields, and what is behind these
abbrev pub read_fields : ℕ → List ℕ → Option (List (List ℕ) × List ℕ)
read_fields zero text = Some ([], text)
read_fields (suc k) text = and_fields (read_fields k) (field_at (read_number 0 text))

-- fields whose number was read
abbrev pub fields_at : Option (ℕ × List ℕ) → Option (List (List ℕ) × List ℕ)
fields_at None = None
fields_at (Some (k, rest)) = read_fields k rest

-- nothing may be left
abbrev pub whole : Option (List (List ℕ) × List ℕ) → Option (List (List ℕ))
whole None = None
whole (Some (fields, [])) = Some fields
whole (Some (fields, c ∷ rest)) = None

-- the fields of a commit's text, if it is one
abbrev pub commit_of : List ℕ → Option (List (List ℕ))
commit_of text = whole (fields_at (read_number 0 text))

-- ---- laws

-- lengths that memory can have
abbrev pub AreShort : List (List ℕ) → Type 0
AreShort fields = (length fields < 2 ^ 63) × AllByRecursion (λ field. length field < 2 ^ 63) fields

-- what is written is read as itself
abbrev pub ReadsBack : Type 0
ReadsBack = (fields : List (List ℕ)) → AreShort fields → commit_of (commit_text fields) ≡ Some fields

-- of what is cut off nothing is read
abbrev pub RefusesParts : Type 0
RefusesParts = (fields : List (List ℕ)) (front : List ℕ) (c : ℕ) (lost : List ℕ) → AreShort fields
    → commit_text fields ≡ front ++ c ∷ lost → commit_of front ≡ None

-- nor of what has more behind it
abbrev pub RefusesMore : Type 0
RefusesMore = (fields : List (List ℕ)) (c : ℕ) (more : List ℕ) → AreShort fields → commit_of (commit_text fields ++ c ∷ more) ≡ None

-- ---- which commit stands before which

-- the digest that a file names, if it is a commit
abbrev pub first_of : Option (List (List ℕ)) → Option (List ℕ)
first_of None = None
first_of (Some []) = None
first_of (Some (field ∷ fields)) = Some field

abbrev pub named_in : List ℕ → Option (List ℕ)
named_in text = first_of (commit_of text)

-- newest first: each is a commit, and names the one before it; the first names nothing
abbrev pub IsChain : (List ℕ → List ℕ) → List (List ℕ) → Type 0
IsChain digest [] = Unit {0}
IsChain digest (last ∷ []) = named_in last ≡ Some []
IsChain digest (last ∷ before ∷ texts) = (named_in last ≡ Some (digest before)) × IsChain digest (before ∷ texts)

-- two texts of one digest
pub record Collide (digest : List ℕ → List ℕ) : Type 0 where
  pub one : List ℕ
  pub other : List ℕ
  pub apart : one ≢ other
  pub same : digest one ≡ digest other

-- two chains of one length that end in the same commit are equal, or two of their commits collide
abbrev pub OneHistory : Type 0
OneHistory = (digest : List ℕ → List ℕ) (last : List ℕ) (one other : List (List ℕ)) → length one ≡ length other
    → IsChain digest (last ∷ one) → IsChain digest (last ∷ other)
    → (one ≡ other) ⊎ Collide digest
