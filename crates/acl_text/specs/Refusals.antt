-- The refusals of a text (the order in which they are tried is own).
use Rattle.std.specs.Prelude.{ℕ, ◌+◌, ◌==◌, Bool, not, ◌&&◌, ◌||◌, nat_le, nat_eq, if◌then◌else◌, List, [], ◌∷◌, count_by, codes, Option, Some, None, option_map, ok_or, Result, Ok, Err}
use Rattle.std.specs.Map.{lookup}
use Rattle.std.specs.List.{list_all, list_any}
use Rattle.std.specs.Cmp.Lexicographic.{pointwise}
use Rattle.mon_text.specs.Names.{is_name}
use Rattle.mon_acl.specs.declared.entries.Perms.{Perms}
use Rattle.mon_acl.specs.declared.entries.Tag.{Tag}
use Rattle.mon_acl.specs.declared.entries.Tag.TheVariants.{UserObj, User, GroupObj, Group, Mask, Other}
use Rattle.mon_acl.specs.declared.entries.Entry.{Entry}
use Rattle.mon_acl.specs.declared.refusals.AclError.{AclError}
use Rattle.mon_acl.specs.declared.refusals.AclError.TheVariants.{BadTag, BadQualifier, BadPerms, Missing, Twice, NoMask, TooMany}
use Rattle.mon_acl.specs.Entries.{has_tag, is_named, is_for, qualifier}
use Rattle.acl_text.specs.Texts.{fields, pieces, long_pieces, is_permission, times, may_leave_out}

-- what is tried first refuses first
infixl 10 ◌>>=◌
abbrev pub ◌>>=◌ : {A B : Type 0} → Result A AclError → (A → Result B AclError) → Result B AclError
(Ok x) >>= f = f x
(Err e) >>= f = Err e

-- a word, or the letter that stands for it
abbrev pub is_either : List ℕ → List ℕ → List ℕ → Bool
is_either word long short = pointwise nat_eq word long || pointwise nat_eq word short

-- the type of an entry that begins with this word and has no qualifier
abbrev pub type_of : List ℕ → Option Tag
type_of word =
    lookup (λ (names : List ℕ × List ℕ). is_either word names.0 names.1) (((codes "user", codes "u"), UserObj) ∷ ((codes "group", codes "g"), GroupObj)
    ∷ ((codes "mask", codes "m"), Mask) ∷ ((codes "other", codes "o"), Other) ∷ [])

-- the type of an entry of the same word that has a qualifier
abbrev pub named_type : Tag → Option Tag
named_type tag = elim tag [ UserObj ↦ Some User | GroupObj ↦ Some Group | _ ↦ None ]

-- the type of an entry and its name, by the qualifier
abbrev pub qualified : Tag → List ℕ → Option (Tag × Option (List ℕ))
qualified tag [] = Some (tag, None)
qualified tag (c ∷ cs) = if is_name (c ∷ cs) then option_map (λ t. (t, Some (c ∷ cs))) (named_type tag) else None

-- the qualifier and the permissions, of the fields behind the first
abbrev pub parts_of : Tag → List (List ℕ) → Option (List ℕ × List ℕ)
parts_of tag (name ∷ perms ∷ []) = Some (name, perms)
parts_of tag (perms ∷ []) = if may_leave_out tag then Some ([], perms) else None
parts_of tag _ = None

-- each permission at most once
abbrev pub is_perms : List ℕ → Bool
is_perms field = list_all is_permission field && nat_le (times 114 field) 1 && nat_le (times 119 field) 1 && nat_le (times 120 field) 1

-- the permissions that a field spells
abbrev pub perms_of : List ℕ → Option Perms
perms_of field =
    if is_perms field then Some (record { read = times 114 field == 1; write = times 119 field == 1; execute = times 120 field == 1 })
    else None

-- the entry of the n-th piece's fields: its type is tried first, then their number, the qualifier, the permissions
abbrev pub entry_of_fields : ℕ → List (List ℕ) → Result Entry AclError
entry_of_fields n [] = Err (BadTag n)
entry_of_fields n (word ∷ rest) =
    ok_or (type_of word) (BadTag n) >>= λ plain.
    ok_or (parts_of plain rest) (BadPerms n) >>= λ parts.
    ok_or (qualified plain parts.0) (BadQualifier n) >>= λ whole.
    ok_or (perms_of parts.1) (BadPerms n) >>= λ perms.
    Ok (record { tag = whole.0; name = whole.1; perms = perms })

-- the entry of the n-th piece, or why it has none
abbrev pub entry_of : ℕ → List ℕ → Result Entry AclError
entry_of n piece = entry_of_fields n (fields piece)

-- the entries so far with one more, the n-th; the 101st named entry is one too many (own)
abbrev pub joined : ℕ → Entry → List Entry → Result (List Entry) AclError
joined n e es =
    if list_any (is_for e.tag (qualifier e)) es then Err (Twice n)
    else if is_named e && (count_by is_named es == 100) then Err (TooMany n)
    else Ok (e ∷ es)

-- the entries of the pieces from the n-th on, with those before
abbrev pub entries_on : ℕ → List Entry → List (List ℕ) → Result (List Entry) AclError
entries_on n es [] = Ok es
entries_on n es (p ∷ ps) = entry_of n p >>= λ e. joined n e es >>= λ more. entries_on (n + 1) more ps

-- the entries of these texts, each tried in order, or the first refusal
abbrev pub entries_of : List (List ℕ) → Result (List Entry) AclError
entries_of texts = entries_on 1 [] texts

-- what the whole list lacks first
abbrev pub lacking : List Entry → Option AclError
lacking es =
    if not (list_any (has_tag UserObj) es) then Some (Missing UserObj)
    else if not (list_any (has_tag GroupObj) es) then Some (Missing GroupObj)
    else if not (list_any (has_tag Other) es) then Some (Missing Other)
    else if list_any is_named es && not (list_any (has_tag Mask) es) then Some NoMask
    else None

-- entry by entry, and then what the whole list lacks
abbrev pub refusal_in : Result (List Entry) AclError → Option AclError
refusal_in (Ok es) = lacking es
refusal_in (Err e) = Some e

-- the first refusal of the texts of entries; none where they spell a list
abbrev pub first_refusal : List (List ℕ) → Option AclError
first_refusal texts = refusal_in (entries_of texts)

-- the first refusal of a short text
abbrev pub acl_refusal : List ℕ → Option AclError
acl_refusal text = first_refusal (pieces text)

-- the first refusal of a long text
abbrev pub long_refusal : List ℕ → Option AclError
long_refusal text = first_refusal (long_pieces text)
