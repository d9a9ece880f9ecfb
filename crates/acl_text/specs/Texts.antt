-- Which text spells which entry, and which short or long text spells which permission list (acl(5) "ACL TEXT FORMS").
use Rattle.std.specs.Prelude.{◌≡◌, ℕ, ◌==◌, Bool, ◌||◌, not, if◌then◌else◌, List, [], ◌∷◌, map, reverse, count_by, ◌⊎◌, IsPermutation, IsTrue, codes}
use Rattle.std.specs.List.{list_all, filter, slice_split, AllZip}
use Rattle.mon_acl.specs.declared.entries.Perms.{Perms}
use Rattle.mon_acl.specs.declared.entries.Tag.{Tag}
use Rattle.mon_acl.specs.declared.entries.Tag.TheVariants.{UserObj, User, GroupObj, Group, Mask, Other}
use Rattle.mon_acl.specs.declared.entries.Entry.{Entry}
use Rattle.mon_acl.specs.Entries.{qualifier, is_tag, tag_word, IsEntry, IsAcl}
use Rattle.mon_text.specs.Characters.{is_comma, is_line_feed}
use Rattle.mon_text.specs.Beginnings.{without_leading}

-- a blank: a space or a tab
abbrev pub is_gap : ℕ → Bool
is_gap c = c == 32 || c == 9

-- the text without the blanks round it
abbrev pub trimmed : List ℕ → List ℕ
trimmed text = reverse (without_leading is_gap (reverse (without_leading is_gap text)))

-- `:`
abbrev pub is_colon : ℕ → Bool
is_colon c = c == 58

-- what stands between commas: the texts of the entries in the short form
abbrev pub pieces : List ℕ → List (List ℕ)
pieces text = slice_split is_comma text

-- `#`
abbrev pub is_hash : ℕ → Bool
is_hash c = c == 35

-- a line up to its comment, which is the first `#` and all behind it
abbrev pub without_comment : List ℕ → List ℕ
without_comment [] = []
without_comment (c ∷ cs) = if is_hash c then [] else c ∷ without_comment cs

-- what stands on the lines before their comments, where that is not blank: the texts of the entries in the long form
abbrev pub long_pieces : List ℕ → List (List ℕ)
long_pieces text = filter (λ line. not (list_all is_gap line)) (map without_comment (slice_split is_line_feed text))

-- what stands between colons, without the blanks round it: the fields of an entry's text
abbrev pub fields : List ℕ → List (List ℕ)
fields piece = map trimmed (slice_split is_colon piece)

-- the letter that may stand for the word
abbrev pub tag_letter : Tag → List ℕ
tag_letter UserObj = codes "u"
tag_letter User = codes "u"
tag_letter GroupObj = codes "g"
tag_letter Group = codes "g"
tag_letter Mask = codes "m"
tag_letter Other = codes "o"

-- the first field of an entry of the type
abbrev pub SpellsTag : List ℕ → Tag → Type 0
SpellsTag word t = (word ≡ tag_word t) ⊎ (word ≡ tag_letter t)

-- `r`, `w`, `x` and `-`
abbrev pub is_permission : ℕ → Bool
is_permission c = c == 114 || c == 119 || c == 120 || c == 45

-- how often a letter stands in a field
abbrev pub times : ℕ → List ℕ → ℕ
times letter field = count_by (λ c. c == letter) field

-- once where it holds, else never
abbrev pub once_if : Bool → ℕ
once_if held = if held then 1 else 0

-- each permission that is held once, in any order, and `-` anywhere (own)
abbrev pub SpellsPerms : List ℕ → Perms → Type 0
SpellsPerms field p =
    IsTrue (list_all is_permission field) × (times 114 field ≡ once_if p.read) ×
    (times 119 field ≡ once_if p.write) × (times 120 field ≡ once_if p.execute)

-- of a mask and of all others the empty qualifier and its colon may be left out
abbrev pub may_leave_out : Tag → Bool
may_leave_out t = is_tag t Mask || is_tag t Other

-- a type, a qualifier and permissions, or a type and permissions
abbrev pub SpellsFields : List (List ℕ) → Entry → Type 0
SpellsFields (word ∷ name ∷ perms ∷ []) e = SpellsTag word e.tag × (name ≡ qualifier e) × SpellsPerms perms e.perms
SpellsFields (word ∷ perms ∷ []) e = SpellsTag word e.tag × IsTrue (may_leave_out e.tag) × SpellsPerms perms e.perms
SpellsFields _ e = ⊥

-- a text and the entry that it spells
abbrev pub SpellsEntry : List ℕ → Entry → Type 0
SpellsEntry text e = IsEntry e × SpellsFields (fields text) e

-- the texts of entries, and the permission list that they spell, in any order
abbrev pub SpellList : List (List ℕ) → List Entry → Type 0
SpellList texts es = IsAcl es × (written : List Entry) × AllZip SpellsEntry texts written × IsPermutation written es

-- a text in the short form and the permission list that it spells
abbrev pub IsShortText : List ℕ → List Entry → Type 0
IsShortText text es = SpellList (pieces text) es

-- a text in the long form and the permission list that it spells
abbrev pub IsLongText : List ℕ → List Entry → Type 0
IsLongText text es = SpellList (long_pieces text) es
