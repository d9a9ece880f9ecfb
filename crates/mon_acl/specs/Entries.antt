-- Entries of a permission list, which lists are valid, and in which order they stand (acl(5) "ACL ENTRIES", "VALID ACLs").
use Rattle.std.specs.Prelude.{◌≡◌, ℕ, ◌<◌, ◌≤◌, ◌==◌, Bool, false, ◌&&◌, ◌||◌, List, [], ◌∷◌, length, count_by, All, HoldsAt, IsTrue, IsFalse, Option, option_map, MatchOption, nat_eq, codes}
use Rattle.std.specs.List.{list_any, find}
use Rattle.std.specs.List.Sorted.{IsStrictlySortedBy}
use Rattle.std.specs.Cmp.Lexicographic.{pointwise, slice_cmp}
use Rattle.std.specs.Ordering.{nat_cmp}
use Rattle.std.specs.declared.cmp.Ordering.{Ordering}
use Rattle.mon_text.specs.Names.{is_name}
use Rattle.mon_acl.specs.declared.entries.Perms.{Perms}
use Rattle.mon_acl.specs.declared.entries.Tag.{Tag}
use Rattle.mon_acl.specs.declared.entries.Tag.TheVariants.{UserObj, User, GroupObj, Group, Mask, Other}
use Rattle.mon_acl.specs.declared.entries.Entry.{Entry}
use Rattle.std.specs.Option.{is_none, option_map_or, unwrap_or}

-- the types in canonical order (own)
abbrev pub rank : Tag → ℕ
rank tag = elim tag [ UserObj ↦ 0 | User ↦ 1 | GroupObj ↦ 2 | Group ↦ 3 | Mask ↦ 4 | Other ↦ 5 ]

-- whether two types are the same
abbrev pub is_tag : Tag → Tag → Bool
is_tag t u = rank t == rank u

-- whether an entry is of a type
abbrev pub has_tag : Tag → Entry → Bool
has_tag t e = is_tag e.tag t

-- an entry for one user or group by name: ACL_USER and ACL_GROUP
abbrev pub is_named : Entry → Bool
is_named e = has_tag User e || has_tag Group e

-- the name that an entry is for; empty for an entry of the owner, the owning group, the mask and all others
abbrev pub qualifier : Entry → List ℕ
qualifier e = unwrap_or e.name []

-- an entry of this type for this name
abbrev pub is_for : Tag → List ℕ → Entry → Bool
is_for t name e = has_tag t e && pointwise nat_eq (qualifier e) name

-- where the entry of this type for this name stands, if there is one
abbrev pub IsIndexOf : Tag → List ℕ → List Entry → Option ℕ → Type 0
IsIndexOf t name es index = MatchOption index (IsFalse (list_any (is_for t name) es))
    (λ i. (i < length es) × HoldsAt (λ e. IsTrue (is_for t name e)) es i)

-- the word of a type (acl(5) "ACL TEXT FORMS")
abbrev pub tag_word : Tag → List ℕ
tag_word UserObj = codes "user"
tag_word User = codes "user"
tag_word GroupObj = codes "group"
tag_word Group = codes "group"
tag_word Mask = codes "mask"
tag_word Other = codes "other"

-- named users and groups have a name, other entries have none
abbrev pub is_qualified : Tag → Option (List ℕ) → Bool
is_qualified User name = option_map_or is_name name false
is_qualified Group name = option_map_or is_name name false
is_qualified _ name = is_none name

-- an entry that a list may have
abbrev pub IsEntry : Entry → Type 0
IsEntry e = IsTrue (is_qualified e.tag e.name)

-- the mask's permissions, where a list has one
abbrev pub mask_of : List Entry → Option Perms
mask_of es = option_map (λ e. e.perms) (find (has_tag Mask) es)

-- a valid list (acl(5) "VALID ACLs"), of at most 100 named entries (own)
pub record IsValidAcl (es : List Entry) : Type 0 where
  pub entries : All IsEntry es
  pub owner : count_by (has_tag UserObj) es ≡ 1
  pub owning_group : count_by (has_tag GroupObj) es ≡ 1
  pub other : count_by (has_tag Other) es ≡ 1
  pub one_mask : count_by (has_tag Mask) es ≤ 1
  pub masked : 0 < count_by is_named es → count_by (has_tag Mask) es ≡ 1
  pub users_differ : (name : List ℕ) → count_by (is_for User name) es ≤ 1
  pub groups_differ : (name : List ℕ) → count_by (is_for Group name) es ≤ 1
  pub few : count_by is_named es ≤ 100

-- what entries are sorted by: their type, and within a type their qualifier's bytes (own)
abbrev pub sort_key : Entry → List ℕ
sort_key e = rank e.tag ∷ qualifier e

-- which of two entries stands first
abbrev pub compared : Entry → Entry → Ordering
compared d e = slice_cmp nat_cmp (sort_key d) (sort_key e)

-- the canonical order: each entry stands before those after it (own)
abbrev pub IsCanonical : List Entry → Type 0
IsCanonical es = IsStrictlySortedBy compared es

-- a permission list: valid, in canonical order
pub record IsAcl (es : List Entry) : Type 0 where
  pub valid : IsValidAcl es
  pub canonical : IsCanonical es
