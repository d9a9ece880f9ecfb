-- The printed forms (acl(5) "ACL TEXT FORMS"; canonical order and full words are own).
use Rattle.std.specs.Prelude.{ℕ, Bool, ◌&&◌, ◌||◌, not, if◌then◌else◌, List, [], ◌∷◌, ◌++◌, map, flat_map, codes, Option, Some, None}
use Rattle.std.specs.List.{join_with_byte}
use Rattle.mon_acl.specs.declared.entries.Perms.{Perms}
use Rattle.mon_acl.specs.declared.entries.Tag.TheVariants.{User, GroupObj, Group}
use Rattle.mon_acl.specs.declared.entries.Entry.{Entry}
use Rattle.mon_acl.specs.Permissions.{holds, common}
use Rattle.mon_acl.specs.Entries.{has_tag, qualifier, tag_word, mask_of}

-- the letter of a permission, or `-`
abbrev pub letter : Bool → ℕ → ℕ
letter held c = if held then c else 45

-- the three places `rwx`
abbrev pub perms_text : Perms → List ℕ
perms_text p = letter p.read 114 ∷ letter p.write 119 ∷ letter p.execute 120 ∷ []

-- an entry without its permissions, as `user:lisa:`
abbrev pub entry_head : Entry → List ℕ
entry_head e = tag_word e.tag ++ 58 ∷ qualifier e ++ 58 ∷ []

-- an entry, as `user:lisa:rw-`
abbrev pub entry_text : Entry → List ℕ
entry_text e = entry_head e ++ perms_text e.perms

-- an entry behind another, with the comma between them
abbrev pub next_text : Entry → List ℕ
next_text e = 44 ∷ entry_text e

-- the entries in the order of the list, with commas between them
abbrev pub short_form : List Entry → List ℕ
short_form es = join_with_byte 44 (map entry_text es)

-- an entry that the mask limits: named users, the owning group and named groups
abbrev pub is_masked : Entry → Bool
is_masked e = has_tag User e || has_tag GroupObj e || has_tag Group e

-- what a mask leaves of an entry's permissions, where it takes any away
abbrev pub effective : Option Perms → Entry → Option Perms
effective None e = None
effective (Some mask) e = if is_masked e && not (holds mask e.perms) then Some (common e.perms mask) else None

-- the comment that tells them, as `#effective:r--`, behind a tab
abbrev pub effective_text : Option Perms → List ℕ
effective_text it = elim it [ None ↦ [] | Some perms ↦ 9 ∷ codes "#effective:" ++ perms_text perms ]

-- the line of an entry, under this mask
abbrev pub long_line : Option Perms → Entry → List ℕ
long_line mask e = entry_text e ++ effective_text (effective mask e) ++ 10 ∷ []

-- the entries in the order of the list, a line each
abbrev pub long_form : List Entry → List ℕ
long_form es = flat_map (long_line (mask_of es)) es
