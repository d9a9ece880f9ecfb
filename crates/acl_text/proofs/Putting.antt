-- The parts of the printed forms, put to a sink one behind the other.
use Rattle.std.proofs.Common.{◌≡◌, ◌∙◌, ap, subst, ℕ, ◌≤◌, ◌-◌, List, [], ◌∷◌, ◌++◌, length, take, drop, get_or, Option}
use Rattle.std.specs.Prelude.{flat_map}
use Rattle.mon_device.{specs.Putting.{Standing, Puts}, proofs.Putting.{puts_same, puts_then}}
use Rattle.mon_acl.specs.{declared.entries.Perms.{Perms}, declared.entries.Entry.{Entry}, Entries.{qualifier, tag_word}}
use Rattle.acl_text.specs.Printing.{letter, perms_text, entry_head, entry_text, next_text, short_form, effective, effective_text, long_line}
use Rattle.acl_text.proofs.Printed.{whole_form}

pub perms_put : (a b : Standing) (perms : Perms) (r w x : ℕ) → r ≡ letter perms.read 114 → w ≡ letter perms.write 119 → x ≡ letter perms.execute 120
    → Puts a b (r ∷ w ∷ x ∷ []) → Puts a b (perms_text perms)
perms_put a b perms r w x is_r is_w is_x =
    puts_same a b (r ∷ w ∷ x ∷ []) (perms_text perms)
    (ap (λ (c : ℕ). c ∷ w ∷ x ∷ []) is_r ∙ ap (λ (c : ℕ). letter perms.read 114 ∷ c ∷ x ∷ []) is_w
    ∙ ap (λ (c : ℕ). letter perms.read 114 ∷ letter perms.write 119 ∷ c ∷ []) is_x)

pub head_put : (a b c d e : Standing) (word name : List ℕ) (entry : Entry) → word ≡ tag_word entry.tag → name ≡ qualifier entry
    → Puts a b word → Puts b c (58 ∷ []) → Puts c d name → Puts d e (58 ∷ []) → Puts a e (entry_head entry)
head_put a b c d e word name entry is_word is_name one two three four =
    puts_then a d e (tag_word entry.tag ++ 58 ∷ qualifier entry) (58 ∷ [])
    (puts_then a b d (tag_word entry.tag) (58 ∷ qualifier entry) (puts_same a b word (tag_word entry.tag) is_word one)
    (puts_then b c d (58 ∷ []) (qualifier entry) two (puts_same c d name (qualifier entry) is_name three))) four

-- the line of an entry under a mask that is the same
pub line_so : (a b : Standing) (mask given : Option Perms) (entry : Entry) → given ≡ mask → Puts a b (long_line given entry) → Puts a b (long_line mask entry)
line_so a b mask given entry same put = subst (λ (m : Option Perms). Puts a b (long_line m entry)) same put

pub line_put : (a b c d : Standing) (mask left : Option Perms) (entry : Entry) → left ≡ effective mask entry
    → Puts a b (entry_text entry) → Puts b c (effective_text left) → Puts c d (10 ∷ []) → Puts a d (long_line mask entry)
line_put a b c d mask left entry is one two three =
    puts_then a c d (entry_text entry ++ effective_text (effective mask entry)) (10 ∷ [])
    (puts_then a b c (entry_text entry) (effective_text (effective mask entry)) one (puts_same b c (effective_text left) _ (ap effective_text is) two)) three

-- the first entry, and a comma before each other
pub short_put : (xs self : List Entry) (x : Entry) (a b c : Standing) → xs ≡ self → 1 ≤ length xs → x ≡ get_or xs 0 x
    → Puts a b (entry_text x) → Puts b c (flat_map next_text (take (length xs - 1) (drop 1 xs))) → Puts a c (short_form self)
short_put xs self x a b c same l is one others =
    puts_same a c (entry_text x ++ flat_map next_text (take (length xs - 1) (drop 1 xs))) (short_form self)
    (whole_form xs self x same l is)
    (puts_then a b c (entry_text x) (flat_map next_text (take (length xs - 1) (drop 1 xs))) one others)
