-- The lines of a printed list spell it, in any order and under any mask.
use Rattle.std.proofs.Common.{◌≡◌, ◌∙◌, ap, sym, subst, refl, ℕ, Bool, true, false, cond, List, [], ◌∷◌, ◌++◌, map, Option, Some, None, append_assoc, append-nil}
use Rattle.std.{specs.Prelude.{All, IsTrue, flat_map, codes}, specs.List.{filter, slice_split, AllZip}, proofs.lemmas.List.Sorted.{IsPermutation-sym}}
use Rattle.std.proofs.lemmas.List.{Elements.{All-nil, All-cons, All-head, All-tail, All-append, All-from_recursion}, Splits.{slice_split_at}}
use Rattle.mon_acl.specs.{declared.entries.Perms.{Perms}, declared.entries.Tag.{Tag}, declared.entries.Entry.{Entry}, Entries.{qualifier, IsEntry, tag_word}}
use Rattle.mon_acl.specs.declared.entries.Tag.TheVariants.{UserObj, User, GroupObj, Group, Mask, Other}
use Rattle.acl_text.specs.{Texts.{is_gap, is_hash, without_comment, long_pieces, SpellsFields, SpellsEntry}, Laws.{AnyLineOrder}}
use Rattle.acl_text.{specs.Printing.{perms_text, entry_text, effective, effective_text, long_line}, proofs.Comments.{up_to_hash, fields_blanks}}
use Rattle.acl_text.proofs.{Filled.{is_filled}, Valid.{valid_moved}, Spelling.{Lacks, hashes, line_feeds, perms_lack, entry_lacks, in_fields, printed_entry}}
use Rattle.mon_text.specs.Characters.{is_line_feed}

-- what is left of the comment: the tab before it
abbrev pub tab_of : Option Perms → List ℕ
tab_of None = []
tab_of (Some perms) = 9 ∷ []

-- a line without its comment
abbrev pub piece_of : Option Perms → Entry → List ℕ
piece_of mask e = entry_text e ++ tab_of (effective mask e)

comment_cut : (o : Option Perms) → without_comment (effective_text o) ≡ tab_of o
comment_cut None = refl
comment_cut (Some perms) = refl

comment_lacks : (o : Option Perms) → Lacks is_line_feed (effective_text o)
comment_lacks None = All-nil (λ c. is_line_feed c ≡ false)
comment_lacks (Some perms) =
    All-append (λ c. is_line_feed c ≡ false) (9 ∷ codes "#effective:") (perms_text perms)
    (All-from_recursion (λ c. is_line_feed c ≡ false) (9 ∷ codes "#effective:")
    (refl, (refl, (refl, (refl, (refl, (refl, (refl, (refl, (refl, (refl, (refl, (refl, tt)))))))))))))
    (perms_lack is_line_feed line_feeds perms)

line_cut : (mask : Option Perms) (e : Entry) → IsEntry e → without_comment (entry_text e ++ effective_text (effective mask e)) ≡ piece_of mask e
line_cut mask e v =
    up_to_hash (entry_text e) (effective_text (effective mask e)) (entry_lacks is_hash hashes refl e v)
    ∙ ap (λ (t : List ℕ). entry_text e ++ t) (comment_cut (effective mask e))

-- a line that begins with a word is not blank
word_filled : (t : Tag) (more : List ℕ) → is_filled (tag_word t ++ more) ≡ true
word_filled UserObj more = refl
word_filled User more = refl
word_filled GroupObj more = refl
word_filled Group more = refl
word_filled Mask more = refl
word_filled Other more = refl

pub entry_filled : (e : Entry) (more : List ℕ) → is_filled (entry_text e ++ more) ≡ true
entry_filled e more =
    ap (λ (t : List ℕ). is_filled (t ++ more)) (in_fields e)
    ∙ ap is_filled (append_assoc (tag_word e.tag) (58 ∷ (qualifier e ++ 58 ∷ perms_text e.perms)) more)
    ∙ word_filled e.tag (58 ∷ (qualifier e ++ 58 ∷ perms_text e.perms) ++ more)

lines_cut : (mask : Option Perms) (e : Entry) (es : List Entry) → IsEntry e →
    slice_split is_line_feed (flat_map (long_line mask) (e ∷ es))
    ≡ (entry_text e ++ effective_text (effective mask e)) ∷ slice_split is_line_feed (flat_map (long_line mask) es)
lines_cut mask e es v =
    let line = entry_text e ++ effective_text (effective mask e) in
    ap (slice_split is_line_feed) (append_assoc line (10 ∷ []) (flat_map (long_line mask) es))
    ∙ slice_split_at is_line_feed line 10 (flat_map (long_line mask) es)
    (All-append (λ c. is_line_feed c ≡ false) (entry_text e) (effective_text (effective mask e)) (entry_lacks is_line_feed line_feeds refl e v) (comment_lacks (effective mask e))) refl

printed_lines : (mask : Option Perms) (es : List Entry) → All IsEntry es → long_pieces (flat_map (long_line mask) es) ≡ map (piece_of mask) es
printed_lines mask [] v = refl
printed_lines mask (e ∷ es) v =
    let rest = filter is_filled (map without_comment (slice_split is_line_feed (flat_map (long_line mask) es))) in
    ap (λ (ls : List (List ℕ)). filter is_filled (map without_comment ls)) (lines_cut mask e es (All-head IsEntry e es v))
    ∙ ap (λ (l : List ℕ). cond (is_filled l) (l ∷ rest) rest) (line_cut mask e (All-head IsEntry e es v))
    ∙ ap (λ (b : Bool). cond b (piece_of mask e ∷ rest) rest) (entry_filled e (tab_of (effective mask e)))
    ∙ ap (λ (ls : List (List ℕ)). piece_of mask e ∷ ls) (printed_lines mask es (All-tail IsEntry e es v))

tab_spells : (o : Option Perms) (e : Entry) → IsEntry e → SpellsEntry (entry_text e ++ tab_of o) e
tab_spells None e v = subst (λ (t : List ℕ). SpellsEntry t e) (sym (append-nil (entry_text e))) (printed_entry e v)
tab_spells (Some perms) e v =
    let tab = All-cons (λ c. IsTrue (is_gap c)) 9 [] refl (All-nil (λ c. IsTrue (is_gap c))) in
    (v, subst (λ (fs : List (List ℕ)). SpellsFields fs e) (sym (fields_blanks (entry_text e) (9 ∷ []) tab)) (printed_entry e v).1)

each_line : (mask : Option Perms) (es : List Entry) → All IsEntry es → AllZip SpellsEntry (map (piece_of mask) es) es
each_line mask [] v = tt
each_line mask (e ∷ es) v = (tab_spells (effective mask e) e (All-head IsEntry e es v), each_line mask es (All-tail IsEntry e es v))

pub reordered_lines : AnyLineOrder
reordered_lines mask es ds acl m =
    let v = (valid_moved es ds m acl.valid).entries in
    (acl, ds, subst (λ (ps : List (List ℕ)). AllZip SpellsEntry ps ds) (sym (printed_lines mask ds v)) (each_line mask ds v), IsPermutation-sym es ds m)
