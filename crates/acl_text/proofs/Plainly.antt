-- An entry that is spelled as it is printed, where a text begins with it, is the next piece.
use Rattle.std.proofs.Common.{◌≡◌, ◌∙◌, ap, sym, subst, refl, ℕ, Bool, true, false, cond, List, [], ◌∷◌, ◌++◌, map, Option, Some, None, append-nil, IfSome}
use Rattle.std.{specs.Prelude.{◌||◌, Ok}, specs.List.{filter, list_any, slice_split}, proofs.lemmas.List.Splits.{slice_split_at, slice_split_none}}
use Rattle.mon_text.specs.Characters.{is_comma, is_line_feed}
use Rattle.mon_acl.specs.{declared.entries.Entry.{Entry}, Entries.{IsEntry}}
use Rattle.acl_text.specs.{declared.pieces.Form.{Form}, declared.pieces.Form.TheVariants.{Short, Long}, Texts.{is_hash, without_comment}, Printing.{entry_text}}
use Rattle.acl_text.specs.inner.Building.{pieces_left, separator_of, separated, IsNext}
use Rattle.acl_text.proofs.Spelling.{commas, hashes, line_feeds, entry_lacks, printed_entry}
use Rattle.acl_text.proofs.{Filled.{is_filled}, Comments.{up_to_hash}, Lines.{entry_filled}, Spelled.{spelled_read}}

-- ---- the next piece

uncommented : (e : Entry) → IsEntry e → without_comment (entry_text e) ≡ entry_text e
uncommented e v =
    ap without_comment (sym (append-nil (entry_text e))) ∙ up_to_hash (entry_text e) [] (entry_lacks is_hash hashes refl e v) ∙ append-nil (entry_text e)

filled : (e : Entry) → is_filled (entry_text e) ≡ true
filled e = ap is_filled (sym (append-nil (entry_text e))) ∙ entry_filled e []

-- a line that has nothing but an entry is the first piece of a long text
line_first : (e : Entry) (more : List (List ℕ)) → IsEntry e →
    filter is_filled (map without_comment (entry_text e ∷ more)) ≡ entry_text e ∷ filter is_filled (map without_comment more)
line_first e more v =
    let rest = filter is_filled (map without_comment more) in
    ap (λ (l : List ℕ). cond (is_filled l) (l ∷ rest) rest) (uncommented e v)
    ∙ ap (λ (b : Bool). cond b (entry_text e ∷ rest) rest) (filled e)

plain_piece : (form : Form) (e : Entry) (after : Option (List ℕ)) → IsEntry e →
    pieces_left form (Some (entry_text e ++ separated (separator_of form) after)) ≡ entry_text e ∷ pieces_left form after
plain_piece Short e None v =
    ap (slice_split is_comma) (append-nil (entry_text e)) ∙ slice_split_none is_comma (entry_text e) (entry_lacks is_comma commas refl e v)
plain_piece Short e (Some rest) v = slice_split_at is_comma (entry_text e) 44 rest (entry_lacks is_comma commas refl e v) refl
plain_piece Long e None v =
    ap (λ (ls : List (List ℕ)). filter is_filled (map without_comment ls))
    (ap (slice_split is_line_feed) (append-nil (entry_text e)) ∙ slice_split_none is_line_feed (entry_text e) (entry_lacks is_line_feed line_feeds refl e v))
    ∙ line_first e [] v
plain_piece Long e (Some rest) v =
    ap (λ (ls : List (List ℕ)). filter is_filled (map without_comment ls))
    (slice_split_at is_line_feed (entry_text e) 10 rest (entry_lacks is_line_feed line_feeds refl e v) refl)
    ∙ line_first e (slice_split is_line_feed rest) v

pub plain_next : (form : Form) (n : ℕ) (e : Entry) (text : List ℕ) (rest after : Option (List ℕ)) → IsEntry e → rest ≡ Some text →
    text ≡ entry_text e ++ separated (separator_of form) after → IsNext form n rest after (Ok e)
plain_next form n e text rest after v h is = (
  entry_text e,
  ap (pieces_left form) (h ∙ ap (λ (t : List ℕ). Some t) is) ∙ plain_piece form e after v,
  sym (spelled_read n (entry_text e) e (printed_entry e v)),
)

any_behind : (p : ℕ → Bool) (xs ys : List ℕ) → list_any p (xs ++ ys) ≡ false → list_any p ys ≡ false
any_behind p [] ys h = h
any_behind p (x ∷ xs) ys h = at (p x) (any_behind p xs ys) h
  where
    at : (b : Bool) → (list_any p (xs ++ ys) ≡ false → list_any p ys ≡ false) → (b || list_any p (xs ++ ys)) ≡ false → list_any p ys ≡ false
    at true more h = absurd (let t : true ≡ false = h in cc)
    at false more h = more h

pub plain_clean : (p : ℕ → Bool) (s : ℕ) (e : Entry) (text : List ℕ) (rest after : Option (List ℕ)) → rest ≡ Some text → text ≡ entry_text e ++ separated s after →
    IfSome rest (λ t. list_any p t ≡ false) → IfSome after (λ t. list_any p t ≡ false)
plain_clean p s e text rest None h is none = tt
plain_clean p s e text rest (Some more) h is none =
    let clean : list_any p text ≡ false = subst (λ (o : Option (List ℕ)). IfSome o (λ t. list_any p t ≡ false)) h none in
    any_behind p (s ∷ []) more (any_behind p (entry_text e) (s ∷ more) (sym (ap (list_any p) is) ∙ clean))
