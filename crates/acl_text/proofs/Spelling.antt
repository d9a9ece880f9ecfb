-- What is printed spells the list: the parts of a printed entry and of a printed list.
use Rattle.std.proofs.Common.{◌≡◌, ◌∙◌, ap, sym, subst, refl, ℕ, Bool, true, false, cond, List, [], ◌∷◌, ◌++◌, map, reverse, Option, Some, None, inl, append_assoc, arith}
use Rattle.std.specs.{Prelude.{All, IsPermutation, IsTrue, ◌==◌, ◌&&◌, ◌||◌}, List.{list_all, slice_split, AllZip}, Option.{unwrap_or}}
use Rattle.std.proofs.lemmas.{Bool.{ne_eqb}, List.Elements.{All-nil, All-cons, All-head, All-tail, All-append, All-from_recursion}, List.{reverse-reverse}}
use Rattle.std.proofs.lemmas.List.{Sorted.{All-permutation, IsPermutation-reverse, IsPermutation-sym}, Splits.{slice_split_at, slice_split_none}}
use Rattle.mon_text.specs.{Characters.{is_letter, is_digit, is_comma, is_line_feed}, Names.{is_name, is_name_character}, Beginnings.{without_leading}}
use Rattle.mon_acl.specs.declared.entries.{Perms.{Perms}, Tag.{Tag}, Entry.{Entry}}
use Rattle.mon_acl.specs.declared.entries.Tag.TheVariants.{UserObj, User, GroupObj, Group, Mask, Other}
use Rattle.mon_acl.specs.Entries.{is_qualified, qualifier, IsEntry, IsValidAcl, IsAcl, tag_word}
use Rattle.acl_text.specs.Texts.{is_gap, is_colon, is_hash, trimmed, pieces, fields, SpellsPerms, SpellsFields, SpellsEntry, IsShortText}
use Rattle.acl_text.{specs.Printing.{letter, perms_text, entry_head, entry_text, short_form}, proofs.Spelled.{both}, proofs.Valid.{valid_moved}}

-- no character of the text passes the test
abbrev pub Lacks : (ℕ → Bool) → List ℕ → Type 0
Lacks p text = All (λ c. p c ≡ false) text

-- a test that no character of a name passes; then nothing of a word or of permissions passes it
abbrev pub Foreign : (ℕ → Bool) → Type 0
Foreign p = (c : ℕ) → is_name_character c ≡ true → p c ≡ false

not_in_names : (c k : ℕ) → is_name_character c ≡ true → is_name_character k ≡ false → (c == k) ≡ false
not_in_names c k h n = ne_eqb c k (λ e. let t : true ≡ false = sym h ∙ ap is_name_character e ∙ n in cc)

neither : (a b : Bool) → a ≡ false → b ≡ false → (a || b) ≡ false
neither a b h k = ap (λ t. t || b) h ∙ k

pub commas : Foreign is_comma
commas = λ c h. not_in_names c 44 h refl

pub colons : Foreign is_colon
colons = λ c h. not_in_names c 58 h refl

pub hashes : Foreign is_hash
hashes = λ c h. not_in_names c 35 h refl

pub line_feeds : Foreign is_line_feed
line_feeds = λ c h. not_in_names c 10 h refl

pub gaps : Foreign is_gap
gaps = λ c h. neither (c == 32) (c == 9) (not_in_names c 32 h refl) (not_in_names c 9 h refl)

-- ---- names

letter_of_name : (c : ℕ) → is_letter c ≡ true → is_name_character c ≡ true
letter_of_name c h = ap (λ (b : Bool). b || is_digit c || c == 46 || c == 95 || c == 45) h

name_characters : (p : ℕ → Bool) → Foreign p → (cs : List ℕ) → list_all is_name_character cs ≡ true → Lacks p cs
name_characters p f [] h = All-nil (λ c. p c ≡ false)
name_characters p f (c ∷ cs) h =
    let b = both (is_name_character c) (list_all is_name_character cs) h in
    All-cons (λ c. p c ≡ false) c cs (f c b.0) (name_characters p f cs b.1)

name_lacks : (p : ℕ → Bool) → Foreign p → (name : List ℕ) → is_name name ≡ true → Lacks p name
name_lacks p f [] h = All-nil (λ c. p c ≡ false)
name_lacks p f (c ∷ cs) h =
    let a = both (is_letter c && list_all is_name_character cs) _ h in
    let b = both (is_letter c) (list_all is_name_character cs) a.0 in
    All-cons (λ c. p c ≡ false) c cs (f c (letter_of_name c b.0)) (name_characters p f cs b.1)

qualifier_lacks : (p : ℕ → Bool) → Foreign p → (t : Tag) (o : Option (List ℕ)) → IsTrue (is_qualified t o) → Lacks p (unwrap_or o [])
qualifier_lacks p f t None h = All-nil (λ c. p c ≡ false)
qualifier_lacks p f User (Some name) h = name_lacks p f name h
qualifier_lacks p f Group (Some name) h = name_lacks p f name h
qualifier_lacks p f UserObj (Some name) h = absurd (let k : false ≡ true = h in cc)
qualifier_lacks p f GroupObj (Some name) h = absurd (let k : false ≡ true = h in cc)
qualifier_lacks p f Mask (Some name) h = absurd (let k : false ≡ true = h in cc)
qualifier_lacks p f Other (Some name) h = absurd (let k : false ≡ true = h in cc)

words_lack : (p : ℕ → Bool) → Foreign p → (t : Tag) → Lacks p (tag_word t)
words_lack p f UserObj = name_lacks p f (tag_word UserObj) refl
words_lack p f User = name_lacks p f (tag_word User) refl
words_lack p f GroupObj = name_lacks p f (tag_word GroupObj) refl
words_lack p f Group = name_lacks p f (tag_word Group) refl
words_lack p f Mask = name_lacks p f (tag_word Mask) refl
words_lack p f Other = name_lacks p f (tag_word Other) refl

letter_lacks : (p : ℕ → Bool) → Foreign p → (held : Bool) (c : ℕ) → is_name_character c ≡ true → p (letter held c) ≡ false
letter_lacks p f true c h = f c h
letter_lacks p f false c h = f 45 refl

pub perms_lack : (p : ℕ → Bool) → Foreign p → (q : Perms) → Lacks p (perms_text q)
perms_lack p f q =
    All-from_recursion (λ c. p c ≡ false) (perms_text q)
    (letter_lacks p f q.read 114 refl, (letter_lacks p f q.write 119 refl, (letter_lacks p f q.execute 120 refl, tt)))

pub entry_lacks : (p : ℕ → Bool) → Foreign p → p 58 ≡ false → (e : Entry) → IsEntry e → Lacks p (entry_text e)
entry_lacks p f colon e v =
    let P : ℕ → Type 0 = λ c. p c ≡ false in
    All-append P (entry_head e) (perms_text e.perms)
    (All-append P (tag_word e.tag ++ 58 ∷ qualifier e) (58 ∷ [])
    (All-append P (tag_word e.tag) (58 ∷ qualifier e) (words_lack p f e.tag)
    (All-cons P 58 (qualifier e) colon (qualifier_lacks p f e.tag e.name v)))
    (All-cons P 58 [] colon (All-nil P)))
    (perms_lack p f e.perms)

-- ---- a field that has no gap is as it was

front_stays : (text : List ℕ) → Lacks is_gap text → without_leading is_gap text ≡ text
front_stays [] h = refl
front_stays (c ∷ cs) h = ap (λ (b : Bool). cond b (without_leading is_gap cs) (c ∷ cs)) (All-head (λ c. is_gap c ≡ false) c cs h)

stays : (text : List ℕ) → Lacks is_gap text → trimmed text ≡ text
stays text h =
    ap (λ (t : List ℕ). reverse (without_leading is_gap (reverse t))) (front_stays text h)
    ∙ ap reverse (front_stays (reverse text) (All-permutation (λ c. is_gap c ≡ false) text (reverse text) (IsPermutation-reverse text) h))
    ∙ reverse-reverse text

-- ---- an entry

pub in_fields : (e : Entry) → entry_text e ≡ tag_word e.tag ++ 58 ∷ (qualifier e ++ 58 ∷ perms_text e.perms)
in_fields e =
    append_assoc (tag_word e.tag ++ 58 ∷ qualifier e) (58 ∷ []) (perms_text e.perms)
    ∙ append_assoc (tag_word e.tag) (58 ∷ qualifier e) (58 ∷ perms_text e.perms)

printed_parts : (e : Entry) → IsEntry e → slice_split is_colon (entry_text e) ≡ tag_word e.tag ∷ qualifier e ∷ perms_text e.perms ∷ []
printed_parts e v =
    ap (slice_split is_colon) (in_fields e)
    ∙ slice_split_at is_colon (tag_word e.tag) 58 (qualifier e ++ 58 ∷ perms_text e.perms) (words_lack is_colon colons e.tag) refl
    ∙ ap (λ (l : List (List ℕ)). tag_word e.tag ∷ l)
    (slice_split_at is_colon (qualifier e) 58 (perms_text e.perms) (qualifier_lacks is_colon colons e.tag e.name v) refl
    ∙ ap (λ (l : List (List ℕ)). qualifier e ∷ l) (slice_split_none is_colon (perms_text e.perms) (perms_lack is_colon colons e.perms)))

printed_fields : (e : Entry) → IsEntry e → fields (entry_text e) ≡ tag_word e.tag ∷ qualifier e ∷ perms_text e.perms ∷ []
printed_fields e v =
    ap (map trimmed) (printed_parts e v)
    ∙ ap (λ (w : List ℕ). w ∷ trimmed (qualifier e) ∷ trimmed (perms_text e.perms) ∷ []) (stays (tag_word e.tag) (words_lack is_gap gaps e.tag))
    ∙ ap (λ (w : List ℕ). tag_word e.tag ∷ w ∷ trimmed (perms_text e.perms) ∷ []) (stays (qualifier e) (qualifier_lacks is_gap gaps e.tag e.name v))
    ∙ ap (λ (w : List ℕ). tag_word e.tag ∷ qualifier e ∷ w ∷ []) (stays (perms_text e.perms) (perms_lack is_gap gaps e.perms))

places_spell : (r w x : Bool) → SpellsPerms (letter r 114 ∷ letter w 119 ∷ letter x 120 ∷ []) (record { read = r; write = w; execute = x })
places_spell true true true = (refl, refl, refl, refl)
places_spell true true false = (refl, refl, refl, refl)
places_spell true false true = (refl, refl, refl, refl)
places_spell true false false = (refl, refl, refl, refl)
places_spell false true true = (refl, refl, refl, refl)
places_spell false true false = (refl, refl, refl, refl)
places_spell false false true = (refl, refl, refl, refl)
places_spell false false false = (refl, refl, refl, refl)

pub printed_entry : (e : Entry) → IsEntry e → SpellsEntry (entry_text e) e
printed_entry e v =
    (v, subst (λ (fs : List (List ℕ)). SpellsFields fs e) (sym (printed_fields e v)) (inl refl, refl, places_spell e.perms.read e.perms.write e.perms.execute))

-- ---- a list

pub printed_pieces : (e : Entry) (es : List Entry) → All IsEntry (e ∷ es) → pieces (short_form (e ∷ es)) ≡ map entry_text (e ∷ es)
printed_pieces e [] v = slice_split_none is_comma (entry_text e) (entry_lacks is_comma commas refl e (All-head IsEntry e [] v))
printed_pieces e (d ∷ es) v =
    slice_split_at is_comma (entry_text e) 44 (short_form (d ∷ es)) (entry_lacks is_comma commas refl e (All-head IsEntry e (d ∷ es) v)) refl
    ∙ ap (λ (l : List (List ℕ)). entry_text e ∷ l) (printed_pieces d es (All-tail IsEntry e (d ∷ es) v))

each_printed : (es : List Entry) → All IsEntry es → AllZip SpellsEntry (map entry_text es) es
each_printed [] v = tt
each_printed (e ∷ es) v = (printed_entry e (All-head IsEntry e es v), each_printed es (All-tail IsEntry e es v))

-- the entries' texts in any order spell the list
pub reordered : (es ds : List Entry) → IsAcl es → IsPermutation es ds → IsShortText (short_form ds) es
reordered es ds acl m = at ds m (valid_moved es ds m acl.valid)
  where
    at : (ds : List Entry) → IsPermutation es ds → IsValidAcl ds → IsShortText (short_form ds) es
    at [] m v = absurd (omega (arith, v.owner))
    at (d ∷ ds) m v =
        (acl, d ∷ ds, subst (λ (ps : List (List ℕ)). AllZip SpellsEntry ps (d ∷ ds)) (sym (printed_pieces d ds v.entries)) (each_printed (d ∷ ds) v.entries), IsPermutation-sym es (d ∷ ds) m)
