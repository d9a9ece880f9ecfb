-- A comment at the end of a line changes nothing of what a long text says; blanks behind an entry's text change nothing of its fields.
use Rattle.std.proofs.Common.{◌≡◌, ◌∙◌, ap, sym, subst, refl, ℕ, ◌+◌, Bool, true, false, cond, List, [], ◌∷◌, ◌++◌, map, reverse, not, ◌⊎◌, inl, inr, append_assoc, append-nil}
use Rattle.std.specs.{Prelude.{Result, Ok, Err, All, IsTrue, ◌==◌, ◌&&◌, ◌||◌}, List.{list_all, filter, slice_split, onto_first, AllZip}}
use Rattle.std.proofs.lemmas.{Bool.{eqb-true}, List.{reverse-append}, List.Elements.{All-head, All-tail, All-cons, All-append}}
use Rattle.std.proofs.lemmas.List.{Sorted.{All-permutation, IsPermutation-reverse}, Splits.{slice_split_at, slice_split_none, slice_split-cons_yes}}
use Rattle.mon_acl.specs.declared.{entries.Entry.{Entry}, refusals.AclError.{AclError}}
use Rattle.acl_text.specs.{Texts.{is_gap, is_colon, is_hash, trimmed, fields, without_comment, long_pieces}, Reading.{arranged, read_long}}
use Rattle.acl_text.specs.{Refusals.{◌>>=◌, entry_of_fields, joined, lacking, entries_on}, Laws.{BeginsLine, CommentsSayNothing}}
use Rattle.acl_text.proofs.{Filled.{is_filled}, Lacks.{whole}}
use Rattle.mon_text.specs.{Characters.{is_line_feed}, Beginnings.{without_leading}}

abbrev pub AreGaps : List ℕ → Type 0
AreGaps blanks = All (λ c. IsTrue (is_gap c)) blanks

-- ---- a text that is cut, and one that is longer by a tail at the end of one part

-- the same part, or one that is longer by the tail
abbrev pub Longer : List ℕ → List ℕ → List ℕ → Type 0
Longer tail l m = (l ≡ m) ⊎ (l ≡ m ++ tail)

-- nothing, or a separator and more
abbrev pub Ends : (ℕ → Bool) → List ℕ → Type 0
Ends p rest = (rest ≡ []) ⊎ ((c : ℕ) × (more : List ℕ) × (p c ≡ true) × (rest ≡ c ∷ more))

each_same : (tail : List ℕ) (xs : List (List ℕ)) → AllZip (Longer tail) xs xs
each_same tail [] = tt
each_same tail (x ∷ xs) = (inl refl, each_same tail xs)

onto_longer : (tail : List ℕ) (c : ℕ) (ls ms : List (List ℕ)) → AllZip (Longer tail) ls ms → AllZip (Longer tail) (onto_first c ls) (onto_first c ms)
onto_longer tail c [] [] z = (inl refl, tt)
onto_longer tail c [] (m ∷ ms) z = absurd z
onto_longer tail c (l ∷ ls) [] z = absurd z
onto_longer tail c (l ∷ ls) (m ∷ ms) z = (at z.0, z.1)
  where
    at : Longer tail l m → Longer tail (c ∷ l) (c ∷ m)
    at (inl e) = inl (ap (λ (t : List ℕ). c ∷ t) e)
    at (inr e) = inr (ap (λ (t : List ℕ). c ∷ t) e)

tail_alone : (p : ℕ → Bool) (tail rest : List ℕ) → All (λ c. p c ≡ false) tail → Ends p rest → AllZip (Longer tail) (slice_split p (tail ++ rest)) (slice_split p rest)
tail_alone p tail rest lacks (inl e) =
    subst (λ (r : List ℕ). AllZip (Longer tail) (slice_split p (tail ++ r)) (slice_split p r)) (sym e)
    (subst (λ (ls : List (List ℕ)). AllZip (Longer tail) ls ([] ∷ [])) (sym (ap (slice_split p) (append-nil tail) ∙ slice_split_none p tail lacks)) (inr refl, tt))
tail_alone p tail rest lacks (inr (c, more, h, e)) =
    subst (λ (r : List ℕ). AllZip (Longer tail) (slice_split p (tail ++ r)) (slice_split p r)) (sym e)
    (subst (λ (ls : List (List ℕ)). AllZip (Longer tail) ls (slice_split p (c ∷ more))) (sym (slice_split_at p tail c more lacks h))
    (subst (λ (ms : List (List ℕ)). AllZip (Longer tail) (tail ∷ slice_split p more) ms) (sym (slice_split-cons_yes p c more h)) (inr refl, each_same tail (slice_split p more))))

parts_longer : (p : ℕ → Bool) (before tail rest : List ℕ) → All (λ c. p c ≡ false) tail → Ends p rest →
    AllZip (Longer tail) (slice_split p (before ++ (tail ++ rest))) (slice_split p (before ++ rest))
parts_longer p [] tail rest lacks ends = tail_alone p tail rest lacks ends
parts_longer p (c ∷ cs) tail rest lacks ends = at (p c) (parts_longer p cs tail rest lacks ends)
  where
    at : (b : Bool) → AllZip (Longer tail) (slice_split p (cs ++ (tail ++ rest))) (slice_split p (cs ++ rest)) →
        AllZip (Longer tail) (cond b ([] ∷ slice_split p (cs ++ (tail ++ rest))) (onto_first c (slice_split p (cs ++ (tail ++ rest)))))
        (cond b ([] ∷ slice_split p (cs ++ rest)) (onto_first c (slice_split p (cs ++ rest))))
    at true z = (inl refl, z)
    at false z = onto_longer tail c (slice_split p (cs ++ (tail ++ rest))) (slice_split p (cs ++ rest)) z

-- ---- blanks behind a field, and behind an entry's text

gaps_skipped : (blanks text : List ℕ) → AreGaps blanks → without_leading is_gap (blanks ++ text) ≡ without_leading is_gap text
gaps_skipped [] text g = refl
gaps_skipped (c ∷ cs) text g =
    ap (λ (b : Bool). cond b (without_leading is_gap (cs ++ text)) (c ∷ (cs ++ text))) (All-head (λ c. IsTrue (is_gap c)) c cs g)
    ∙ gaps_skipped cs text (All-tail (λ c. IsTrue (is_gap c)) c cs g)

gaps_gone : (blanks : List ℕ) → AreGaps blanks → without_leading is_gap blanks ≡ []
gaps_gone blanks g = ap (without_leading is_gap) (sym (append-nil blanks)) ∙ gaps_skipped blanks [] g

front : (text blanks : List ℕ) → AreGaps blanks →
    (without_leading is_gap (text ++ blanks) ≡ without_leading is_gap text ++ blanks) ⊎ ((without_leading is_gap (text ++ blanks) ≡ []) × (without_leading is_gap text ≡ []))
front [] blanks g = inr (gaps_gone blanks g, refl)
front (c ∷ cs) blanks g = at (is_gap c) (front cs blanks g)
  where
    at : (b : Bool) →
        (without_leading is_gap (cs ++ blanks) ≡ without_leading is_gap cs ++ blanks) ⊎ ((without_leading is_gap (cs ++ blanks) ≡ []) × (without_leading is_gap cs ≡ [])) →
        (cond b (without_leading is_gap (cs ++ blanks)) (c ∷ (cs ++ blanks)) ≡ cond b (without_leading is_gap cs) (c ∷ cs) ++ blanks)
        ⊎ ((cond b (without_leading is_gap (cs ++ blanks)) (c ∷ (cs ++ blanks)) ≡ []) × (cond b (without_leading is_gap cs) (c ∷ cs) ≡ []))
    at true more = more
    at false more = inl refl

trimmed_blanks : (text blanks : List ℕ) → AreGaps blanks → trimmed (text ++ blanks) ≡ trimmed text
trimmed_blanks text blanks g = at (front text blanks g)
  where
    at : (without_leading is_gap (text ++ blanks) ≡ without_leading is_gap text ++ blanks) ⊎ ((without_leading is_gap (text ++ blanks) ≡ []) × (without_leading is_gap text ≡ [])) →
        trimmed (text ++ blanks) ≡ trimmed text
    at (inl e) =
        ap (λ (t : List ℕ). reverse (without_leading is_gap (reverse t))) e
        ∙ ap (λ (t : List ℕ). reverse (without_leading is_gap t)) (reverse-append (without_leading is_gap text) blanks)
        ∙ ap reverse (gaps_skipped (reverse blanks) (reverse (without_leading is_gap text)) (All-permutation (λ c. IsTrue (is_gap c)) blanks (reverse blanks) (IsPermutation-reverse blanks) g))
    at (inr e) = ap (λ (t : List ℕ). reverse (without_leading is_gap (reverse t))) (e.0 ∙ sym e.1)

trimmed_longer : (blanks : List ℕ) → AreGaps blanks → (ls ms : List (List ℕ)) → AllZip (Longer blanks) ls ms → map trimmed ls ≡ map trimmed ms
trimmed_longer blanks g [] [] z = refl
trimmed_longer blanks g [] (m ∷ ms) z = absurd z
trimmed_longer blanks g (l ∷ ls) [] z = absurd z
trimmed_longer blanks g (l ∷ ls) (m ∷ ms) z =
    ap (λ (t : List ℕ). t ∷ map trimmed ls) (at z.0) ∙ ap (λ (ts : List (List ℕ)). trimmed m ∷ ts) (trimmed_longer blanks g ls ms z.1)
  where
    at : Longer blanks l m → trimmed l ≡ trimmed m
    at (inl e) = ap trimmed e
    at (inr e) = ap trimmed e ∙ trimmed_blanks m blanks g

-- a test that no blank passes
gaps_lack : (p : ℕ → Bool) → p 32 ≡ false → p 9 ≡ false → (c : ℕ) → is_gap c ≡ true → p c ≡ false
gaps_lack p space tab c h = at (c == 32) refl (c == 9) refl h
  where
    at : (a : Bool) → (c == 32) ≡ a → (b : Bool) → (c == 9) ≡ b → (a || b) ≡ true → p c ≡ false
    at true e b f h = ap p (eqb-true c 32 e) ∙ space
    at false e true f h = ap p (eqb-true c 9 f) ∙ tab
    at false e false f h = absurd (let k : false ≡ true = h in cc)

blanks_lack : (p : ℕ → Bool) → p 32 ≡ false → p 9 ≡ false → (blanks : List ℕ) → AreGaps blanks → All (λ c. p c ≡ false) blanks
blanks_lack p space tab blanks g = λ k d h. gaps_lack p space tab _ (g k d h)

pub fields_blanks : (text blanks : List ℕ) → AreGaps blanks → fields (text ++ blanks) ≡ fields text
fields_blanks text blanks g =
    trimmed_longer blanks g (slice_split is_colon (text ++ blanks)) (slice_split is_colon text)
    (subst (λ (t : List ℕ). AllZip (Longer blanks) (slice_split is_colon (text ++ t)) (slice_split is_colon text)) (append-nil blanks)
    (subst (λ (t : List ℕ). AllZip (Longer blanks) (slice_split is_colon (text ++ (blanks ++ []))) (slice_split is_colon t)) (append-nil text)
    (parts_longer is_colon text blanks [] (blanks_lack is_colon refl refl blanks g) (inl refl))))

-- ---- a line

all_blanks : (blanks : List ℕ) → AreGaps blanks → list_all is_gap blanks ≡ true
all_blanks [] g = refl
all_blanks (c ∷ cs) g =
    ap (λ (b : Bool). b && list_all is_gap cs) (All-head (λ c. IsTrue (is_gap c)) c cs g)
    ∙ all_blanks cs (All-tail (λ c. IsTrue (is_gap c)) c cs g)

filled_blanks : (text blanks : List ℕ) → AreGaps blanks → list_all is_gap (text ++ blanks) ≡ list_all is_gap text
filled_blanks [] blanks g = all_blanks blanks g
filled_blanks (c ∷ cs) blanks g = ap (λ (b : Bool). is_gap c && b) (filled_blanks cs blanks g)

-- what stands before the first `#`
pub up_to_hash : (text more : List ℕ) → All (λ c. is_hash c ≡ false) text → without_comment (text ++ more) ≡ text ++ without_comment more
up_to_hash [] more h = refl
up_to_hash (c ∷ cs) more h =
    ap (λ (b : Bool). cond b [] (c ∷ without_comment (cs ++ more))) (All-head (λ c. is_hash c ≡ false) c cs h)
    ∙ ap (λ (t : List ℕ). c ∷ t) (up_to_hash cs more (All-tail (λ c. is_hash c ≡ false) c cs h))

before_comment : (text blanks words : List ℕ) → AreGaps blanks → Longer blanks (without_comment (text ++ (blanks ++ 35 ∷ words))) (without_comment text)
before_comment [] blanks words g = inr (up_to_hash blanks (35 ∷ words) (blanks_lack is_hash refl refl blanks g) ∙ append-nil blanks)
before_comment (c ∷ cs) blanks words g = at (is_hash c) (before_comment cs blanks words g)
  where
    more : Longer blanks (without_comment (cs ++ (blanks ++ 35 ∷ words))) (without_comment cs) →
        Longer blanks (c ∷ without_comment (cs ++ (blanks ++ 35 ∷ words))) (c ∷ without_comment cs)
    more (inl e) = inl (ap (λ (t : List ℕ). c ∷ t) e)
    more (inr e) = inr (ap (λ (t : List ℕ). c ∷ t) e)

    at : (b : Bool) → Longer blanks (without_comment (cs ++ (blanks ++ 35 ∷ words))) (without_comment cs) →
        Longer blanks (cond b [] (c ∷ without_comment (cs ++ (blanks ++ 35 ∷ words)))) (cond b [] (c ∷ without_comment cs))
    at true h = inl refl
    at false h = more h

-- two texts with the same fields, of which both or none is blank
pub record Alike (x y : List ℕ) : Type 0 where
  pub same_fields : fields x ≡ fields y
  pub same_blank : list_all is_gap x ≡ list_all is_gap y

alike_blanks : (blanks x y : List ℕ) → AreGaps blanks → Longer blanks x y → Alike x y
alike_blanks blanks x y g (inl e) = record { same_fields = ap fields e; same_blank = ap (list_all is_gap) e }
alike_blanks blanks x y g (inr e) = record {
  same_fields = ap fields e ∙ fields_blanks y blanks g;
  same_blank = ap (list_all is_gap) e ∙ filled_blanks y blanks g;
}

alike_lines : (blanks words l m : List ℕ) → AreGaps blanks → Longer (blanks ++ 35 ∷ words) l m → Alike (without_comment l) (without_comment m)
alike_lines blanks words l m g (inl e) = alike_blanks blanks (without_comment l) (without_comment m) g (inl (ap without_comment e))
alike_lines blanks words l m g (inr e) =
    subst (λ (t : List ℕ). Alike (without_comment t) (without_comment m)) (sym e)
    (alike_blanks blanks (without_comment (m ++ (blanks ++ 35 ∷ words))) (without_comment m) g (before_comment m blanks words g))

-- ---- the texts of the entries

alike_pieces : (blanks words : List ℕ) → AreGaps blanks → (ls ms : List (List ℕ)) → AllZip (Longer (blanks ++ 35 ∷ words)) ls ms →
    AllZip Alike (filter is_filled (map without_comment ls)) (filter is_filled (map without_comment ms))
alike_pieces blanks words g [] [] z = tt
alike_pieces blanks words g [] (m ∷ ms) z = absurd z
alike_pieces blanks words g (l ∷ ls) [] z = absurd z
alike_pieces blanks words g (l ∷ ls) (m ∷ ms) z =
    let here = alike_lines blanks words l m g z.0 in
    at (list_all is_gap (without_comment l)) (list_all is_gap (without_comment m)) here.same_blank here
    (filter is_filled (map without_comment ls)) (filter is_filled (map without_comment ms)) (alike_pieces blanks words g ls ms z.1)
  where
    at : (a b : Bool) → a ≡ b → Alike (without_comment l) (without_comment m) → (xs ys : List (List ℕ)) → AllZip Alike xs ys →
        AllZip Alike (cond (not a) (without_comment l ∷ xs) xs) (cond (not b) (without_comment m ∷ ys) ys)
    at true true e here xs ys more = more
    at false false e here xs ys more = (here, more)
    at true false e here xs ys more = absurd (let k : true ≡ false = e in cc)
    at false true e here xs ys more = absurd (let k : false ≡ true = e in cc)

alike_entries : (n : ℕ) (es : List Entry) (xs ys : List (List ℕ)) → AllZip Alike xs ys → entries_on n es xs ≡ entries_on n es ys
alike_entries n es [] [] z = refl
alike_entries n es [] (y ∷ ys) z = absurd z
alike_entries n es (x ∷ xs) [] z = absurd z
alike_entries n es (x ∷ xs) (y ∷ ys) z =
    ap (λ (fs : List (List ℕ)). entry_of_fields n fs >>= λ e. joined n e es >>= λ more. entries_on (n + 1) more xs) z.0.same_fields
    ∙ first (entry_of_fields n (fields y)) (λ more. alike_entries (n + 1) more xs ys z.1)
  where
    then : (j : Result (List Entry) AclError) → ((more : List Entry) → entries_on (n + 1) more xs ≡ entries_on (n + 1) more ys) →
        (j >>= λ more. entries_on (n + 1) more xs) ≡ (j >>= λ more. entries_on (n + 1) more ys)
    then (Ok more) rest = rest more
    then (Err e) rest = refl

    first : (r : Result Entry AclError) → ((more : List Entry) → entries_on (n + 1) more xs ≡ entries_on (n + 1) more ys) →
        (r >>= λ e. joined n e es >>= λ more. entries_on (n + 1) more xs) ≡ (r >>= λ e. joined n e es >>= λ more. entries_on (n + 1) more ys)
    first (Ok e) rest = then (joined n e es) rest
    first (Err e) rest = refl

ends : (rest : List ℕ) → BeginsLine rest → Ends is_line_feed rest
ends rest (inl e) = inl e
ends rest (inr (lines, e)) = inr (10, lines, refl, e)

-- a test that neither a blank, nor `#`, nor a character of the words passes
comment_lacks : (blanks words : List ℕ) → AreGaps blanks → All (λ c. is_line_feed c ≡ false) words → All (λ c. is_line_feed c ≡ false) (blanks ++ 35 ∷ words)
comment_lacks blanks words g w =
    let P : ℕ → Type 0 = λ c. is_line_feed c ≡ false in
    All-append P blanks (35 ∷ words) (blanks_lack is_line_feed refl refl blanks g) (All-cons P 35 words refl w)

pub say_nothing : CommentsSayNothing
say_nothing before comment rest (blanks, words, g, w, e) r =
    let tail = blanks ++ 35 ∷ words in
    ap (λ (t : List ℕ). read_long (before ++ t ++ rest)) e
    ∙ ap read_long (append_assoc before tail rest)
    ∙ ap (λ (x : Result (List Entry) AclError). x >>= λ all. whole (lacking all) (arranged all))
    (alike_entries 1 [] (long_pieces (before ++ (tail ++ rest))) (long_pieces (before ++ rest))
    (alike_pieces blanks words g (slice_split is_line_feed (before ++ (tail ++ rest))) (slice_split is_line_feed (before ++ rest))
    (parts_longer is_line_feed before tail rest (comment_lacks blanks words g w) (ends rest r))))
