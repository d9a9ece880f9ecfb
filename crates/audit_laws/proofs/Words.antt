-- Texts of words, each behind one blank: their words are found again.
use Rattle.std.proofs.Common.{◌≡◌, ℕ, zero, suc, ◌+◌, ◌/◌, ◌%◌, ◌<◌, Bool, true, false, ◌&&◌, ◌||◌, List, [], ◌∷◌, ◌++◌, refl, sym, ap, ◌∙◌, true≢false, append_assoc, append-nil, subst, cond, arith, lt-ltb, ne_eqb}
use Rattle.std.specs.{Fmt.{digits, digits_onto, digit_glyph}, Prelude.{decimal, ◌==◌, not, if◌then◌else◌, flat_map}, List.{list_all, slice_split, onto_first}}
use Rattle.std.proofs.lemmas.{Bool.Decides.{Decides-eqb}, List.Folds.{list_all-append}, List.Concat.{flat_map-append}}
use Rattle.mon_text.specs.{Characters.{is_letter, is_digit, is_blank, is_line_feed}, Names.{is_name_character, IsName}}
use Rattle.audit_laws.specs.Reading.{lines_in}
use Rattle.mon_command.specs.Printouts.{word}

-- two tests that both hold
pub both : (a b : Bool) → (a && b) ≡ true → (a ≡ true) × (b ≡ true)
both true true h = (refl, refl)
both true false h = absurd (true≢false (sym h))
both false b h = absurd (true≢false (sym h))

-- neither a blank nor a line end
abbrev pub is_dark : ℕ → Bool
is_dark c = not (is_blank c) && not (is_line_feed c)

abbrev pub is_word : List ℕ → Bool
is_word w = list_all is_dark w

abbrev pub IsWord : List ℕ → Type 0
IsWord w = is_word w ≡ true

-- a text is these words, each behind one blank
abbrev pub Reads : List ℕ → List (List ℕ) → Type 0
Reads text ws = (text ≡ flat_map word ws) × (list_all is_word ws ≡ true)

-- and a line is, with its end
abbrev pub ReadsLine : List ℕ → List (List ℕ) → Type 0
ReadsLine text ws = (text ≡ flat_map word ws ++ (10 ∷ [])) × (list_all is_word ws ≡ true)

pub no_words : Reads [] []
no_words = (refl, refl)

pub one_word : (w : List ℕ) → IsWord w → Reads (word w) (w ∷ [])
one_word w h = (sym (append-nil (word w)), ap (λ (b : Bool). b && true) h)

pub joined : (a b : List ℕ) (ws vs : List (List ℕ)) → Reads a ws → Reads b vs → Reads (a ++ b) (ws ++ vs)
joined a b ws vs (ta, pa) (tb, pb) = (
  ap (λ (t : List ℕ). t ++ b) ta ∙ ap (λ (t : List ℕ). flat_map word ws ++ t) tb ∙ sym (flat_map-append word ws vs),
  list_all-append is_word ws vs ∙ ap (λ (x : Bool). x && list_all is_word vs) pa ∙ pb,
)

pub ended : (a : List ℕ) (ws : List (List ℕ)) → Reads a ws → ReadsLine (a ++ (10 ∷ [])) ws
ended a ws (t, p) = (ap (λ (x : List ℕ). x ++ (10 ∷ [])) t, p)

-- the same words, otherwise said
pub same_words : (a : List ℕ) (ws vs : List (List ℕ)) → ws ≡ vs → Reads a ws → Reads a vs
same_words a ws vs is h = subst (Reads a) is h

-- FOUND AGAIN

dark_is : (c : ℕ) → is_dark c ≡ true → (is_blank c ≡ false) × (is_line_feed c ≡ false)
dark_is c h = let two = both (not (is_blank c)) (not (is_line_feed c)) h in (unset (is_blank c) two.0, unset (is_line_feed c) two.1)
  where
    unset : (b : Bool) → not b ≡ true → b ≡ false
    unset false h = refl
    unset true h = absurd (true≢false (sym h))

first_word : (w rest : List ℕ) → IsWord w → slice_split is_blank (w ++ 32 ∷ rest) ≡ w ∷ slice_split is_blank rest
first_word [] rest h = refl
first_word (c ∷ w) rest h =
    let two = both (is_dark c) (is_word w) h in
    ap (λ (b : Bool). cond b ([] ∷ slice_split is_blank (w ++ 32 ∷ rest)) (onto_first c (slice_split is_blank (w ++ 32 ∷ rest)))) (dark_is c two.0).0
    ∙ ap (onto_first c) (first_word w rest two.1)

last_word : (w : List ℕ) → IsWord w → slice_split is_blank w ≡ w ∷ []
last_word [] h = refl
last_word (c ∷ w) h =
    let two = both (is_dark c) (is_word w) h in
    ap (λ (b : Bool). cond b ([] ∷ slice_split is_blank w) (onto_first c (slice_split is_blank w))) (dark_is c two.0).0
    ∙ ap (onto_first c) (last_word w two.1)

words_from : (w : List ℕ) (ws : List (List ℕ)) → IsWord w → list_all is_word ws ≡ true → slice_split is_blank (w ++ flat_map word ws) ≡ w ∷ ws
words_from w [] h p = ap (slice_split is_blank) (append-nil w) ∙ last_word w h
words_from w (v ∷ ws) h p =
    let two = both (is_word v) (list_all is_word ws) p in
    first_word w (v ++ flat_map word ws) h ∙ ap (λ (l : List (List ℕ)). w ∷ l) (words_from v ws two.0 two.1)

-- no line end is within a text of words
unbroken : (w rest first : List ℕ) (others : List (List ℕ)) → IsWord w → lines_in rest ≡ first ∷ others → lines_in (w ++ rest) ≡ (w ++ first) ∷ others
unbroken [] rest first others h is = is
unbroken (c ∷ w) rest first others h is =
    let two = both (is_dark c) (is_word w) h in
    ap (λ (b : Bool). if b then [] ∷ lines_in (w ++ rest) else onto_first c (lines_in (w ++ rest))) (dark_is c two.0).1
    ∙ ap (onto_first c) (unbroken w rest first others two.1 is)

words_unbroken : (ws : List (List ℕ)) (rest : List ℕ) → list_all is_word ws ≡ true
    → lines_in (flat_map word ws ++ 10 ∷ rest) ≡ flat_map word ws ∷ lines_in rest
words_unbroken [] rest p = refl
words_unbroken (w ∷ ws) rest p =
    let two = both (is_word w) (list_all is_word ws) p in
    ap (λ (l : List ℕ). lines_in (32 ∷ l)) (append_assoc w (flat_map word ws) (10 ∷ rest))
    ∙ ap (onto_first 32) (unbroken w (flat_map word ws ++ 10 ∷ rest) (flat_map word ws) (lines_in rest) two.0 (words_unbroken ws rest two.1))

-- a line that is these words: the first as it is, and each of the others behind one blank
pub record IsLineOf (line : List ℕ) (ws : List (List ℕ)) : Type 0 where
  pub first : List ℕ
  pub others : List (List ℕ)
  pub all : ws ≡ first ∷ others
  pub text : line ≡ (first ++ flat_map word others) ++ (10 ∷ [])
  pub dark : IsWord first
  pub others_dark : list_all is_word others ≡ true

-- without the blank in front of it
pub line_of : (line w : List ℕ) (ws : List (List ℕ)) → ReadsLine (32 ∷ line) (w ∷ ws) → IsLineOf line (w ∷ ws)
line_of line w ws (t, p) =
    let two = both (is_word w) (list_all is_word ws) p in
    record { first = w; others = ws; all = refl; text = tail t; dark = two.0; others_dark = two.1 }
  where
    tail : 32 ∷ line ≡ 32 ∷ ((w ++ flat_map word ws) ++ (10 ∷ [])) → line ≡ (w ++ flat_map word ws) ++ (10 ∷ [])
    tail k = cc (k)

-- it is found again, and its words
pub line_found : (line rest : List ℕ) (ws : List (List ℕ)) → IsLineOf line ws
    → (text : List ℕ) × (lines_in (line ++ rest) ≡ text ∷ lines_in rest) × (slice_split is_blank text ≡ ws)
line_found line rest ws l = (
  l.first ++ flat_map word l.others,
  ap (λ (t : List ℕ). lines_in (t ++ rest)) l.text
      ∙ ap lines_in (append_assoc (l.first ++ flat_map word l.others) (10 ∷ []) rest ∙ append_assoc l.first (flat_map word l.others) (10 ∷ rest))
      ∙ unbroken l.first (flat_map word l.others ++ 10 ∷ rest) (flat_map word l.others) (lines_in rest) l.dark (words_unbroken l.others rest l.others_dark),
  words_from l.first l.others l.dark l.others_dark ∙ sym l.all,
)

-- WORDS OF NAMES AND NUMBERS

passing : (p q : ℕ → Bool) → ((c : ℕ) → p c ≡ true → q c ≡ true) → (xs : List ℕ) → list_all p xs ≡ true → list_all q xs ≡ true
passing p q more [] h = refl
passing p q more (x ∷ xs) h =
    let two = both (p x) (list_all p xs) h in
    ap (λ (b : Bool). b && list_all q xs) (more x two.0) ∙ passing p q more xs two.1

pub dark_name : (c : ℕ) → is_name_character c ≡ true → is_dark c ≡ true
dark_name c h = ap (λ (b : Bool). not b && not (is_line_feed c)) (other 32 refl (c == 32) refl) ∙ ap not (other 10 refl (c == 10) refl)
  where
    other : (n : ℕ) → is_name_character n ≡ false → (b : Bool) → (c == n) ≡ b → b ≡ false
    other n wrong false e = refl
    other n wrong true e = absurd (true≢false (sym h ∙ ap is_name_character ((Decides-eqb c n).0 e) ∙ wrong))

pub first_of : (a b c d e : Bool) → a ≡ true → (a || b || c || d || e) ≡ true
first_of true b c d e h = refl
first_of false b c d e h = absurd (true≢false (sym h))

pub name_word : (name : List ℕ) → IsName name → IsWord name
name_word [] h = refl
name_word (c ∷ cs) h =
    let parts = both (is_letter c) (list_all is_name_character cs) (both (is_letter c && list_all is_name_character cs) _ h).0 in
    ap (λ (b : Bool). b && is_word cs) (dark_name c (first_of (is_letter c) (is_digit c) (c == 46) (c == 95) (c == 45) parts.0))
    ∙ passing is_name_character is_dark dark_name cs parts.1

digit_dark : (d : ℕ) → d < 10 → is_dark (digit_glyph false d) ≡ true
digit_dark d small =
    ap is_dark (ap (λ (b : Bool). if b then 48 + d else 87 + d) (lt-ltb d 10 small))
    ∙ ap (λ (b : Bool). not b && not (is_line_feed (48 + d))) (ne_eqb (48 + d) 32 (λ e. omega arith))
    ∙ ap not (ne_eqb (48 + d) 10 (λ e. omega arith))

digits_dark : (k n : ℕ) (behind : List ℕ) → is_word behind ≡ true → is_word (digits_onto k 10 false n behind) ≡ true
digits_dark zero n behind h = h
digits_dark (suc k) n behind h =
    let more : is_word (digit_glyph false (n % 10) ∷ behind) ≡ true = ap (λ (b : Bool). b && is_word behind) (digit_dark (n % 10) (omega arith)) ∙ h in
    by (n / 10 == 0) more (digits_dark k (n / 10) (digit_glyph false (n % 10) ∷ behind) more)
  where
    by : (b : Bool) → is_word (digit_glyph false (n % 10) ∷ behind) ≡ true → is_word (digits_onto k 10 false (n / 10) (digit_glyph false (n % 10) ∷ behind)) ≡ true
        → is_word (if b then digit_glyph false (n % 10) ∷ behind else digits_onto k 10 false (n / 10) (digit_glyph false (n % 10) ∷ behind)) ≡ true
    by true last more = last
    by false last more = more

-- whatever the number is
pub number_word : (n : ℕ) → IsWord (decimal n)
unfolding digits
number_word n = digits_dark 64 n [] refl
