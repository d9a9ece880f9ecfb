-- A line is cut into its pieces, and into no others.
use Rattle.std.proofs.Common.{◌≡◌, ℕ, Bool, true, false, not, ◌&&◌, List, [], ◌∷◌, ◌++◌, Option, Some, None, if◌then◌else◌, refl, sym, ap, ◌∙◌, subst, arith}
use Rattle.std.{specs.List.{onto_first}, proofs.lemmas.Bool.Decides.{nat_tests}}
use Rattle.sno_cards.specs.{Texts.{Placed}, Cards.{is_semicolon}, Statements.{literal_after, ends_statement, pieces}}
use Rattle.sno_cards.specs.Laws.{is_whole, literal_at_end, IsCut, OneCut}
use Rattle.mon_text.specs.Characters.{is_quote}

semicolon_begins_none : (c : ℕ) → is_semicolon c ≡ true → literal_after None c ≡ None
semicolon_begins_none c e = let no_quote : is_quote c ≡ false = grind (arith, nat_tests) in rw no_quote refl

-- INTO ITS PIECES

ended : (literal : Option ℕ) (c : Placed) (cs : List Placed) (ps : List (List Placed)) → ends_statement literal c.code ≡ true
    → IsCut (literal_after literal c.code) ps cs → IsCut literal ([] ∷ ps) (c ∷ cs)
ended (Some quote) c cs ps e h = cc
ended None c cs [] e h = absurd h
ended None c cs (p ∷ ps) e h =
    (c, cs, refl, e, refl, refl, subst (λ (l : Option ℕ). IsCut l (p ∷ ps) cs) (semicolon_begins_none c.code e) h)

longer : (literal : Option ℕ) (c : Placed) (cs : List Placed) (ps : List (List Placed)) → ends_statement literal c.code ≡ false
    → IsCut (literal_after literal c.code) ps cs → IsCut literal (onto_first c ps) (c ∷ cs)
longer literal c cs [] e h = absurd h
longer literal c cs (p ∷ []) e h = (ap (λ (xs : List Placed). c ∷ xs) h.0, rw e h.1)
longer literal c cs (p ∷ q ∷ qs) e h = (h.0, h.1, ap (λ (xs : List Placed). c ∷ xs) h.2, h.3, rw e h.4, h.5, h.6)

is_cut : (literal : Option ℕ) (line : List Placed) → IsCut literal (pieces literal line) line
is_cut literal [] = (refl, refl)
is_cut literal (c ∷ cs) = at (is_cut (literal_after literal c.code) cs) (ends_statement literal c.code) refl
  where
    at : IsCut (literal_after literal c.code) (pieces (literal_after literal c.code) cs) cs → (b : Bool) → ends_statement literal c.code ≡ b
        → IsCut literal (if b then [] ∷ pieces (literal_after literal c.code) cs else onto_first c (pieces (literal_after literal c.code) cs)) (c ∷ cs)
    at later true e = ended literal c cs (pieces (literal_after literal c.code) cs) e later
    at later false e = longer literal c cs (pieces (literal_after literal c.code) cs) e later

-- INTO NO OTHERS

goes_on : (a b : Bool) → (not a && b) ≡ true → a ≡ false
goes_on true b h = cc
goes_on false b h = refl

then_whole : (a b : Bool) → (not a && b) ≡ true → b ≡ true
then_whole true b h = cc
then_whole false b h = h

uncut : (literal : Option ℕ) (p : List Placed) → is_whole literal p ≡ true → pieces literal p ≡ p ∷ []
uncut literal [] w = refl
uncut literal (c ∷ cs) w =
    let e = goes_on (ends_statement literal c.code) (is_whole (literal_after literal c.code) cs) w in
    let rest = uncut (literal_after literal c.code) cs (then_whole (ends_statement literal c.code) (is_whole (literal_after literal c.code) cs) w) in
    rw e (ap (onto_first c) rest)

first_piece : (literal : Option ℕ) (p : List Placed) (c : Placed) (rest : List Placed) → is_whole literal p ≡ true
    → literal_at_end literal p ≡ None → is_semicolon c.code ≡ true → pieces literal (p ++ c ∷ rest) ≡ p ∷ pieces None rest
first_piece (Some quote) [] c rest w closed semicolon = cc
first_piece None [] c rest w closed semicolon =
    let none = semicolon_begins_none c.code semicolon in
    rw semicolon (ap (λ (l : Option ℕ). [] ∷ pieces l rest) none)
first_piece literal (x ∷ xs) c rest w closed semicolon =
    let e = goes_on (ends_statement literal x.code) (is_whole (literal_after literal x.code) xs) w in
    let on = first_piece (literal_after literal x.code) xs c rest (then_whole (ends_statement literal x.code) (is_whole (literal_after literal x.code) xs) w) closed semicolon in
    rw e (ap (onto_first x) on)

no_other : (literal : Option ℕ) (ps : List (List Placed)) (line : List Placed) → IsCut literal ps line → ps ≡ pieces literal line
no_other literal [] line h = absurd h
no_other literal (p ∷ []) line h = sym (ap (pieces literal) h.0 ∙ uncut literal p h.1)
no_other literal (p ∷ q ∷ qs) line h =
    ap (λ (ps : List (List Placed)). p ∷ ps) (no_other None (q ∷ qs) h.1 h.6)
    ∙ sym (ap (pieces literal) h.2 ∙ first_piece literal p h.0 h.1 h.4 h.5 h.3)

pub one_cut : OneCut
one_cut line = (is_cut None line, λ others h. no_other None others line h)
