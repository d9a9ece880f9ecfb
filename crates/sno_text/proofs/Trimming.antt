-- The blanks at the end, one after the other.
use Rattle.std.proofs.Common.{◌≡◌, ℕ, zero, suc, ◌+◌, ◌-◌, ◌<◌, ◌≤◌, Bool, true, false, ◌≢◌, List, [], ◌∷◌, ◌++◌, length, get_or, take, refl, sym, ap, ◌∙◌, subst, arith}
use Rattle.std.{specs.Prelude.{if◌then◌else◌}, proofs.lemmas.List.{take_more, take_all}, proofs.lemmas.Bool.Decides.{nat_tests}}
use Rattle.mon_text.specs.Characters.{is_blank}
use Rattle.sno_text.specs.Texts.{without_trailing_blanks}

-- a character before a text that has no blanks at its end
abbrev pub before_trimmed : ℕ → List ℕ → List ℕ
before_trimmed c [] = if is_blank c then [] else c ∷ []
before_trimmed c (d ∷ ds) = c ∷ d ∷ ds

-- a blank at the end goes
blank_goes : (text : List ℕ) → without_trailing_blanks (text ++ 32 ∷ []) ≡ without_trailing_blanks text
blank_goes [] = refl
blank_goes (c ∷ cs) = ap (before_trimmed c) (blank_goes cs)

before_more : (c d : ℕ) (ds : List ℕ) → before_trimmed c (ds ++ d ∷ []) ≡ c ∷ (ds ++ d ∷ [])
before_more c d [] = refl
before_more c d (e ∷ es) = refl

-- another character at the end stays, and all before it
other_stays : (text : List ℕ) (c : ℕ) → is_blank c ≡ false → without_trailing_blanks (text ++ c ∷ []) ≡ text ++ c ∷ []
other_stays [] c h = ap (λ (b : Bool). if b then [] else c ∷ []) h
other_stays (d ∷ ds) c h = ap (before_trimmed d) (other_stays ds c h) ∙ before_more d c ds

one_more : (text : List ℕ) (end : ℕ) → 0 < end → end ≤ length text → take end text ≡ take (end - 1) text ++ get_or text (end - 1) 0 ∷ []
one_more text end some within =
    let at : end - 1 + 1 ≡ end = omega arith in
    subst (λ (n : ℕ). take n text ≡ take (end - 1) text ++ get_or text (end - 1) 0 ∷ []) at (take_more text (end - 1) 0 (omega arith))

-- the step of the loop
pub one_less : (text : List ℕ) (end : ℕ) → 0 < end → end ≤ length text → get_or text (end - 1) 0 ≡ 32
    → without_trailing_blanks (take (end - 1) text) ≡ without_trailing_blanks (take end text)
one_less text end some within blank =
    sym (ap without_trailing_blanks (one_more text end some within ∙ ap (λ (c : ℕ). take (end - 1) text ++ c ∷ []) blank)
    ∙ blank_goes (take (end - 1) text))

-- and its end
pub no_more : (text : List ℕ) (end : ℕ) → 0 < end → end ≤ length text → (get_or text (end - 1) 0 ≢ 32)
    → take end text ≡ without_trailing_blanks (take end text)
no_more text end some within other =
    let more = one_more text end some within in
    let solid : is_blank (get_or text (end - 1) 0) ≡ false = grind (arith, nat_tests) in
    more ∙ sym (ap without_trailing_blanks more ∙ other_stays (take (end - 1) text) (get_or text (end - 1) 0) solid)

pub nothing : (text : List ℕ) (end : ℕ) → end ≡ 0 → take end text ≡ without_trailing_blanks (take end text)
nothing text zero h = refl
nothing text (suc n) h = absurd (omega arith)

-- it is a front of the text
pub front_of : (text : List ℕ) → without_trailing_blanks text ≡ take (length (without_trailing_blanks text)) text
front_of [] = refl
front_of (c ∷ cs) = by (without_trailing_blanks cs) (front_of cs)
  where
    lone : (b : Bool) → (if b then [] else c ∷ []) ≡ take (length (if b then [] else c ∷ [])) (c ∷ cs)
    lone true = refl
    lone false = refl

    by : (rest : List ℕ) → rest ≡ take (length rest) cs → before_trimmed c rest ≡ take (length (before_trimmed c rest)) (c ∷ cs)
    by [] h = lone (is_blank c)
    by (d ∷ ds) h = ap (λ (t : List ℕ). c ∷ t) h

-- and the whole of one that is as long
pub whole : (text : List ℕ) → length (without_trailing_blanks text) ≡ length text → text ≡ without_trailing_blanks text
whole text h = sym (front_of text ∙ take_all (length (without_trailing_blanks text)) text (omega arith))
