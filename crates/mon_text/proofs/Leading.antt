-- The name that a text begins with, as it is read character by character.
use Rattle.std.proofs.Common.{◌≡◌, ◌∙◌, ℕ, zero, suc, ◌+◌, ◌<◌, ◌≤◌, get_or, Bool, true, false, ◌&&◌, List, [], ◌∷◌, ◌++◌, length, take, set, replicate, refl, sym, ap, subst, arith, true≢false}
use Rattle.std.specs.{Prelude.{slice_index}, List.{list_all}}
use Rattle.std.proofs.{Math.Seq.{take-suc, take-suc-set}, lemmas.Bool.{le-leb}, lemmas.List.{length-take-le, get_or-set_other}}
use Rattle.mon_text.specs.{Characters.{is_letter}, Names.{is_name_character, IsName}, inner.Padding.{IsZeroFrom}}

both : (a b : Bool) → (a && b) ≡ true → (a ≡ true) × (b ≡ true)
both true b h = (refl, h)
both false b h = absurd (true≢false (sym h))

each : (a b : Bool) → a ≡ true → b ≡ true → (a && b) ≡ true
each a b h k = ap (λ (t : Bool). t && b) h ∙ k

all_with : (p : ℕ → Bool) (n : ℕ) (cs : List ℕ) → n < length cs → list_all p (take n cs) ≡ true → p (get_or cs n 0) ≡ true → list_all p (take (suc n) cs) ≡ true
all_with p n [] l h k = absurd (omega arith)
all_with p zero (c ∷ cs) l h k = each (p c) true k refl
all_with p (suc n) (c ∷ cs) l h k = let t = both _ _ h in each (p c) _ t.0 (all_with p n cs (omega arith) t.1 k)

one_more : (n : ℕ) → suc n ≡ n + 1
one_more n = omega arith

longer : (n : ℕ) (text : List ℕ) → 1 ≤ n → n < 31 → n < length text → IsName (take n text) → is_name_character (get_or text n 0) ≡ true → IsName (take (suc n) text)
longer zero text from few l h k = absurd (omega arith)
longer (suc n) [] from few l h k = absurd (omega arith)
longer (suc n) (c ∷ cs) from few l h k =
    let t = both _ _ h in
    let s = both _ _ t.0 in
    let room : suc n ≤ length cs = omega arith in
    let short : length (take (suc n) cs) ≤ 30 = omega (arith, length-take-le (suc n) cs room) in
    each _ _ (each _ _ s.0 (all_with is_name_character n cs (omega arith) s.1 k)) (le-leb (length (take (suc n) cs)) 30 short)

-- one character more
pub name_on : (n : ℕ) (text : List ℕ) → 1 ≤ n → n < 31 → n < length text → IsName (take n text) → is_name_character (get_or text n 0) ≡ true → IsName (take (n + 1) text)
name_on n text from few l h k = subst (λ (m : ℕ). IsName (take m text)) (one_more n) (longer n text from few l h k)

-- a letter alone
pub letter_alone : (c : ℕ) → is_letter c ≡ true → IsName (c ∷ [])
letter_alone c h = each _ _ (each _ _ h refl) refl

-- what is put where the zeros begin leaves zeros behind it
pub zeros_left : (n : ℕ) (cs : List ℕ) (c : ℕ) → IsZeroFrom n cs → IsZeroFrom (n + 1) (set cs n c)
zeros_left n cs c z = λ k h. get_or-set_other cs n k c 0 (λ same. omega arith) ∙ z k (omega arith)

-- and is the text's next character
pub same_on : (n : ℕ) (cs text : List ℕ) → n < length cs → n < length text → take n cs ≡ take n text → take (n + 1) (set cs n (get_or text n 0)) ≡ take (n + 1) text
same_on n cs text l m h =
    subst (λ (k : ℕ). take k (set cs n (get_or text n 0)) ≡ take k text) (one_more n)
    (take-suc-set cs n (get_or text n 0) l ∙ ap (λ (t : List ℕ). t ++ (get_or text n 0 ∷ [])) h ∙ sym (take-suc text n 0 m))

-- ---- before the second character is looked at

pub first_long : (c : ℕ) (text : List ℕ) → take 1 text ≡ c ∷ [] → 1 ≤ length text
first_long c [] h = absurd (let t : [] ≡ c ∷ [] = h in cc)
first_long c (t ∷ ts) h = omega arith

none_else : (n k : ℕ) → slice_index (replicate n 0) k ≡ 0
none_else zero k = refl
none_else (suc n) zero = refl
none_else (suc n) (suc k) = none_else n k

pub first_zeros : (c : ℕ) → IsZeroFrom 1 (c ∷ replicate 31 0)
first_zeros c zero h = absurd (omega arith)
first_zeros c (suc k) h = none_else 31 k
