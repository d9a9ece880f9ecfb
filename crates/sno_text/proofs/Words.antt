-- Short texts that one word tells are the same.
use Rattle.std.proofs.Common.{◌≡◌, ◌≢◌, ℕ, zero, suc, Bool, true, false, ◌&&◌, ◌+◌, ◌*◌, ◌<◌, ◌≤◌, List, [], ◌∷◌, length, drop, get_or, refl, sym, ap, ◌∙◌, arith, nat_eq}
use Rattle.std.{specs.Cmp.Lexicographic.{pointwise, bytes_decides}, proofs.lemmas.Bool.Decides.{nat_tests}}
use Rattle.mon_text.specs.{Characters.{is_printable}, Lines.{IsLine}}
use Rattle.sno_text.specs.inner.Words.{told, Tells}

small : (c : ℕ) → is_printable c ≡ true → c < 256
small c h = grind (arith, nat_tests)

first : (a b : Bool) → (a && b) ≡ true → a ≡ true
first true b h = refl
first false b h = h

second : (a b : Bool) → (a && b) ≡ true → b ≡ true
second true b h = h
second false b h = let no : false ≡ true = h in cc

positive : (cs : List ℕ) → 1 ≤ told cs
positive [] = omega arith
positive (c ∷ cs) = let more = positive cs in omega (arith, more)

same : (cs ds : List ℕ) → IsLine cs → IsLine ds → told cs ≡ told ds → cs ≡ ds
same [] [] h k e = refl
same [] (d ∷ ds) h k e = let more = positive ds in absurd (omega (arith, more, e))
same (c ∷ cs) [] h k e = let more = positive cs in absurd (omega (arith, more, e))
same (c ∷ cs) (d ∷ ds) h k e =
    let low = small c (first _ _ h) in
    let below = small d (first _ _ k) in
    let one : c ≡ d = omega (arith, low, below, e) in
    let rest : told cs ≡ told ds = omega (arith, low, below, e) in
    let others = same cs ds (second _ _ h) (second _ _ k) rest in
    ap (λ e. e ∷ cs) one ∙ ap (λ es. d ∷ es) others

equal : (v w : ℕ) → nat_eq v w ≡ true → v ≡ w
equal v w h = grind (arith, nat_tests)

equals : (v w : ℕ) → v ≡ w → nat_eq v w ≡ true
equals v w h = grind (arith, nat_tests)

-- two words that tell texts are the same where the texts are
pub told_alike : (cs ds : List ℕ) (v w : ℕ) → IsLine cs → IsLine ds → Tells v cs → Tells w ds → v ≢ 0 → w ≢ 0 → nat_eq v w ≡ pointwise nat_eq cs ds
told_alike cs ds v w h k tells told_too some more = by (nat_eq v w) (pointwise nat_eq cs ds) refl refl
  where
    by : (a b : Bool) → nat_eq v w ≡ a → pointwise nat_eq cs ds ≡ b → a ≡ b
    by true true p q = refl
    by false false p q = refl
    by true false p q = sym ((bytes_decides cs ds).1 (same cs ds h k (sym (tells some) ∙ equal v w p ∙ told_too more))) ∙ q
    by false true p q = sym p ∙ equals v w (tells some ∙ ap told ((bytes_decides cs ds).0 q) ∙ sym (told_too more))

-- one character more is told
pub told_more : (text : List ℕ) (left next : ℕ) → next ≡ left + 1 → left < length text → told (drop left text) ≡ told (drop next text) * 256 + get_or text left 0
told_more [] left next e h = absurd (omega arith)
told_more (c ∷ cs) zero (suc zero) e h = omega arith
told_more (c ∷ cs) (suc left) (suc next) e h = told_more cs left next (omega arith) (omega arith)
told_more (c ∷ cs) left zero e h = absurd (omega arith)
told_more (c ∷ cs) zero (suc (suc next)) e h = absurd (omega arith)

-- behind all characters there is 1
pub told_none : (text : List ℕ) → told (drop (length text) text) ≡ 1
told_none [] = refl
told_none (c ∷ cs) = told_none cs

-- one word tells one text
pub told_same : (cs ds : List ℕ) (v w : ℕ) → IsLine cs → IsLine ds → Tells v cs → Tells w ds → v ≡ w → v ≢ 0 → true ≡ pointwise nat_eq cs ds
told_same cs ds v w h k tells told_too one some = sym (equals v w one) ∙ told_alike cs ds v w h k tells told_too some (λ none. some (one ∙ none))
