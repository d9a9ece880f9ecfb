-- The tokens of a text tell it, to its end or to its fault.
use Rattle.std.proofs.Common.{arith, ◌≡◌, ℕ, zero, suc, ◌+◌, ◌-◌, ◌≤◌, ◌<◌, List, [], ◌∷◌, ◌++◌, length, take, drop, refl, sym, ap, ◌∙◌, subst}
use Rattle.std.specs.{Prelude.{Bool, true, false, ◌||◌, ◌==◌, nat_lt, Option, Some, None, Result, Ok, Err, slice_get, if◌then◌else◌}, List.{list_all}}
use Rattle.std.proofs.{Math.Seq.{drop-nil}, lemmas.List.{take-append-drop, length-take-le}, lemmas.Bool.Decides.{nat_tests}}
use Rattle.mon_text.specs.Characters.{is_blank}
use Rattle.sno_lexer.specs.declared.{token.Token.{Token}, token.TokenKind.{TokenKind}, begin.Class.{Class}, begin.Context.{Context}}
use Rattle.sno_lexer.specs.{declared.lexing.Action.TheVariants.{Pass}, declared.fault.FaultKind.{FaultKind}, declared.fault.LexFault.{LexFault}, Lexed.{lexed}}
use Rattle.sno_lexer.specs.{inner.Classes.{found, further, is_blank_or_end, kind_of, text_of, token_of}, Listed.{TokenList}, Following.{TellText, IsLexed}}
use Rattle.sno_lexer.specs.{inner.Lexing.{after, on_action, stage, start, taken, with_first}, Laws.{TokensTellTheText}}
use Rattle.sno_lexer.proofs.{Apart.{Told, is_apart}, Contexts.{Knows, at_start, knows_after}, Faults.{IsTaken, found_refused, found_taken}}

-- ONE TOKEN

pub or_false : (b : Bool) → b ≡ (b || false)
or_false true = refl
or_false false = refl

pub or_true : (b : Bool) → true ≡ (b || true)
or_true true = refl
or_true false = refl

pub behind_is : (cs : List ℕ) (n : ℕ) → is_blank_or_end (slice_get cs n) ≡ is_apart (drop n cs)
behind_is [] n = rw (drop-nil n) refl
behind_is (c ∷ cs) zero = refl
behind_is (c ∷ cs) (suc n) = behind_is cs n

-- a token and what follows it
with_token : (end : Option LexFault) (s : Context) (before : List TokenKind) (at c : ℕ) (cs : List ℕ) (class : Class) (tokens : List Token)
    (offsets : List ℕ) → IsTaken before class c cs
    → TellText end (at + 1 + further class (c ∷ cs)) false (kind_of class (text_of class (c ∷ cs)) ∷ before) tokens offsets (drop (further class (c ∷ cs)) cs)
    → TellText end at s.after_blank before (token_of s class (c ∷ cs) ∷ tokens) (at ∷ offsets) (c ∷ cs)
with_token end s before at c cs class tokens offsets w h =
    let f = further class (c ∷ cs) in
    let k = kind_of class (text_of class (c ∷ cs)) in
    let l = length-take-le f cs w.0.0 in
    let p : at + 1 + f ≡ at + length (c ∷ take f cs) = omega (arith, l) in
    let t : c ∷ cs ≡ c ∷ (take f cs ++ drop f cs) = ap (λ (x : List ℕ). c ∷ x) (sym (take-append-drop f cs)) in
    let z : at ≡ at + 0 = omega arith in (
      [],
      c ∷ take f cs,
      drop f cs,
      t,
      refl,
      z,
      w.0.1,
      w.1,
      or_false s.after_blank,
      behind_is cs f,
      subst (λ (x : ℕ). TellText end x false (k ∷ before) tokens offsets (drop f cs)) p h,
    )

told_token : (r : Result TokenList LexFault) (s : Context) (before : List TokenKind) (at c : ℕ) (cs : List ℕ) (class : Class) → IsTaken before class c cs
    → Told r (at + 1 + further class (c ∷ cs)) false (kind_of class (text_of class (c ∷ cs)) ∷ before) (drop (further class (c ∷ cs)) cs)
    → Told (with_first (token_of s class (c ∷ cs)) at r) at s.after_blank before (c ∷ cs)
told_token (Ok list) s before at c cs class w h = with_token None s before at c cs class list.tokens list.offsets w h
told_token (Err fault) s before at c cs class w (list, h) = (
  record { tokens = token_of s class (c ∷ cs) ∷ list.tokens; offsets = at ∷ list.offsets },
  with_token (Some fault) s before at c cs class list.tokens list.offsets w h,
)

-- ONE BLANK

with_blank : (end : Option LexFault) (before : List TokenKind) (at c : ℕ) (cs : List ℕ) (blank : Bool) (tokens : List Token) (offsets : List ℕ)
    → is_blank c ≡ true
    → TellText end (at + 1) true before tokens offsets cs → TellText end at blank before tokens offsets (c ∷ cs)
with_blank None before at c cs blank [] [] e (blanks, rest, whole, are, ends) =
    (c ∷ blanks, rest, ap (λ (x : List ℕ). c ∷ x) whole, rw (e, are) refl, ends)
with_blank (Some fault) before at c cs blank [] [] e (blanks, rest, whole, are, (place, is)) =
    let q : fault.offset ≡ at + length (c ∷ blanks) = omega (arith, place) in
    (c ∷ blanks, rest, ap (λ (x : List ℕ). c ∷ x) whole, rw (e, are) refl, (q, is))
with_blank end before at c cs blank (t ∷ ts) (p ∷ ps) e (blanks, word, rest, whole, are, offset, stands, good, apart, behind, later) =
    let a : list_all is_blank (c ∷ blanks) ≡ true = rw (e, are) refl in
    let q : p ≡ at + length (c ∷ blanks) = omega (arith, offset) in
    (c ∷ blanks, word, rest, ap (λ (x : List ℕ). c ∷ x) whole, a, q, stands, good, apart ∙ or_true blank, behind, later)
with_blank end before at c cs blank [] (p ∷ ps) e h = h
with_blank end before at c cs blank (t ∷ ts) [] e h = h

told_blank : (r : Result TokenList LexFault) (before : List TokenKind) (at c : ℕ) (cs : List ℕ) (blank : Bool) → is_blank c ≡ true
    → Told r (at + 1) true before cs → Told r at blank before (c ∷ cs)
told_blank (Ok list) before at c cs blank e h = with_blank None before at c cs blank list.tokens list.offsets e h
told_blank (Err fault) before at c cs blank e (list, h) = (list, with_blank (Some fault) before at c cs blank list.tokens list.offsets e h)

-- ONE CHARACTER

drop_less : (n c : ℕ) (cs : List ℕ) → 0 < n → drop (n - 1) cs ≡ drop n (c ∷ cs)
drop_less zero c cs h = absurd (omega arith)
drop_less (suc n) c cs h = let e : suc n - 1 ≡ n = omega arith in ap (λ (k : ℕ). drop k cs) e

from_zero : (r : Result TokenList LexFault) (n at : ℕ) (blank : Bool) (before : List TokenKind) (text : List ℕ) → n ≡ 0
    → Told r at blank before text → Told r (at + n) blank before (drop n text)
from_zero r n at blank before text z h =
    let e : at ≡ at + 0 = omega arith in
    subst (λ (k : ℕ). Told r (at + k) blank before (drop k text)) (sym z) (subst (λ (a : ℕ). Told r a blank before text) e h)

to_zero : (r : Result TokenList LexFault) (n at : ℕ) (blank : Bool) (before : List TokenKind) (text : List ℕ) → n ≡ 0
    → Told r (at + n) blank before (drop n text) → Told r at blank before text
to_zero r n at blank before text z h =
    let e : at + 0 ≡ at = omega arith in
    subst (λ (a : ℕ). Told r a blank before text) e (subst (λ (k : ℕ). Told r (at + k) blank before (drop k text)) z h)

-- what is told of the rest, wherever the stage goes on
abbrev Later : ℕ → List ℕ → Type 0
Later at cs = (v : Context) (before : List TokenKind) → Knows v before → v.skip ≤ length cs
    → Told (stage v (at + 1) cs) (at + 1 + v.skip) v.after_blank before (drop v.skip cs)

passed : (s : Context) (before : List TokenKind) (skip : ℕ) (blank : Bool) → Knows s before → Knows (record s { skip = skip; after_blank = blank }) before
passed s before skip blank k = record { tokens = k.tokens; depth = k.depth; goto = k.goto; inside = k.inside; target = k.target }

turn : (s : Context) (before : List TokenKind) (at c : ℕ) (cs : List ℕ) (b d : Bool) (r : Result Class FaultKind) → Knows s before
    → nat_lt 0 s.skip ≡ b → (c == 32) ≡ d → found s (c ∷ cs) ≡ r → s.skip ≤ length (c ∷ cs) → Later at cs
    → Told (on_action s at (c ∷ cs) (if b then Pass (record s { skip = s.skip - 1 }) else if d then Pass (record s { after_blank = true }) else taken r)
    (λ v. stage v (at + 1) cs)) (at + s.skip) s.after_blank before (drop s.skip (c ∷ cs))
turn s before at c cs true d r k e1 e2 e3 h later =
    let some : 0 < s.skip = grind (arith, nat_tests, e1) in
    let next = record s { skip = s.skip - 1 } in
    let l = later next before (passed s before (s.skip - 1) s.after_blank k) (omega arith) in
    let p : at + 1 + (s.skip - 1) ≡ at + s.skip = omega arith in
    subst (λ (x : List ℕ). Told (stage next (at + 1) cs) (at + s.skip) s.after_blank before x) (drop_less s.skip c cs some)
    (subst (λ (x : ℕ). Told (stage next (at + 1) cs) x s.after_blank before (drop (s.skip - 1) cs)) p l)
turn s before at c cs false true r k e1 e2 e3 h later =
    let none : s.skip ≡ 0 = grind (arith, nat_tests, e1) in
    let next = record s { after_blank = true } in
    let l = later next before (passed s before s.skip true k) (omega arith) in
    from_zero (stage next (at + 1) cs) s.skip at s.after_blank before (c ∷ cs) none
    (told_blank (stage next (at + 1) cs) before at c cs s.after_blank e2 (to_zero (stage next (at + 1) cs) s.skip (at + 1) true before cs none l))
turn s before at c cs false false (Err fault) k e1 e2 e3 h later =
    let none : s.skip ≡ 0 = grind (arith, nat_tests, e1) in
    let z : at ≡ at + 0 = omega arith in
    from_zero (Err (record { offset = at; kind = fault })) s.skip at s.after_blank before (c ∷ cs) none
    (record { tokens = []; offsets = [] }, ([], c ∷ cs, refl, refl, (z, found_refused s before c cs fault k e2 e3)))
turn s before at c cs false false (Ok class) k e1 e2 e3 h later =
    let none : s.skip ≡ 0 = grind (arith, nat_tests, e1) in
    let w = found_taken s before c cs class k e3 in
    let next = after s class (c ∷ cs) in
    let l = later next (kind_of class (text_of class (c ∷ cs)) ∷ before) (knows_after s before class (c ∷ cs) (text_of class (c ∷ cs)) k) w.0.0 in
    from_zero (with_first (token_of s class (c ∷ cs)) at (stage next (at + 1) cs)) s.skip at s.after_blank before (c ∷ cs) none
    (told_token (stage next (at + 1) cs) s before at c cs class w l)

told : (text : List ℕ) (s : Context) (before : List TokenKind) (at : ℕ) → Knows s before → s.skip ≤ length text
    → Told (stage s at text) (at + s.skip) s.after_blank before (drop s.skip text)
told [] s before at k h = ([], drop s.skip [], refl, refl, drop-nil s.skip)
told (c ∷ cs) s before at k h =
    turn s before at c cs (nat_lt 0 s.skip) (c == 32) (found s (c ∷ cs)) k refl refl refl h (λ v others g n. told cs v others (at + 1) g n)

is_lexed : (text : List ℕ) (from : ℕ) (r : Result TokenList LexFault) → Told r from true [] (drop from text) → IsLexed text from r
is_lexed text from (Ok list) h = h
is_lexed text from (Err fault) h = h

pub tokens_tell_the_text : TokensTellTheText
tokens_tell_the_text text from =
    is_lexed text from (lexed text from) (to_zero (lexed text from) 0 from true [] (drop from text) refl (told (drop from text) start [] from at_start (omega arith)))
