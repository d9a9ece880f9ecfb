-- Whatever tells a text is what is read of it.
use Rattle.std.proofs.Common.{arith, ◌≡◌, ℕ, ◌+◌, ◌-◌, ◌<◌, List, [], ◌∷◌, ◌++◌, length, drop, refl, sym, ap, ◌∙◌, subst}
use Rattle.std.specs.{Prelude.{Bool, true, false, ◌&&◌, ◌||◌, ◌==◌, nat_lt, Option, Some, None, Result, Ok, Err, if◌then◌else◌}, List.{list_all}}
use Rattle.std.proofs.lemmas.Bool.Decides.{nat_tests}
use mathlib.Core.Logic.{inl, inr}
use Rattle.mon_text.specs.Characters.{is_blank}
use Rattle.sno_lexer.specs.declared.{token.Token.{Token}, token.TokenKind.{TokenKind}, begin.Class.{Class}, begin.Context.{Context}}
use Rattle.sno_lexer.specs.declared.{lexing.Action.TheVariants.{Pass}, fault.FaultKind.{FaultKind}, fault.LexFault.{LexFault}}
use Rattle.sno_lexer.specs.inner.{Classes.{found, further, kind_of, text_of, token_of}, Lexing.{after, on_action, stage, start, taken, with_first}}
use Rattle.sno_lexer.specs.{Listed.{TokenList}, Following.{IsFault, Stands, TellText, fault_of}, Laws.{NothingElseTellsIt}}
use Rattle.sno_lexer.proofs.{Apart.{IsEnd, is_apart, is_some_text}, Contexts.{Knows, at_start, knows_after}, Faults.{good_or}, Loop.{on_turn}}
use Rattle.sno_lexer.proofs.{Reading.{IsFound, foreign, has_found, not_closed}, Telling.{behind_is, or_false, or_true}}

-- ONE STEP

third : {X : Type 0} (a b : Bool) (x y z : X) → a ≡ false → b ≡ false → (if a then x else if b then y else z) ≡ z
third true b x y z e f = cc
third false true x y z e f = cc
third false false x y z e f = refl

-- at a character that is no blank, outside a token
turn_found : (s : Context) (at c : ℕ) (cs : List ℕ) (r : Result Class FaultKind) → s.skip ≡ 0 → is_blank c ≡ false → found s (c ∷ cs) ≡ r
    → stage s at (c ∷ cs) ≡ on_action s at (c ∷ cs) (taken r) (λ next. stage next (at + 1) cs)
turn_found s at c cs r z b e =
    on_turn s at c (c ∷ cs) cs (taken r) refl
    (third (nat_lt 0 s.skip) (c == 32) (Pass (record s { skip = s.skip - 1 })) (Pass (record s { after_blank = true })) (taken (found s (c ∷ cs)))
    (ap (nat_lt 0) z) b ∙ ap taken e)

second : {X : Type 0} (a b : Bool) (x y z : X) → a ≡ false → b ≡ true → (if a then x else if b then y else z) ≡ y
second true b x y z e f = cc
second false true x y z e f = refl
second false false x y z e f = cc

first : {X : Type 0} (a : Bool) (x y : X) → a ≡ true → (if a then x else y) ≡ x
first true x y e = refl
first false x y e = cc

-- blanks are passed
passes : (blanks rest : List ℕ) (s : Context) (at : ℕ) → s.skip ≡ 0 → list_all is_blank blanks ≡ true
    → stage s at (blanks ++ rest) ≡ stage (record s { after_blank = s.after_blank || is_some_text blanks }) (at + length blanks) rest
passes [] rest s at z e =
    let a : at ≡ at + 0 = omega arith in
    ap (λ (b : Bool). stage (record s { after_blank = b }) at rest) (or_false s.after_blank)
    ∙ ap (λ (n : ℕ). stage (record s { after_blank = s.after_blank || false }) n rest) a
passes (c ∷ blanks) rest s at z e = at_first (is_blank c) refl e (λ h. passes blanks rest (record s { after_blank = true }) (at + 1) z h)
  where
    at_first : (b : Bool) → is_blank c ≡ b → (b && list_all is_blank blanks) ≡ true
        → (list_all is_blank blanks ≡ true
        → stage (record s { after_blank = true }) (at + 1) (blanks ++ rest)
        ≡ stage (record s { after_blank = true || is_some_text blanks }) (at + 1 + length blanks) rest)
        → stage s at (c ∷ (blanks ++ rest)) ≡ stage (record s { after_blank = s.after_blank || true }) (at + length (c ∷ blanks)) rest
    at_first false b h on = cc
    at_first true b h on =
        let next = record s { after_blank = true } in
        let p : at + 1 + length blanks ≡ at + length (c ∷ blanks) = omega arith in
        on_turn s at c (c ∷ (blanks ++ rest)) (blanks ++ rest) (Pass next) refl
        (second (nat_lt 0 s.skip) (c == 32) (Pass (record s { skip = s.skip - 1 })) (Pass next) (taken (found s (c ∷ (blanks ++ rest)))) (ap (nat_lt 0) z) b)
        ∙ on h
        ∙ ap (λ (n : ℕ). stage next n rest) p
        ∙ ap (λ (b : Bool). stage (record s { after_blank = b }) (at + length (c ∷ blanks)) rest) (or_true s.after_blank)

-- so are the other characters of a token
skips : (w rest : List ℕ) (s : Context) (at : ℕ) → s.skip ≡ length w → stage s at (w ++ rest) ≡ stage (record s { skip = 0 }) (at + length w) rest
skips [] rest s at e =
    let a : at ≡ at + 0 = omega arith in
    ap (λ (n : ℕ). stage (record s { skip = n }) at rest) e ∙ ap (λ (n : ℕ). stage (record s { skip = 0 }) n rest) a
skips (c ∷ w) rest s at e =
    let some : nat_lt 0 s.skip ≡ true = let h : 0 < s.skip = omega (arith, e) in grind (arith, nat_tests, h) in
    let next = record s { skip = s.skip - 1 } in
    let left : s.skip - 1 ≡ length w = omega (arith, e) in
    let p : at + 1 + length w ≡ at + length (c ∷ w) = omega arith in
    on_turn s at c (c ∷ (w ++ rest)) (w ++ rest) (Pass next) refl (first (nat_lt 0 s.skip) (Pass next) _ some)
    ∙ skips w rest next (at + 1) left
    ∙ ap (λ (n : ℕ). stage (record s { skip = 0 }) n rest) p

-- ONE TOKEN

drop_all : (w rest : List ℕ) → drop (length w) (w ++ rest) ≡ rest
drop_all [] rest = refl
drop_all (c ∷ w) rest = drop_all w rest

-- the stage goes on behind a token
record GoesOn (s : Context) (before : List TokenKind) (k : TokenKind) (at : ℕ) (word rest : List ℕ) : Type 0 where
  next : Context
  knows : Knows next (k ∷ before)
  skip : next.skip ≡ 0
  blank : next.after_blank ≡ false
  is : stage s at (word ++ rest) ≡ with_first (record { blank_before = s.after_blank; blank_after = is_apart rest; kind = k }) at
      (stage next (at + length word) rest)

goes_on_at : (s : Context) (before : List TokenKind) (k : TokenKind) (at c : ℕ) (w rest : List ℕ) → Knows s before → s.skip ≡ 0
    → fault_of before k (c ∷ w) ≡ None
    → IsFound s before k c w rest → GoesOn s before k at (c ∷ w) rest
goes_on_at s before k at c w rest knows z good f =
    let text = c ∷ (w ++ rest) in
    let next = after s f.class text in
    let p : at + 1 + length w ≡ at + length (c ∷ w) = omega arith in
    let apart = behind_is (w ++ rest) (further f.class text) ∙ ap (λ (n : ℕ). is_apart (drop n (w ++ rest))) f.size ∙ ap is_apart (drop_all w rest) in
    let after_it = knows_after s before f.class text (text_of f.class text) knows in record {
      next = record next { skip = 0 };
      knows = subst (λ (x : TokenKind). Knows (record next { skip = 0 }) (x ∷ before)) f.token
          (record { tokens = after_it.tokens; depth = after_it.depth; goto = after_it.goto; inside = after_it.inside; target = after_it.target });
      skip = refl;
      blank = refl;
      is =
          turn_found s at c (w ++ rest) (Ok f.class) z f.first (f.is ∙ ap (good_or f.class) good)
          ∙ ap (with_first (token_of s f.class text) at) (skips w rest next (at + 1) f.size ∙ ap (λ (n : ℕ). stage (record next { skip = 0 }) n rest) p)
          ∙ ap (λ (b : Bool). with_first (record { blank_before = s.after_blank; blank_after = b; kind = kind_of f.class (text_of f.class text) }) at
          (stage (record next { skip = 0 }) (at + length (c ∷ w)) rest)) apart
          ∙ ap (λ (x : TokenKind). with_first (record { blank_before = s.after_blank; blank_after = is_apart rest; kind = x }) at
          (stage (record next { skip = 0 }) (at + length (c ∷ w)) rest)) f.token;
    }

goes_on : (s : Context) (before : List TokenKind) (k : TokenKind) (at : ℕ) (word rest : List ℕ) → Knows s before → s.skip ≡ 0 → Stands before k word rest
    → fault_of before k word ≡ None → GoesOn s before k at word rest
goes_on s before k at word rest knows z stands good =
    let f = has_found s before k word rest knows stands in
    subst (λ (x : List ℕ). GoesOn s before k at x rest) (sym f.2)
    (goes_on_at s before k at f.0 f.1 rest knows z (ap (fault_of before k) (sym f.2) ∙ good) f.3)

-- THE END

abbrev answer : Option LexFault → List Token → List ℕ → Result TokenList LexFault
answer None tokens offsets = Ok (record { tokens = tokens; offsets = offsets })
answer (Some fault) tokens offsets = Err fault

answer_first : (end : Option LexFault) (t : Token) (at : ℕ) (tokens : List Token) (offsets : List ℕ)
    → with_first t at (answer end tokens offsets) ≡ answer end (t ∷ tokens) (at ∷ offsets)
answer_first None t at tokens offsets = refl
answer_first (Some fault) t at tokens offsets = refl

fault_found : (s : Context) (at c : ℕ) (cs text : List ℕ) (kind : FaultKind) → text ≡ c ∷ cs → s.skip ≡ 0 → (is_blank c ≡ false) × (found s (c ∷ cs) ≡ Err kind)
    → stage s at text ≡ Err (record { offset = at; kind = kind })
fault_found s at c cs text kind e z f = ap (stage s at) e ∙ turn_found s at c cs (Err kind) z f.0 f.1

stage_fault : (s : Context) (before : List TokenKind) (at : ℕ) (kind : FaultKind) (text : List ℕ) → Knows s before → s.skip ≡ 0 → IsFault before kind text
    → stage s at text ≡ Err (record { offset = at; kind = kind })
stage_fault s before at kind text knows z (inl (k, word, rest, whole, stands, bad)) =
    let f = has_found s before k word rest knows stands in
    fault_found s at f.0 (f.1 ++ rest) text kind (whole ∙ ap (λ (x : List ℕ). x ++ rest) f.2) z
    (f.3.first, f.3.is ∙ ap (good_or f.3.class) (ap (fault_of before k) (sym f.2) ∙ bad))
stage_fault s before at kind text knows z (inr (inl (q, rest, whole, e, none, is))) =
    let f = not_closed s q rest e none in
    fault_found s at q rest text kind whole z (f.0, f.1 ∙ ap Err (sym is))
stage_fault s before at kind text knows z (inr (inr (c, rest, whole, none, is))) =
    let f = foreign s c rest none in
    fault_found s at c rest text kind whole z (f.0, f.1 ∙ ap Err (sym is))

stage_end : (end : Option LexFault) (s : Context) (before : List TokenKind) (at : ℕ) (text : List ℕ) → Knows s before → s.skip ≡ 0 → IsEnd end before at text
    → stage s at text ≡ answer end [] []
stage_end None s before at text knows z e = ap (stage s at) e
stage_end (Some fault) s before at text knows z (place, is) =
    stage_fault s before at fault.kind text knows z is ∙ ap (λ (n : ℕ). Err (record { offset = n; kind = fault.kind })) (sym place)

-- THE WHOLE TEXT

blanks_known : (s : Context) (before : List TokenKind) (blank : Bool) → Knows s before → Knows (record s { after_blank = blank }) before
blanks_known s before blank k = record { tokens = k.tokens; depth = k.depth; goto = k.goto; inside = k.inside; target = k.target }

token_is : (t : Token) (b a : Bool) → t.blank_before ≡ b → t.blank_after ≡ a → record { blank_before = b; blank_after = a; kind = t.kind } ≡ t
token_is t b a e f =
    ap (λ (x : Bool). record { blank_before = x; blank_after = a; kind = t.kind }) (sym e)
    ∙ ap (λ (x : Bool). record { blank_before = t.blank_before; blank_after = x; kind = t.kind }) (sym f)

stage_told : (end : Option LexFault) (tokens : List Token) (offsets text : List ℕ) (s : Context) (before : List TokenKind) (at : ℕ) → Knows s before
    → s.skip ≡ 0
    → TellText end at s.after_blank before tokens offsets text → stage s at text ≡ answer end tokens offsets
stage_told end [] [] text s before at knows z (blanks, rest, whole, are, ends) =
    let blank = s.after_blank || is_some_text blanks in
    ap (stage s at) whole
    ∙ passes blanks rest s at z are
    ∙ stage_end end (record s { after_blank = blank }) before (at + length blanks) rest (blanks_known s before blank knows) z ends
stage_told end (t ∷ tokens) (offset ∷ offsets) text s before at knows z (blanks, word, rest, whole, are, place, stands, good, apart, behind, later) =
    let blank = s.after_blank || is_some_text blanks in
    let here = record s { after_blank = blank } in
    let g = goes_on here before t.kind (at + length blanks) word rest (blanks_known s before blank knows) z stands good in
    let told = subst (λ (b : Bool). TellText end (offset + length word) b (t.kind ∷ before) tokens offsets rest) (sym g.blank) later in
    ap (stage s at) whole
    ∙ passes blanks (word ++ rest) s at z are
    ∙ g.is
    ∙ ap (λ (n : ℕ). with_first (record { blank_before = blank; blank_after = is_apart rest; kind = t.kind }) n
    (stage g.next (n + length word) rest)) (sym place)
    ∙ ap (with_first (record { blank_before = blank; blank_after = is_apart rest; kind = t.kind }) offset)
    (stage_told end tokens offsets rest g.next (t.kind ∷ before) (offset + length word) g.knows g.skip told)
    ∙ ap (λ (x : Token). with_first x offset (answer end tokens offsets)) (token_is t blank (is_apart rest) apart behind)
    ∙ answer_first end t offset tokens offsets
stage_told end [] (offset ∷ offsets) text s before at knows z h = absurd h
stage_told end (t ∷ tokens) [] text s before at knows z h = absurd h

pub nothing_else_tells_it : NothingElseTellsIt
nothing_else_tells_it text from (Ok list) h = sym (stage_told None list.tokens list.offsets (drop from text) start [] from at_start refl h)
nothing_else_tells_it text from (Err fault) (list, h) = sym (stage_told (Some fault) list.tokens list.offsets (drop from text) start [] from at_start refl h)
