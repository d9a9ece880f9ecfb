-- The first operand, where one token tells it: what is told of it alone, and where the reading goes on behind it.
use Rattle.std.{proofs.Common.{arith, ◌≡◌, ℕ, ◌+◌, ◌-◌, ◌<◌, ◌≤◌, take, drop, length, List, [], ◌∷◌, refl, sym, ap, ap₂, ◌∙◌, subst}, proofs.lemmas.List.{length-drop, drop-drop, take_rest}}
use Rattle.std.specs.Prelude.{Bool, true, false, not, ◌&&◌, ◌||◌, Option, Some, None, if◌then◌else◌}
use Rattle.sno_lexer.{specs.declared.token.Token.{Token}, specs.declared.token.TokenKind.{TokenKind}, specs.declared.token.Mark.{Mark}}
use Rattle.sno_lexer.specs.declared.token.TokenKind.TheVariants as token
use Rattle.sno_expression.{specs.declared.tree.BinaryOperator.{BinaryOperator}, specs.declared.tree.BinaryOperator.TheVariants.{Concatenation}, specs.declared.tree.Expression.{Expression as AnExpression}}
use Rattle.sno_expression.{specs.Marks.{operator_of, needs_variable}, specs.Spelling.{spaced}, specs.Expressions.{Expression, Identifier, Constant}, specs.Abstraction.{expression_of}, proofs.Loop.{with_none}}
use Rattle.sno_expression.specs.inner.Telling.{begins_variable, lack_at, fits_at, Told, Tells, then_tell, told, telling}
use Rattle.sno_expression.specs.inner.First.{is_apart, plain, Joint, Joins, operand_by, marked_operand, joined_by, next_operand}
use Rattle.sno_expression.specs.inner.Reading.{State, At, Stack, Bottom, Hole, Begin, After, Named, Whole, Due, push, fill, joined, begin, first, read, result, opens_bracket, variable_due, start}

touches_none : (b : Bool) (k : TokenKind) → opens_bracket false k ≡ false → opens_bracket b k ≡ false
touches_none b token.Open e = cc
touches_none b token.OpenAngle e = cc
touches_none b _ e = refl

not_true : (b : Bool) → not b ≡ true → b ≡ false
not_true b e = grind (arith, e)

and_false : (b : Bool) → (b && false) ≡ false
and_false b = grind arith

-- a name behind which no bracket comes is a whole operand
named_whole : (alone : Bool) (st : Stack) (h : Hole) (n : List ℕ) (ts : List Token) → is_apart ts ≡ true → told alone (At st (Named h n)) ts ≡ told alone (At st (Whole (fill h (Identifier n)))) ts
named_whole alone st h n [] a = refl
named_whole alone st h n (t ∷ ts) a =
    let f : opens_bracket false t.kind ≡ false = not_true (opens_bracket false t.kind) a in
    rw (touches_none t.blank_before t.kind f, f, and_false (variable_due h))

-- an operand begins and is whole
begun : (alone : Bool) (s : State) (st : Stack) (h : Hole) (t : Token) (ts : List Token) (x : Expression) → read alone s t ≡ begin st h t.blank_after t.kind → lack_at s t (length (t ∷ ts)) ≡ 0
    → plain t.kind ts ≡ Some x → told alone s (t ∷ ts) ≡ told alone (At st (Whole (fill h x))) ts
begun alone s st h t ts x r l e =
    ap₂ (λ (o : Option State) (n : ℕ). then_tell o stop n (λ v. told alone v ts)) r l
    ∙ (at t.kind e ∙ with_none (told alone (At st (Whole (fill h x))) ts))
  where
    stop : Told
    stop = Tells (result s) (t ∷ ts) 0 (fits_at alone s t.kind)

    to : State → Told
    to v = then_tell (Some v) stop 0 (λ v. told alone v ts)

    same : (y : Expression) → Some y ≡ Some x → to (At st (Whole (fill h y))) ≡ to (At st (Whole (fill h x)))
    same y d = let c : y ≡ x = cc in ap (λ (z : Expression). to (At st (Whole (fill h z)))) c

    name : (n : List ℕ) (b : Bool) → is_apart ts ≡ b → (if b then Some (Identifier n) else None) ≡ Some x → to (At st (Named h n)) ≡ to (At st (Whole (fill h x)))
    name n true a d =
        with_none (told alone (At st (Named h n)) ts)
        ∙ (named_whole alone st h n ts a
        ∙ (sym (with_none (told alone (At st (Whole (fill h (Identifier n)))) ts)) ∙ same (Identifier n) d))
    name n false a d = cc

    at : (k : TokenKind) → plain k ts ≡ Some x → then_tell (begin st h t.blank_after k) stop 0 (λ v. told alone v ts) ≡ to (At st (Whole (fill h x)))
    at (token.Identifier n) d = name n (is_apart ts) refl d
    at (token.Constant c) d = same (Constant c) d
    at _ d = cc

-- where an expression begins
first_begins : (a : Bool) (k : TokenKind) (ts : List Token) (x : Expression) → plain k ts ≡ Some x → first Bottom a k ≡ begin Bottom Begin a k
first_begins a token.Comma ts x e = cc
first_begins a token.Close ts x e = cc
first_begins a _ ts x e = refl

first_read : (alone : Bool) (t : Token) (ts : List Token) (x : Expression) → plain t.kind ts ≡ Some x → telling alone (t ∷ ts) ≡ told alone (At Bottom (Whole x)) ts
first_read alone t ts x e = begun alone start Bottom Begin t ts x (first_begins t.blank_after t.kind ts x e) refl e

-- what a first token tells of all
pub first_told : (alone : Bool) (u : Token) (ts : List Token) (t : AnExpression) → Some (expression_of t) ≡ plain u.kind ts → told alone (At Bottom (Whole (expression_of t))) ts ≡ telling alone (u ∷ ts)
first_told alone u ts t e = sym (first_read alone u ts (expression_of t) (sym e))

-- alone it is all
pub alone_told : (ts : List Token) (x : Expression) → Tells (Some x) ts 0 false ≡ told true (At Bottom (Whole x)) ts
alone_told [] x = refl
alone_told (t ∷ ts) x = refl

-- THE OPERANDS BEHIND IT

-- what an operand that comes next tells of all
abbrev pub GoesOn : Expression → List Token → Joint → Type 0
GoesOn e ts (Joins o x n) = (told false (At Bottom (Whole e)) ts ≡ told false (At Bottom (Whole (push o x e))) (drop n ts)) × (0 < n) × (n ≤ length ts)

operand_goes : (e : Expression) (o : BinaryOperator) (n : ℕ) (q : Option Expression) (ts : List Token) (j : Joint) → operand_by o n q ≡ Some j
    → ((x : Expression) → q ≡ Some x → GoesOn e ts (Joins o x n)) → GoesOn e ts j
operand_goes e o n None ts j d on = cc
operand_goes e o n (Some x) ts j d on = let c : Joins o x n ≡ j = cc in subst (GoesOn e ts) c (on x refl)

misfit_none : (b c : Bool) → (not b || c) ≡ false → (b ≡ true) × (c ≡ false)
misfit_none true c e = (refl, e)
misfit_none false c e = cc

mark_goes : (e : Expression) (m : Mark) (o : BinaryOperator) (v : Token) (ts : List Token) (x : Expression) → operator_of m ≡ Some o
    → (not v.blank_before || (needs_variable o && not (begins_variable v.kind))) ≡ false → plain v.kind ts ≡ Some x
    → GoesOn e (spaced true true (token.Mark m) ∷ v ∷ ts) (Joins o x 2)
mark_goes e m o v ts x d f p =
    let g = misfit_none v.blank_before (needs_variable o && not (begins_variable v.kind)) f in
    let h = ap (λ (q : Option BinaryOperator). then_tell (joined Bottom e q) (Tells (Some e) (spaced true true (token.Mark m) ∷ v ∷ ts) 0 true) 0 (λ s. told false s (v ∷ ts))) d
    ∙ (with_none (told false (At Bottom (Due (After e o))) (v ∷ ts))
    ∙ begun false (At Bottom (Due (After e o))) Bottom (After e o) v ts x (ap (λ (b : Bool). if b then begin Bottom (After e o) v.blank_after v.kind else None) g.0)
    (ap (λ (b : Bool). if b then length (v ∷ ts) else 0) g.1) p) in
    (h, omega arith, omega arith)

marked_goes : (e : Expression) (m : Mark) (q : Option BinaryOperator) (ts : List Token) (j : Joint) → operator_of m ≡ q → marked_operand q ts ≡ Some j
    → GoesOn e (spaced true true (token.Mark m) ∷ ts) j
marked_goes e m None ts j d n = cc
marked_goes e m (Some o) [] j d n = cc
marked_goes e m (Some o) (v ∷ ts) j d n = at (not v.blank_before || (needs_variable o && not (begins_variable v.kind))) refl n
  where
    at : (c : Bool) → (not v.blank_before || (needs_variable o && not (begins_variable v.kind))) ≡ c → (if c then None else operand_by o 2 (plain v.kind ts)) ≡ Some j
        → GoesOn e (spaced true true (token.Mark m) ∷ v ∷ ts) j
    at true f h = cc
    at false f h = operand_goes e o 2 (plain v.kind ts) (spaced true true (token.Mark m) ∷ v ∷ ts) j h (λ x p. mark_goes e m o v ts x d f p)

bare_goes : (e : Expression) (a : Bool) (k : TokenKind) (ts : List Token) (x : Expression) → plain k ts ≡ Some x → GoesOn e (spaced true a k ∷ ts) (Joins Concatenation x 1)
bare_goes e a (token.Identifier n) ts x p = (begun false (At Bottom (Whole e)) Bottom (After e Concatenation) (spaced true a (token.Identifier n)) ts x refl refl p, omega arith, omega arith)
bare_goes e a (token.Constant c) ts x p = (begun false (At Bottom (Whole e)) Bottom (After e Concatenation) (spaced true a (token.Constant c)) ts x refl refl p, omega arith, omega arith)
bare_goes e a _ ts x p = cc

blank_goes : (e : Expression) (a : Bool) (k : TokenKind) (ts : List Token) (j : Joint) → joined_by a k ts ≡ Some j → GoesOn e (spaced true a k ∷ ts) j
blank_goes e true (token.Mark m) ts j d = marked_goes e m (operator_of m) ts j refl d
blank_goes e false (token.Mark m) ts j d = cc
blank_goes e a k ts j d = operand_goes e Concatenation 1 (plain k ts) (spaced true a k ∷ ts) j d (λ x p. bare_goes e a k ts x p)

pub goes_on : (e : Expression) (ts : List Token) (j : Joint) → next_operand ts ≡ Some j → GoesOn e ts j
goes_on e [] j d = cc
goes_on e (t ∷ ts) j d = at t.blank_before t.blank_after t.kind d
  where
    at : (b a : Bool) (k : TokenKind) → (if not b then None else joined_by a k ts) ≡ Some j → GoesOn e (spaced b a k ∷ ts) j
    at true a k h = blank_goes e a k ts j h
    at false a k h = cc

-- from a place on
pub goes_from : (e : Expression) (ts : List Token) (i : ℕ) (o : BinaryOperator) (x : Expression) (n : ℕ)
    → Some (Joins o x n) ≡ next_operand (take (length ts - i) (drop i ts)) → i ≤ length ts
    → (told false (At Bottom (Whole e)) (drop i ts) ≡ told false (At Bottom (Whole (push o x e))) (drop (i + n) ts)) × (0 < n) × (i + n ≤ length ts)
goes_from e ts i o x n d w =
    let g = goes_on e (drop i ts) (Joins o x n) (sym (d ∙ ap next_operand (take_rest ts i))) in
    let l = length-drop i ts in
    let a = g.2 in
    (g.0 ∙ ap (told false (At Bottom (Whole (push o x e)))) (drop-drop n i ts), g.1, omega (arith, l, a, w))
