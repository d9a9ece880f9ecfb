-- What fits is what is taken with some blanks.
use Rattle.std.{proofs.Common.{◌≡◌, refl, ap, ◌∙◌}, specs.Prelude.{Bool, true, false, Option, Some, None, is_some, if◌then◌else◌}, specs.Option.{option_map}}
use Rattle.sno_lexer.{specs.declared.token.Mark.{Mark}, specs.declared.token.TokenKind.{TokenKind}}
use Rattle.sno_lexer.specs.declared.token.Mark.TheVariants as mark
use Rattle.sno_lexer.specs.declared.token.TokenKind.TheVariants as token
use Rattle.sno_expression.{specs.declared.tree.UnaryOperator.{UnaryOperator}, specs.declared.tree.Prefix.{Prefix}, specs.declared.tree.Prefix.TheVariants.{OfOperand}, specs.Marks.{unary_of, prefix_of}}
use Rattle.sno_expression.{specs.Expressions.{Expression, Identifier, Constant}, specs.Spelling.{spaced}, specs.inner.Telling.{begins, goes_on, onward, due_fits, fits_at}}
use Rattle.sno_expression.specs.inner.Reading.{Hole, Begin, After, Under, fill, Stack, Bottom, In, InGroup, Due, Prefixed, Named, Whole, State, At, with_prefix, under, prefixed, begin, close, first, go_on, closed, after, read, opens_bracket, opened, start}

-- TAKEN, SO IT FITS

begun_fits : (st : Stack) (h : Hole) (a : Bool) (k : TokenKind) (v : State) → begin st h a k ≡ Some v → begins false k ≡ true
begun_fits st h true (token.Mark m) v e = cc
begun_fits st h false (token.Mark m) v e = at (prefix_of m) e
  where
    at : (p : Option Prefix) → prefixed st h p ≡ Some v → is_some p ≡ true
    at None d = cc
    at (Some p) d = refl
begun_fits st h a _ v e = cc

first_fits : (st : Stack) (a : Bool) (k : TokenKind) (v : State) → first st a k ≡ Some v → due_fits st Begin k ≡ true
first_fits st a token.Close v e = ap (λ (o : Option State). is_some o) e
first_fits st a token.Comma v e = ap (λ (o : Option State). is_some o) e
first_fits st a k v e = begun_fits st Begin a k v e

gone_fits : (st : Stack) (t : Expression) (w b a : Bool) (k : TokenKind) (v : State) → go_on st t b a k ≡ Some v → goes_on st t w k ≡ true
gone_fits st t w b a token.Close v e = ap (λ (o : Option State). is_some o) e
gone_fits st t w b a token.Comma v e = ap (λ (o : Option State). is_some o) e
gone_fits st t w b a token.CloseAngle v e = ap (λ (o : Option State). is_some o) e
gone_fits st t w true a token.OpenAngle v e = cc
gone_fits st t w false a token.OpenAngle v e = cc
gone_fits st t w true a (token.Part p) v e = cc
gone_fits st t w false a (token.Part p) v e = cc
gone_fits st t w b a _ v e = refl

after_fits : (alone : Bool) (st : Stack) (t : Expression) (w b a : Bool) (k : TokenKind) (v : State) → after alone st t b a k ≡ Some v → onward alone st t w k ≡ true
after_fits alone st t w b a k v e = at (closed alone st) e
  where
    at : (c : Bool) → (if c then None else go_on st t b a k) ≡ Some v → (if c then w else goes_on st t w k) ≡ true
    at true d = cc
    at false d = gone_fits st t w b a k v d

opened_fits : (c b : Bool) (st : Stack) (t : Expression) (k : TokenKind) → opens_bracket b k ≡ true → (if c then opens_bracket false k else goes_on st t (opens_bracket false k) k) ≡ true
opened_fits true b st t token.Open e = refl
opened_fits true b st t token.OpenAngle e = refl
opened_fits false b st t token.Open e = refl
opened_fits false b st t token.OpenAngle e = refl
opened_fits c b st t _ e = cc

pub taken_fits : (alone : Bool) (s : State) (b a : Bool) (k : TokenKind) (v : State) → read alone s (spaced b a k) ≡ Some v → fits_at alone s k ≡ true
taken_fits alone (At st (Due Begin)) b a k v e = first_fits st a k v e
taken_fits alone (At st (Due (After l o))) true a k v e = begun_fits st (After l o) a k v e
taken_fits alone (At st (Due (After l o))) false a k v e = cc
taken_fits alone (At st (Due (Under s h))) true a k v e = cc
taken_fits alone (At st (Due (Under s h))) false a k v e = begun_fits st (Under s h) a k v e
taken_fits alone (At st (Prefixed h w)) false a (token.Identifier n) v e = refl
taken_fits alone (At st (Prefixed h w)) b a _ v e = cc
taken_fits alone (At st (Named h n)) b a k v e = at (opens_bracket b k) refl e
  where
    at : (c : Bool) → opens_bracket b k ≡ c → (if c then Some (At (In (opened n k) h st) (Due Begin)) else after alone st (fill h (Identifier n)) b a k) ≡ Some v
        → onward alone st (fill h (Identifier n)) (opens_bracket false k) k ≡ true
    at true d f = opened_fits (closed alone st) b st (fill h (Identifier n)) k d
    at false d f = after_fits alone st (fill h (Identifier n)) (opens_bracket false k) b a k v f
taken_fits alone (At st (Whole t)) b a k v e = after_fits alone st t false b a k v e

-- IT FITS, SO IT IS TAKEN WITH SOME BLANKS

abbrev pub IsTaken : Bool → State → TokenKind → Type 0
IsTaken alone s k = (b : Bool) × (a : Bool) × (v : State) × (read alone s (spaced b a k) ≡ Some v)

some_of : (o : Option State) → is_some o ≡ true → (v : State) × (o ≡ Some v)
some_of None e = cc
some_of (Some v) e = (v, refl)

pub fits_begun : (st : Stack) (h : Hole) (a : Bool) (k : TokenKind) → begins a k ≡ true → (v : State) × (begin st h a k ≡ Some v)
fits_begun st h a (token.Identifier n) e = (At st (Named h n), refl)
fits_begun st h a (token.Constant c) e = (At st (Whole (fill h (Constant c))), refl)
fits_begun st h a token.Open e = (At (In InGroup h st) (Due Begin), refl)
fits_begun st h true (token.Mark m) e = cc
fits_begun st h false (token.Mark m) e = at (prefix_of m) e
  where
    at : (p : Option Prefix) → is_some p ≡ true → (v : State) × (prefixed st h p ≡ Some v)
    at None d = cc
    at (Some p) d = (At st (under h p), refl)
fits_begun st h a _ e = cc

pub first_begins : (st : Stack) (a : Bool) (k : TokenKind) → begins a k ≡ true → first st a k ≡ begin st Begin a k
first_begins st a token.Close e = cc
first_begins st a token.Comma e = cc
first_begins st a _ e = refl

-- where an expression begins
pub starts : (alone b a : Bool) (k : TokenKind) → begins a k ≡ true → (v : State) × (read alone start (spaced b a k) ≡ Some v)
starts alone b a k e = let v = fits_begun Bottom Begin a k e in (v.0, first_begins Bottom a k e ∙ v.1)

pub begins_any : (a : Bool) (k : TokenKind) → begins a k ≡ true → begins false k ≡ true
begins_any true (token.Mark m) e = cc
begins_any false (token.Mark m) e = e
begins_any a _ e = e

pub start_begins : (k : TokenKind) → due_fits Bottom Begin k ≡ begins false k
start_begins token.Comma = refl
start_begins token.Close = refl
start_begins _ = refl

fits_first : (st : Stack) (k : TokenKind) → due_fits st Begin k ≡ true → (v : State) × (first st false k ≡ Some v)
fits_first st token.Close e = some_of (close st None token.Close) e
fits_first st token.Comma e = some_of (close st None token.Comma) e
fits_first st k e = fits_begun st Begin false k e

go_mark : (st : Stack) (t : Expression) (m : Mark) → (a : Bool) × (v : State) × (go_on st t true a (token.Mark m) ≡ Some v)
go_mark st t mark.At = (false, _, refl)
go_mark st t mark.Tilde = (false, _, refl)
go_mark st t mark.Question = (false, _, refl)
go_mark st t mark.Ampersand = (false, _, refl)
go_mark st t _ = (true, _, refl)

fits_gone : (st : Stack) (t : Expression) (k : TokenKind) → goes_on st t false k ≡ true → (a : Bool) × (v : State) × (go_on st t true a k ≡ Some v)
fits_gone st t (token.Mark m) e = go_mark st t m
fits_gone st t token.OpenAngle e = cc
fits_gone st t k e = let v = some_of (go_on st t true false k) e in (false, v.0, v.1)

fits_after : (alone : Bool) (st : Stack) (t : Expression) (k : TokenKind) → onward alone st t false k ≡ true
    → (a : Bool) × (v : State) × (after alone st t true a k ≡ Some v)
fits_after alone st t k e = at (closed alone st) e
  where
    at : (c : Bool) → (if c then false else goes_on st t false k) ≡ true → (a : Bool) × (v : State) × ((if c then None else go_on st t true a k) ≡ Some v)
    at true d = cc
    at false d = fits_gone st t k d

pub fits_taken : (alone : Bool) (s : State) (k : TokenKind) → fits_at alone s k ≡ true → IsTaken alone s k
fits_taken alone (At st (Due Begin)) k e = let v = fits_first st k e in (false, false, v.0, v.1)
fits_taken alone (At st (Due (After l o))) k e = let v = fits_begun st (After l o) false k e in (true, false, v.0, v.1)
fits_taken alone (At st (Due (Under s h))) k e = let v = fits_begun st (Under s h) false k e in (false, false, v.0, v.1)
fits_taken alone (At st (Prefixed h w)) (token.Identifier n) e = (false, false, At st (Whole (fill h (with_prefix w n))), refl)
fits_taken alone (At st (Prefixed h w)) _ e = cc
fits_taken alone (At st (Named h n)) k e = by k e
  where
    by : (k : TokenKind) → onward alone st (fill h (Identifier n)) (opens_bracket false k) k ≡ true → IsTaken alone (At st (Named h n)) k
    by token.Open d = (false, false, At (In (opened n token.Open) h st) (Due Begin), refl)
    by token.OpenAngle d = (false, false, At (In (opened n token.OpenAngle) h st) (Due Begin), refl)
    by k d = let v = fits_after alone st (fill h (Identifier n)) k d in (true, v.0, v.1, v.2)
fits_taken alone (At st (Whole t)) k e = let v = fits_after alone st t k e in (true, v.0, v.1, v.2)

-- WHAT A MARK WRITES BEFORE AN OPERAND, AS THE SPELLING SAYS IT AND AS THE READER DOES

pub as_prefix : (k : Mark) (s : UnaryOperator) → unary_of k ≡ Some s → prefix_of k ≡ Some (OfOperand s)
as_prefix mark.Ampersand s e = cc
as_prefix mark.Star s e = cc
as_prefix _ s e = ap (option_map OfOperand) e

abbrev operand : Option Prefix → Option UnaryOperator
operand (Some (OfOperand s)) = Some s
operand _ = None

unary_is : (k : Mark) → unary_of k ≡ operand (prefix_of k)
unary_is mark.Ampersand = refl
unary_is mark.Star = refl
unary_is _ = refl

pub as_unary : (k : Mark) (s : UnaryOperator) → prefix_of k ≡ Some (OfOperand s) → unary_of k ≡ Some s
as_unary k s e = unary_is k ∙ ap operand e
