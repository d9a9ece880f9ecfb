-- How a statement is read token by token: what has been read so far makes of the tokens to come what a shape makes of them.
use Rattle.std.proofs.Common.{arith, ◌≡◌, ℕ, suc, ◌+◌, ◌≤◌, length, List, [], ◌∷◌, ◌++◌, refl, sym, ap, ap₂, ◌∙◌}
use Rattle.std.{specs.Prelude.{Bool, true, false, Option, Some, None, is_some, Result, Ok, Err, ◌||◌, ◌&&◌, not, if◌then◌else◌}, proofs.lemmas.Bool.Decides.{nat_tests}}
use Rattle.sno_lexer.{specs.declared.token.Mark.TheVariants.{Dollar}, specs.declared.token.Outcome.{Outcome}, specs.declared.token.Token.{Token}, specs.declared.token.Part.TheVariants.{On, Label}}
use Rattle.sno_lexer.specs.declared.token.TokenKind.{TokenKind}
use Rattle.sno_lexer.specs.declared.token.TokenKind.TheVariants as token
use Rattle.sno_expression.{specs.Expressions.{Expression}, specs.Spelling.{spaced}, specs.inner.Reading.{State, Due, Named, At, read, result, start, opens_bracket, variable_due}}
use Rattle.sno_expression.specs.inner.Telling.{most, begins, begins_variable, lack_at, fits_at, Told, Tells, with_lack, then_tell, told, telling}
use Rattle.sno_expression.{proofs.Closing.{closing as parenthesis, completion, tail, state_ends}, proofs.Loop.{none_most, most_none, with_both}}
use Rattle.sno_expression.proofs.Telling.{taken_fits, fits_taken, starts, start_begins, begins_any}
use Rattle.sno_statement.specs.declared.parser.Refusal.{Refusal}
use Rattle.sno_statement.specs.Statements.{Target, To, Computed, Goto, NoGoto, Always, NoObject, NullObject, ValueObject, Body, NoBody, Does, Statement, Says, may_be_set}
use Rattle.sno_statement.specs.inner.Parsing.{blamed, Aim, Aimed, closing, computed, element, inside, target_in, Stated, States, at_last, last, pair, is_other, on_one, next, chosen, goto_in, is_colon, is_equals, ending, giving, object_in, set, parted, matching, subject_then, acting, begun}

-- PLACES

-- behind the place stand so many tokens that were read, and n to come
abbrev pub count : Option ℕ → ℕ → ℕ
count None n = 0
count (Some d) n = suc (d + n)

abbrev pub later : Option ℕ → Option ℕ
later None = None
later (Some d) = Some (suc d)

abbrev pub merged : Option ℕ → Option ℕ → Option ℕ
merged None p = p
merged (Some d) None = Some d
merged (Some d) (Some e) = Some (most d e)

pub count_later : (o : Option ℕ) (n : ℕ) → count o (suc n) ≡ count (later o) n
count_later None n = refl
count_later (Some d) n = omega arith

pub count_merged : (o p : Option ℕ) (n : ℕ) → most (count o n) (count p n) ≡ count (merged o p) n
count_merged None p n = none_most (count p n)
count_merged (Some d) None n = most_none (suc (d + n))
count_merged (Some d) (Some e) n = grind (arith, nat_tests)

-- the place that a token shows
abbrev shown : State → Token → Option ℕ
shown (At st (Due h)) t = if variable_due h && not (begins_variable t.kind) then Some 0 else None
shown (At st (Named h f)) t = if variable_due h && opens_bracket t.blank_before t.kind then Some 1 else None
shown (At st spot) t = None

place_count : (c : Bool) (d l n : ℕ) → l ≡ suc (d + n) → (if c then l else 0) ≡ count (if c then Some d else None) n
place_count true d l n e = e
place_count false d l n e = refl

shown_count : (s : State) (t : Token) (n : ℕ) → lack_at s t (suc n) ≡ count (shown s t) n
shown_count (At st (Due h)) t n = place_count (variable_due h && not (begins_variable t.kind)) 0 (suc n) n (omega arith)
shown_count (At st (Named h f)) t n = place_count (variable_due h && opens_bracket t.blank_before t.kind) 1 (suc n + 1) n (omega arith)
shown_count (At st _) t n = refl

-- SHAPES

-- what stands behind a target: nothing more, or the other outcome too
pub data Behind : Type 0 where
  Last : Body → (Target → Goto) → Behind
  First : Body → Outcome → Behind

abbrev aim_then : Behind → Result Aim Refusal → Result Stated Refusal
aim_then k (Err r) = Err r
aim_then (Last b g) (Ok (Aimed t n ts)) = at_last b (g t) n ts
aim_then (First b o) (Ok (Aimed t n ts)) = next b o t n ts

-- an expression that is read
pub data Field : Type 0 where
  Subject : Field
  Pattern : Expression → Field
  Object : Expression → Option Expression → Field
  Element : Behind → Field

abbrev alone : Field → Bool
alone Subject = true
alone (Element k) = true
alone _ = false

pub data Shape : Type 0 where
  Start : Shape
  In : ℕ → Field → State → Shape  -- behind so many tokens
  AfterEquals : Expression → Option Expression → Shape
  AfterColon : Body → Shape
  AfterOutcome : Behind → Shape
  InTarget : Behind → Shape
  AfterDollar : Behind → Shape
  AfterLabel : Behind → List ℕ → Shape
  AfterFirst : Body → Outcome → Target → Shape
  AfterLast : Body → Goto → Shape

-- what is made of what is told of an expression, with z tokens from the subject on
abbrev made : ℕ → Field → Told → Result Stated Refusal
made z Subject x = acting z x
made z (Pattern y) x = matching z y x
made z (Object y p) x = giving y p x
made z (Element k) x = aim_then k (computed x)

-- and of what stands behind the expression
abbrev left : ℕ → Field → Bool → Expression → ℕ → List Token → Result Stated Refusal
left z Subject w x n ts = subject_then z w x n ts
left z (Pattern y) w x n ts = parted z w y (Some x) n ts
left z (Object y p) w x n ts = ending w (Does y p (ValueObject x)) n ts
left z (Element k) w x n ts = aim_then k (closing w (Computed x) n ts)

abbrev pub run : Shape → ℕ → List Token → Result Stated Refusal
run Start n ts = begun n ts
run (In u f s) n ts = made (u + length ts) f (with_lack n (told (alone f) s ts))
run (AfterEquals x p) n ts = object_in x p n ts
run (AfterColon b) n ts = goto_in b n ts
run (AfterOutcome k) n ts = aim_then k (target_in n ts)
run (InTarget k) n ts = aim_then k (inside n ts)
run (AfterDollar k) n ts = aim_then k (element n ts)
run (AfterLabel k l) n ts = aim_then k (closing false (To l) n ts)
run (AfterFirst b o t) n ts = next b o t n ts
run (AfterLast b g) n ts = at_last b g n ts

last_then : (b : Body) (g : Target → Goto) (x : Result Aim Refusal) → last b g x ≡ aim_then (Last b g) x
last_then b g (Err r) = refl
last_then b g (Ok (Aimed t n ts)) = refl

chosen_then : (b : Body) (o : Outcome) (x : Result Aim Refusal) → chosen b o x ≡ aim_then (First b o) x
chosen_then b o (Err r) = refl
chosen_then b o (Ok (Aimed t n ts)) = refl

abbrev after : Behind → Target → Shape
after (Last b g) t = AfterLast b (g t)
after (First b o) t = AfterFirst b o t

aimed : (k : Behind) (t : Target) (n : ℕ) (m : List Token) → aim_then k (Ok (Aimed t n m)) ≡ run (after k t) n m
aimed (Last b g) t n m = refl
aimed (First b o) t n m = refl

none_used : (z : ℕ) (f : Field) (n : ℕ) (rest : List Token) (w : Bool) → made z f (Tells None rest n w) ≡ Err (blamed w n rest)
none_used z Subject n rest w = refl
none_used z _ n rest w = refl

some_used : (z : ℕ) (f : Field) (n : ℕ) (x : Expression) (rest : List Token) (w : Bool) → made z f (Tells (Some x) rest n w) ≡ left z f w x n rest
some_used z Subject n x rest w = refl
some_used z _ n x rest w = refl

-- ONE MORE TOKEN

-- one more token leads to a shape, and shows a place
abbrev pub Onto : (ℕ → List Token → Result Stated Refusal) → Token → Type 0
Onto g t = (d : Shape) × (p : Option ℕ) × ((n : ℕ) (m : List Token) → g n (t ∷ m) ≡ run d (most n (count p (length m))) m)

-- it is taken, as its kind may be with some blanks, or it is refused
pub data Moves (g : ℕ → List Token → Result Stated Refusal) (may : Bool) (t : Token) : Type 0 where
  Goes : may ≡ true → Onto g t → Moves g may t
  Stops : ((n : ℕ) (m : List Token) → g n (t ∷ m) ≡ Err (blamed may n (t ∷ m))) → Moves g may t

-- nothing is lacking at the token
onto : (g : ℕ → List Token → Result Stated Refusal) (t : Token) (d : Shape) → ((n : ℕ) (m : List Token) → g n (t ∷ m) ≡ run d n m) → Onto g t
onto g t d h = (d, None, λ n m. h n m ∙ ap (λ (x : ℕ). run d x m) (sym (most_none n)))

-- what reads the same goes the same way
moved : (g h : ℕ → List Token → Result Stated Refusal) (a b : Bool) (t : Token) → ((n : ℕ) (m : List Token) → h n (t ∷ m) ≡ g n (t ∷ m)) → a ≡ b
    → Moves g a t → Moves h b t
moved g h a b t e d (Goes x o) = Goes (sym d ∙ x) (o.0, o.1, λ n m. e n m ∙ o.2 n m)
moved g h a b t e d (Stops s) = Stops (λ n m. e n m ∙ (s n m ∙ ap (λ (x : Bool). Err (blamed x n (t ∷ m))) d))

or_true : (x : Bool) → (x || true) ≡ true
or_true x = grind arith

or_none : (x : Bool) → (x || false) ≡ x
or_none x = grind arith

-- WITHIN AN EXPRESSION

told_end : (al : Bool) (s : State) (t : Token) (m : List Token) → read al s t ≡ None → told al s (t ∷ m) ≡ Tells (result s) (t ∷ m) 0 (fits_at al s t.kind)
told_end al s t m e = ap (λ (o : Option State). then_tell o (Tells (result s) (t ∷ m) 0 (fits_at al s t.kind)) (lack_at s t (length (t ∷ m))) (λ u. told al u m)) e

told_next : (al : Bool) (s v : State) (t : Token) (m : List Token) → read al s t ≡ Some v → told al s (t ∷ m) ≡ with_lack (count (shown s t) (length m)) (told al v m)
told_next al s v t m e =
    ap (λ (o : Option State). then_tell o (Tells (result s) (t ∷ m) 0 (fits_at al s t.kind)) (lack_at s t (length (t ∷ m))) (λ u. told al u m)) e
    ∙ ap (λ (l : ℕ). with_lack l (told al v m)) (shown_count s t (length m))

within : (u : ℕ) (f : Field) (s v : State) (t : Token) → read (alone f) s t ≡ Some v → Onto (run (In u f s)) t
within u f s v t e =
    let l = λ (m : List Token). count (shown s t) (length m) in
    let h = λ (n : ℕ) (m : List Token). ap (with_lack n) (told_next (alone f) s v t m e) ∙ with_both n (l m) (told (alone f) v m) in
    (In (suc u) f v, shown s t, λ n m. ap₂ (λ (z : ℕ) (x : Told). made z f x) (let d : u + suc (length m) ≡ suc u + length m = omega arith in d) (h n m))

-- behind an expression that takes no more
stopped : (u : ℕ) (f : Field) (s : State) (t : Token) → read (alone f) s t ≡ None → (n : ℕ) (m : List Token)
    → run (In u f s) n (t ∷ m) ≡ made (u + length (t ∷ m)) f (Tells (result s) (t ∷ m) n (fits_at (alone f) s t.kind))
stopped u f s t e n m =
    ap (λ (x : Told). made (u + length (t ∷ m)) f (with_lack n x)) (told_end (alone f) s t m e)
    ∙ ap (λ (k : ℕ). made (u + length (t ∷ m)) f (Tells (result s) (t ∷ m) k (fits_at (alone f) s t.kind))) (most_none n)

onto_left : (u : ℕ) (f : Field) (s : State) (t : Token) (x : Expression) → read (alone f) s t ≡ None → result s ≡ Some x → (n : ℕ) (m : List Token)
    → run (In u f s) n (t ∷ m) ≡ left (u + length (t ∷ m)) f (fits_at (alone f) s t.kind) x n (t ∷ m)
onto_left u f s t x e r n m =
    stopped u f s t e n m ∙ (ap (λ (o : Option Expression). made (u + length (t ∷ m)) f (Tells o (t ∷ m) n (fits_at (alone f) s t.kind))) r
    ∙ some_used (u + length (t ∷ m)) f n x (t ∷ m) (fits_at (alone f) s t.kind))

-- where an expression begins
entered : (u : ℕ) (f : Field) (t : Token) → begins t.blank_after t.kind ≡ true → Onto (run (In u f start)) t
entered u f t e = let v = starts (alone f) t.blank_before t.blank_after t.kind e in within u f start v.0 t v.1

entering : (u : ℕ) (f : Field) (t : Token) → Moves (run (In u f start)) (begins false t.kind) t
entering u f t = at (read (alone f) start t) refl
  where
    at : (o : Option State) → read (alone f) start t ≡ o → Moves (run (In u f start)) (begins false t.kind) t
    at (Some v) d = Goes (sym (start_begins t.kind) ∙ taken_fits (alone f) start t.blank_before t.blank_after t.kind v d) (within u f start v t d)
    at None d = Stops (λ n m. stopped u f start t d n m ∙ (none_used (u + length (t ∷ m)) f n (t ∷ m) (fits_at (alone f) start t.kind)
        ∙ ap (λ (x : Bool). Err (blamed x n (t ∷ m))) (start_begins t.kind)))

-- BEHIND AN EXPRESSION

abbrev is_close : TokenKind → Bool
is_close token.Close = true
is_close _ = false

-- does a token of this kind go on with some blanks behind what is whole
abbrev leaves : Field → TokenKind → Bool
leaves Subject k = begins false k || (is_equals k || is_colon k)
leaves (Pattern x) k = is_equals k || is_colon k
leaves (Object x p) k = is_colon k
leaves (Element b) k = is_close k

ending_moves : (w : Bool) (b : Body) (t : Token) → Moves (ending w b) (w || is_colon t.kind) t
ending_moves w b t = at (is_colon t.kind) t.blank_before refl refl
  where
    at : (c d : Bool) → is_colon t.kind ≡ c → t.blank_before ≡ d → Moves (ending w b) (w || is_colon t.kind) t
    at true true e d = Goes (rw (e, or_true w)) (onto (ending w b) t (AfterColon b) (λ n m. rw (e, d)))
    at true false e d = Stops (λ n m. rw (e, d, or_true w))
    at false d e f = Stops (λ n m. rw (e, or_none w))

-- the place of the subject, where it may not be assigned to
abbrev unset : ℕ → Expression → Bool → Option ℕ
unset u x p = if may_be_set x p then None else Some u

set_count : (u : ℕ) (x : Expression) (p : Bool) (l n : ℕ) → set (u + suc l) x p n ≡ most n (count (unset u x p) l)
set_count u x p l n = at (may_be_set x p)
  where
    at : (c : Bool) → (if c then n else most n (u + suc l)) ≡ most n (count (if c then None else Some u) l)
    at true = sym (most_none n)
    at false = ap (most n) (let e : u + suc l ≡ suc (u + l) = omega arith in e)

parted_moves : (u : ℕ) (w : Bool) (y : Expression) (p : Option Expression) (t : Token)
    → Moves (λ n ts. parted (u + length ts) w y p n ts) (w || (is_equals t.kind || is_colon t.kind)) t
parted_moves u w y p t = at (is_equals t.kind) (t.blank_before && t.blank_after) refl refl
  where
    at : (c d : Bool) → is_equals t.kind ≡ c → (t.blank_before && t.blank_after) ≡ d
        → Moves (λ n ts. parted (u + length ts) w y p n ts) (w || (is_equals t.kind || is_colon t.kind)) t
    at true true e d =
        Goes (rw (e, or_true w)) (AfterEquals y p, unset u y (is_some p), λ n m. rw (e, d) (ap (λ (k : ℕ). object_in y p k m) (set_count u y (is_some p) (length m) n)))
    at true false e d = Stops (λ n m. rw (e, d, or_true w))
    at false d e f = moved (ending w (Does y p NoObject)) (λ n ts. parted (u + length ts) w y p n ts) (w || is_colon t.kind) (w || (is_equals t.kind || is_colon t.kind)) t
        (λ n m. rw e) (rw e) (ending_moves w (Does y p NoObject) t)

subject_moves : (u : ℕ) (w : Bool) (x : Expression) (t : Token)
    → Moves (λ n ts. subject_then (u + length ts) w x n ts) (w || (begins false t.kind || (is_equals t.kind || is_colon t.kind))) t
subject_moves u w x t = at (t.blank_before && begins t.blank_after t.kind) refl
  where
    b : Bool
    b = begins false t.kind

    parts : Bool
    parts = is_equals t.kind || is_colon t.kind

    starts_there : (a c : Bool) → (a && c) ≡ true → c ≡ true
    starts_there a c e = grind (arith, e)

    some : (b : Bool) → b ≡ true → (w || (b || parts)) ≡ true
    some b e = rw e (or_true w)

    regrouped : (b : Bool) → ((w || b) || parts) ≡ (w || (b || parts))
    regrouped b = grind arith

    at : (c : Bool) → (t.blank_before && begins t.blank_after t.kind) ≡ c → Moves (λ n ts. subject_then (u + length ts) w x n ts) (w || (b || parts)) t
    at true e =
        let d = starts_there t.blank_before (begins t.blank_after t.kind) e in
        let g = entered u (Pattern x) t d in
        Goes (some b (begins_any t.blank_after t.kind d)) (g.0, g.1, λ n m. rw e (g.2 n m))
    at false e = moved (λ n ts. parted (u + length ts) (w || b) x None n ts) (λ n ts. subject_then (u + length ts) w x n ts) ((w || b) || parts) (w || (b || parts)) t
        (λ n m. rw e) (regrouped b) (parted_moves u (w || b) x None t)

left_moves : (u : ℕ) (f : Field) (w : Bool) (x : Expression) (t : Token) → Moves (λ n ts. left (u + length ts) f w x n ts) (w || leaves f t.kind) t
left_moves u Subject w x t = subject_moves u w x t
left_moves u (Pattern y) w x t = parted_moves u w y (Some x) t
left_moves u (Object y p) w x t = ending_moves w (Does y p (ValueObject x)) t
left_moves u (Element h) w x t = by t.blank_before t.blank_after t.kind
  where
    by : (b a : Bool) (k : TokenKind) → Moves (λ n ts. left (u + length ts) (Element h) w x n ts) (w || is_close k) (spaced b a k)
    by b a token.Close = Goes (or_true w) (onto (λ n ts. left (u + length ts) (Element h) w x n ts) (spaced b a token.Close) (after h (Computed x)) (λ n m. aimed h (Computed x) n m))
    by b a k = Stops (λ n m. ap (λ (c : Bool). Err (blamed c n (spaced b a k ∷ m))) (sym (or_none w)))

-- A STEP

abbrev is_open : TokenKind → Bool
is_open token.Open = true
is_open _ = false

abbrev is_inside : TokenKind → Bool
is_inside (token.Part (Label l)) = true
is_inside (token.Mark Dollar) = true
is_inside _ = false

abbrev leads : TokenKind → Bool
leads token.Open = true
leads (token.Part (On o)) = true
leads _ = false

-- does a token of this kind go on with some blanks there
abbrev pub may : Shape → TokenKind → Bool
may Start k = begins false k || is_colon k
may (In u f s) k = fits_at (alone f) s k || (is_some (result s) && leaves f k)
may (AfterEquals x p) k = begins false k || is_colon k
may (AfterColon b) k = leads k
may (AfterOutcome b) k = is_open k
may (InTarget b) k = is_inside k
may (AfterDollar b) k = begins false k
may (AfterLabel b l) k = is_close k
may (AfterFirst b o t) k = is_other o k
may (AfterLast b g) k = false

field_step : (u : ℕ) (f : Field) (s : State) (t : Token) → Moves (run (In u f s)) (may (In u f s) t.kind) t
field_step u f s t = at (read (alone f) s t) refl
  where
    w : Bool
    w = fits_at (alone f) s t.kind

    whole : (o : Option Expression) → result s ≡ o → read (alone f) s t ≡ None → Moves (run (In u f s)) (w || (is_some o && leaves f t.kind)) t
    whole None r d = Stops (λ n m. stopped u f s t d n m ∙ (ap (λ (o : Option Expression). made (u + length (t ∷ m)) f (Tells o (t ∷ m) n w)) r
        ∙ (none_used (u + length (t ∷ m)) f n (t ∷ m) w ∙ ap (λ (x : Bool). Err (blamed x n (t ∷ m))) (sym (or_none w)))))
    whole (Some x) r d = moved (λ n ts. left (u + length ts) f w x n ts) (run (In u f s)) (w || leaves f t.kind) (w || leaves f t.kind) t
        (λ n m. onto_left u f s t x d r n m) refl (left_moves u f w x t)

    at : (o : Option State) → read (alone f) s t ≡ o → Moves (run (In u f s)) (w || (is_some (result s) && leaves f t.kind)) t
    at (Some v) d = Goes (ap (λ (x : Bool). x || (is_some (result s) && leaves f t.kind)) (taken_fits (alone f) s t.blank_before t.blank_after t.kind v d)) (within u f s v t d)
    at None d = whole (result s) refl d

all : (n : ℕ) → n ≡ 0 + n
all n = omega arith

begun_step : (t : Token) → Moves (run Start) (begins false t.kind || is_colon t.kind) t
begun_step t = at (is_colon t.kind) refl
  where
    at : (c : Bool) → is_colon t.kind ≡ c → Moves (run Start) (begins false t.kind || is_colon t.kind) t
    at true e = moved (ending false NoBody) (run Start) (false || is_colon t.kind) (begins false t.kind || is_colon t.kind) t (λ n m. rw e)
        (rw (e, or_true (begins false t.kind))) (ending_moves false NoBody t)
    at false e = moved (run (In 0 Subject start)) (run Start) (begins false t.kind) (begins false t.kind || is_colon t.kind) t
        (λ n m. rw e (ap (λ (z : ℕ). acting z (with_lack n (telling true (t ∷ m)))) (all (length (t ∷ m))))) (rw (e, or_none (begins false t.kind))) (entering 0 Subject t)

object_step : (y : Expression) (p : Option Expression) (t : Token) → Moves (run (AfterEquals y p)) (begins false t.kind || is_colon t.kind) t
object_step y p t = at (t.blank_before && not (is_colon t.kind)) refl
  where
    no_colon : (a c : Bool) → (a && not c) ≡ true → c ≡ false
    no_colon a c e = grind (arith, e)

    at : (c : Bool) → (t.blank_before && not (is_colon t.kind)) ≡ c → Moves (run (AfterEquals y p)) (begins false t.kind || is_colon t.kind) t
    at true e = moved (run (In 0 (Object y p) start)) (run (AfterEquals y p)) (begins false t.kind) (begins false t.kind || is_colon t.kind) t (λ n m. rw e)
        (rw (no_colon t.blank_before (is_colon t.kind) e, or_none (begins false t.kind))) (entering 0 (Object y p) t)
    at false e = moved (ending (begins false t.kind) (Does y p NullObject)) (run (AfterEquals y p)) (begins false t.kind || is_colon t.kind)
        (begins false t.kind || is_colon t.kind) t (λ n m. rw e) refl (ending_moves (begins false t.kind) (Does y p NullObject) t)

step_by : (c : Shape) (b a : Bool) (k : TokenKind) → Moves (run c) (may c k) (spaced b a k)
step_by (AfterColon y) b a token.Open = Goes refl (onto (run (AfterColon y)) (spaced b a token.Open) (InTarget (Last y Always)) (λ n m. last_then y Always (inside n m)))
step_by (AfterColon y) b a (token.Part (On o)) = Goes refl (onto (run (AfterColon y)) (spaced b a (token.Part (On o))) (AfterOutcome (First y o)) (λ n m. chosen_then y o (target_in n m)))
step_by (AfterColon y) b a _ = Stops (λ n m. refl)
step_by (AfterOutcome h) b a token.Open = Goes refl (onto (run (AfterOutcome h)) (spaced b a token.Open) (InTarget h) (λ n m. refl))
step_by (AfterOutcome h) b a _ = Stops (λ n m. refl)
step_by (InTarget h) b a (token.Part (Label l)) = Goes refl (onto (run (InTarget h)) (spaced b a (token.Part (Label l))) (AfterLabel h l) (λ n m. refl))
step_by (InTarget h) b false (token.Mark Dollar) = Goes refl (onto (run (InTarget h)) (spaced b false (token.Mark Dollar)) (AfterDollar h) (λ n m. refl))
step_by (InTarget h) b true (token.Mark Dollar) = Stops (λ n m. refl)
step_by (InTarget h) b a _ = Stops (λ n m. refl)
step_by (AfterLabel h l) b a token.Close = Goes refl (onto (run (AfterLabel h l)) (spaced b a token.Close) (after h (To l)) (λ n m. aimed h (To l) n m))
step_by (AfterLabel h l) b a _ = Stops (λ n m. refl)
step_by (AfterFirst y o x) b a k = at (is_other o k) refl
  where
    at : (c : Bool) → is_other o k ≡ c → Moves (run (AfterFirst y o x)) (is_other o k) (spaced b a k)
    at true e = Goes e (onto (run (AfterFirst y o x)) (spaced b a k) (AfterOutcome (Last y (pair o x))) (λ n m. rw e (last_then y (pair o x) (target_in n m))))
    at false e = Stops (λ n m. rw e)
step_by (AfterLast y g) b a k = Stops (λ n m. refl)
step_by (AfterDollar h) true a k = Stops (λ n m. refl)
step_by (AfterDollar h) false a k =
    moved (run (In 0 (Element h) start)) (run (AfterDollar h)) (begins false k) (begins false k) (spaced false a k) (λ n m. refl) refl (entering 0 (Element h) (spaced false a k))
step_by Start b a k = begun_step (spaced b a k)
step_by (AfterEquals y p) b a k = object_step y p (spaced b a k)
step_by (In u f s) b a k = field_step u f s (spaced b a k)

pub step : (c : Shape) (t : Token) → Moves (run c) (may c t.kind) t
step c t = step_by c t.blank_before t.blank_after t.kind

-- WITH SOME BLANKS

abbrev pub Some_goes : (ℕ → List Token → Result Stated Refusal) → TokenKind → Type 0
Some_goes g k = (b : Bool) × (a : Bool) × Onto g (spaced b a k)

some_ending : (w : Bool) (b : Body) (k : TokenKind) → is_colon k ≡ true → Onto (ending w b) (spaced true false k)
some_ending w b k e = onto (ending w b) (spaced true false k) (AfterColon b) (λ n m. rw e)

some_parted : (u : ℕ) (w : Bool) (y : Expression) (p : Option Expression) (k : TokenKind) → (is_equals k || is_colon k) ≡ true
    → Some_goes (λ n ts. parted (u + length ts) w y p n ts) k
some_parted u w y p k e = at (is_equals k) refl e
  where
    at : (c : Bool) → is_equals k ≡ c → (c || is_colon k) ≡ true → Some_goes (λ n ts. parted (u + length ts) w y p n ts) k
    at true d i = (true, true, (AfterEquals y p, unset u y (is_some p), λ n m. rw d (ap (λ (j : ℕ). object_in y p j m) (set_count u y (is_some p) (length m) n))))
    at false d i = let g = some_ending w (Does y p NoObject) k i in (true, false, (g.0, g.1, λ n m. rw d (g.2 n m)))

begins_none : (a : Bool) (k : TokenKind) → begins false k ≡ false → begins a k ≡ false
begins_none true (token.Mark m) e = refl
begins_none false (token.Mark m) e = e
begins_none a _ e = e

and_none : (b : Bool) → (b && false) ≡ false
and_none b = grind arith

some_left : (u : ℕ) (f : Field) (w : Bool) (x : Expression) (k : TokenKind) → leaves f k ≡ true → Some_goes (λ n ts. left (u + length ts) f w x n ts) k
some_left u Subject w x k e = at (begins false k) refl e
  where
    starting : (n : ℕ) (ts : List Token) {c : Bool} → c ≡ true → (if c then matching (u + length ts) x (with_lack n (telling false ts)) else parted (u + length ts) (w || begins false k) x None n ts)
        ≡ matching (u + length ts) x (with_lack n (telling false ts))
    starting n ts e = ap (λ (c : Bool). if c then matching (u + length ts) x (with_lack n (telling false ts)) else parted (u + length ts) (w || begins false k) x None n ts) e

    at : (c : Bool) → begins false k ≡ c → (c || (is_equals k || is_colon k)) ≡ true → Some_goes (λ n ts. subject_then (u + length ts) w x n ts) k
    at true d i = let g = entered u (Pattern x) (spaced true false k) d in (true, false, (g.0, g.1, λ n m. starting n (spaced true false k ∷ m) d ∙ g.2 n m))
    at false d i = let g = some_parted u (w || begins false k) x None k i in
        (g.0, g.1, (g.2.0, g.2.1, λ n m. rw (begins_none g.1 k d, and_none g.0) (g.2.2 n m)))
some_left u (Pattern y) w x k e = some_parted u w y (Some x) k e
some_left u (Object y p) w x k e = (true, false, some_ending w (Does y p (ValueObject x)) k e)
some_left u (Element h) w x token.Close e = (false, false, onto (λ n ts. left (u + length ts) (Element h) w x n ts) (spaced false false token.Close) (after h (Computed x)) (λ n m. aimed h (Computed x) n m))
some_left u (Element h) w x _ e = cc

field_some : (u : ℕ) (f : Field) (s : State) (k : TokenKind) → may (In u f s) k ≡ true → Some_goes (run (In u f s)) k
field_some u f s k e = at (fits_at (alone f) s k) refl e
  where
    onward : (x : Expression) (b a : Bool) (o : Option State) → read (alone f) s (spaced b a k) ≡ o → result s ≡ Some x
        → Onto (λ n ts. left (u + length ts) f (fits_at (alone f) s k) x n ts) (spaced b a k) → Onto (run (In u f s)) (spaced b a k)
    onward x b a (Some v) d r g = within u f s v (spaced b a k) d
    onward x b a None d r g = (g.0, g.1, λ n m. onto_left u f s (spaced b a k) x d r n m ∙ g.2 n m)

    by : (o : Option Expression) → result s ≡ o → (is_some o && leaves f k) ≡ true → Some_goes (run (In u f s)) k
    by None r l = cc
    by (Some x) r l =
        let g = some_left u f (fits_at (alone f) s k) x k l in (g.0, g.1, onward x g.0 g.1 (read (alone f) s (spaced g.0 g.1 k)) refl r g.2)

    at : (c : Bool) → fits_at (alone f) s k ≡ c → (c || (is_some (result s) && leaves f k)) ≡ true → Some_goes (run (In u f s)) k
    at true d i = let v = fits_taken (alone f) s k d in (v.0, v.1, within u f s v.2 (spaced v.0 v.1 k) v.3)
    at false d i = by (result s) refl i

pub some_goes : (c : Shape) (k : TokenKind) → may c k ≡ true → Some_goes (run c) k
some_goes Start k e = at (is_colon k) refl e
  where
    at : (c : Bool) → is_colon k ≡ c → (begins false k || c) ≡ true → Some_goes (run Start) k
    at true d i = (true, false, onto (run Start) (spaced true false k) (AfterColon NoBody) (λ n m. rw d))
    at false d i =
        let g = entered 0 Subject (spaced true false k) (sym (or_none (begins false k)) ∙ i) in
        (true, false, (g.0, g.1, λ n m. rw d (ap (λ (z : ℕ). acting z (with_lack n (telling true (spaced true false k ∷ m)))) (all (suc (length m))) ∙ g.2 n m)))
some_goes (In u f s) k e = field_some u f s k e
some_goes (AfterEquals y p) k e = at (is_colon k) refl e
  where
    at : (c : Bool) → is_colon k ≡ c → (begins false k || c) ≡ true → Some_goes (run (AfterEquals y p)) k
    at true d i = (true, false, onto (run (AfterEquals y p)) (spaced true false k) (AfterColon (Does y p NullObject)) (λ n m. rw d))
    at false d i =
        let g = entered 0 (Object y p) (spaced true false k) (sym (or_none (begins false k)) ∙ i) in (true, false, (g.0, g.1, λ n m. rw d (g.2 n m)))
some_goes (AfterColon b) token.Open e = (false, false, onto (run (AfterColon b)) (spaced false false token.Open) (InTarget (Last b Always)) (λ n m. last_then b Always (inside n m)))
some_goes (AfterColon b) (token.Part (On o)) e = (false, false, onto (run (AfterColon b)) (spaced false false (token.Part (On o))) (AfterOutcome (First b o)) (λ n m. chosen_then b o (target_in n m)))
some_goes (AfterColon b) _ e = cc
some_goes (AfterOutcome h) token.Open e = (false, false, onto (run (AfterOutcome h)) (spaced false false token.Open) (InTarget h) (λ n m. refl))
some_goes (AfterOutcome h) _ e = cc
some_goes (InTarget h) (token.Part (Label l)) e = (false, false, onto (run (InTarget h)) (spaced false false (token.Part (Label l))) (AfterLabel h l) (λ n m. refl))
some_goes (InTarget h) (token.Mark Dollar) e = (false, false, onto (run (InTarget h)) (spaced false false (token.Mark Dollar)) (AfterDollar h) (λ n m. refl))
some_goes (InTarget h) _ e = cc
some_goes (AfterDollar h) k e = (false, false, entered 0 (Element h) (spaced false false k) e)
some_goes (AfterLabel h l) token.Close e = (false, false, onto (run (AfterLabel h l)) (spaced false false token.Close) (after h (To l)) (λ n m. aimed h (To l) n m))
some_goes (AfterLabel h l) _ e = cc
some_goes (AfterFirst b o x) k e = (false, false, onto (run (AfterFirst b o x)) (spaced false false k) (AfterOutcome (Last b (pair o x))) (λ n m. rw e (last_then b (pair o x) (target_in n m))))
some_goes (AfterLast b g) k e = cc

-- THE END

pub data Ending (g : ℕ → List Token → Result Stated Refusal) : Type 0 where
  Ends : ((n : ℕ) → (s : Statement) × (g n [] ≡ Ok (States s n))) → Ending g
  Unended : ((n : ℕ) → g n [] ≡ Err (blamed false n [])) → Ending g

ends_as : (g h : ℕ → List Token → Result Stated Refusal) → ((n : ℕ) → h n [] ≡ g n []) → Ending g → Ending h
ends_as g h e (Ends x) = Ends (λ n. let y = x n in (y.0, e n ∙ y.1))
ends_as g h e (Unended x) = Unended (λ n. e n ∙ x n)

left_ending : (z : ℕ) (f : Field) (x : Expression) → Ending (left z f false x)
left_ending z Subject x = Ends (λ n. (Says (Does x None NoObject) NoGoto, refl))
left_ending z (Pattern y) x = Ends (λ n. (Says (Does y (Some x) NoObject) NoGoto, refl))
left_ending z (Object y p) x = Ends (λ n. (Says (Does y p (ValueObject x)) NoGoto, refl))
left_ending z (Element k) x = Unended (λ n. refl)

field_ending : (z : ℕ) (f : Field) (s : State) → Ending (λ n ts. made z f (with_lack n (told (alone f) s ts)))
field_ending z f s = at (result s) refl
  where
    end : (o : Option Expression) → result s ≡ o → (n : ℕ) → made z f (with_lack n (told (alone f) s [])) ≡ made z f (Tells o [] n false)
    end o r n = ap₂ (λ (q : Option Expression) (k : ℕ). made z f (Tells q [] k false)) r (most_none n)

    at : (o : Option Expression) → result s ≡ o → Ending (λ n ts. made z f (with_lack n (told (alone f) s ts)))
    at None r = Unended (λ n. end None r n ∙ none_used z f n [] false)
    at (Some x) r = ends_as (left z f false x) _ (λ n. end (Some x) r n ∙ some_used z f n x [] false) (left_ending z f x)

pub ending_of : (c : Shape) → Ending (run c)
ending_of Start = Ends (λ n. (Says NoBody NoGoto, refl))
ending_of (In u f s) = ends_as (λ n ts. made (u + 0) f (with_lack n (told (alone f) s ts))) (run (In u f s)) (λ n. refl) (field_ending (u + 0) f s)
ending_of (AfterEquals y p) = Ends (λ n. (Says (Does y p NullObject) NoGoto, refl))
ending_of (AfterFirst b o x) = Ends (λ n. (Says b (on_one o x), refl))
ending_of (AfterLast b g) = Ends (λ n. (Says b g, refl))
ending_of _ = Unended (λ n. refl)

-- each shape can be read on to a statement that lacks nothing more
target_ends : (h : Behind) (t : Target) (n : ℕ) → (s : Statement) × (aim_then h (Ok (Aimed t n [])) ≡ Ok (States s n))
target_ends (Last b g) t n = (Says b (g t), refl)
target_ends (First b o) t n = (Says b (on_one o t), refl)

abbrev a_label : List Token
a_label = spaced false false (token.Part (Label [])) ∷ parenthesis ∷ []

abbrev opening : Token
opening = spaced false false token.Open

abbrev pub Completes : Shape → Type 0
Completes c = (m : List Token) × ((n : ℕ) → (s : Statement) × (run c n m ≡ Ok (States s n)))

-- a target ends with its parenthesis
abbrev closes : Field → Bool
closes (Element h) = true
closes _ = false

left_ends : (z : ℕ) (f : Field) (x : Expression) (w : Bool) (n : ℕ) → (s : Statement) × (left z f w x n (tail (closes f)) ≡ Ok (States s n))
left_ends z Subject x w n = (Says (Does x None NoObject) NoGoto, refl)
left_ends z (Pattern y) x w n = (Says (Does y (Some x) NoObject) NoGoto, refl)
left_ends z (Object y p) x w n = (Says (Does y p (ValueObject x)) NoGoto, refl)
left_ends z (Element h) x w n = target_ends h (Computed x) n

abbrev field_completes : (u : ℕ) (f : Field) (s : State) → Completes (In u f s)
field_completes u f s =
    let x = state_ends s (alone f) (closes f) in
    let m = completion s ++ tail (closes f) in
    let z = u + length m in
    let e = λ (n : ℕ). ap (λ (q : Told). made z f (with_lack n q)) x.2
    ∙ (ap (λ (k : ℕ). made z f (Tells (Some x.0) (tail (closes f)) k x.1)) (most_none n) ∙ some_used z f n x.0 (tail (closes f)) x.1) in
    (m, λ n. let y = left_ends z f x.0 x.1 n in (y.0, e n ∙ y.1))

pub completes : (c : Shape) → Completes c
completes Start = ([], λ n. (Says NoBody NoGoto, refl))
completes (In u f s) = field_completes u f s
completes (AfterEquals y p) = ([], λ n. (Says (Does y p NullObject) NoGoto, refl))
completes (AfterColon b) = (opening ∷ a_label, λ n. (Says b (Always (To [])), refl))
completes (AfterOutcome h) = (opening ∷ a_label, λ n. target_ends h (To []) n)
completes (InTarget h) = (a_label, λ n. target_ends h (To []) n)
completes (AfterDollar h) = let c = field_completes 0 (Element h) start in (c.0, c.1)
completes (AfterLabel h l) = (parenthesis ∷ [], λ n. target_ends h (To l) n)
completes (AfterFirst b o x) = ([], λ n. (Says b (on_one o x), refl))
completes (AfterLast b g) = ([], λ n. (Says b g, refl))

-- the leftmost place that lacks a variable never goes to the right
most_grows : (a b : ℕ) → a ≤ most a b
most_grows a b = grind (arith, nat_tests)

pub grows : (m : List Token) (c : Shape) (n k : ℕ) (s : Statement) → run c n m ≡ Ok (States s k) → n ≤ k
grows [] c n k s e = at (ending_of c)
  where
    at : Ending (run c) → n ≤ k
    at (Ends h) = let x = h n in let d : n ≡ k = cc (x.1, e) in omega (arith, d)
    at (Unended h) = cc (h n, e)
grows (t ∷ m) c n k s e = at (step c t) (λ d i h. grows m d i k s h)
  where
    at : Moves (run c) (may c t.kind) t → ((d : Shape) (i : ℕ) → run d i m ≡ Ok (States s k) → i ≤ k) → n ≤ k
    at (Goes x g) on =
        let h = on g.0 (most n (count g.1 (length m))) (sym (g.2 n m) ∙ e) in
        let l = most_grows n (count g.1 (length m)) in
        omega (arith, h, l)
    at (Stops h) on = cc (h n m, e)
