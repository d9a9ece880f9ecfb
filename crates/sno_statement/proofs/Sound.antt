-- What the tokens are read as spells them.
use Rattle.std.{proofs.Common.{arith, ◌≡◌, ℕ, length, List, [], ◌∷◌, refl, subst, inl, inr}, specs.Prelude.{Bool, true, false, not, Option, Some, None, is_some, Result, Ok, Err, ◌&&◌, ◌||◌, if◌then◌else◌}}
use Rattle.sno_lexer.{specs.declared.token.Mark.TheVariants.{Dollar}, specs.declared.token.Outcome.{Outcome}, specs.declared.token.Outcome.TheVariants.{Success, Failure}, specs.declared.token.Token.{Token}}
use Rattle.sno_lexer.{specs.declared.token.Part.TheVariants.{Equals, Colon, On, Label}, specs.declared.token.TokenKind.{TokenKind}}
use Rattle.sno_lexer.specs.declared.token.TokenKind.TheVariants as token
use Rattle.sno_expression.{specs.Expressions.{Expression, IsOperand}, specs.Spelling.{spaced, SpellsTo}, specs.inner.Telling.{most, begins, Told, Tells, with_lack, telling}, proofs.Sound.{IsRead, sound}}
use Rattle.sno_statement.{specs.declared.parser.Refusal.{Refusal}, specs.Spelling.{TargetTo, OutcomeTo, LeadsTo, GotoTo, BodyTo, Spells}, proofs.Heads.{blank_spells, PatternTo}}
use Rattle.sno_statement.specs.Statements.{Target, To, Computed, Goto, NoGoto, Always, OnSuccess, OnFailure, OnBoth, NoObject, NullObject, ValueObject, Body, NoBody, Does, Statement, Says}
use Rattle.sno_statement.specs.inner.Parsing.{blamed, Aim, Aimed, closing, computed, element, inside, target_in, Stated, States, at_last, last, pair, next, chosen, goto_in, is_colon, ending, giving, object_in, set, parted, matching, subject_then, acting, statement_in}

-- the tokens of a target from its parenthesis on
abbrev AimRight : Result Aim Refusal → List Token → Type 0
AimRight (Err r) ts = Unit {0}
AimRight (Ok (Aimed t n rest)) ts = TargetTo t ts rest

label_right : (n : ℕ) (b a c d : Bool) (l : List ℕ) (ts : List Token) → AimRight (closing false (To l) n ts) (spaced b a token.Open ∷ spaced c d (token.Part (Label l)) ∷ ts)
label_right n b a c d l [] = tt
label_right n b a c d l (t ∷ ts) = by t.blank_before t.blank_after t.kind
  where
    by : (e f : Bool) (k : TokenKind) → AimRight (closing false (To l) n (spaced e f k ∷ ts)) (spaced b a token.Open ∷ spaced c d (token.Part (Label l)) ∷ spaced e f k ∷ ts)
    by e f token.Close = (b, a, c, d, e, f, refl)
    by e f _ = tt

computed_right : (n : ℕ) (w b a c : Bool) (x : Expression) (t : Token) (ts rest : List Token) → t.blank_before ≡ false → IsRead true x (t ∷ ts) rest
    → AimRight (closing w (Computed x) n rest) (spaced b a token.Open ∷ spaced c false (token.Mark Dollar) ∷ t ∷ ts)
computed_right n w b a c x t ts [] e r = tt
computed_right n w b a c x t ts (u ∷ rest) e r = by u.blank_before u.blank_after u.kind r
  where
    by : (f g : Bool) (k : TokenKind) → IsRead true x (t ∷ ts) (spaced f g k ∷ rest)
        → AimRight (closing w (Computed x) n (spaced f g k ∷ rest)) (spaced b a token.Open ∷ spaced c false (token.Mark Dollar) ∷ t ∷ ts)
    by f g token.Close r =
        let i = blank_spells x r.blank false t ts (spaced f g token.Close ∷ rest) r.spells e in
        (spaced c false (token.Mark Dollar) ∷ t ∷ ts, b, a, c, f, g, refl, (t ∷ ts, Dollar, refl, refl, i, r.suits))
    by f g _ r = tt

element_right : (n : ℕ) (b a c : Bool) (ts : List Token) → AimRight (element n ts) (spaced b a token.Open ∷ spaced c false (token.Mark Dollar) ∷ ts)
element_right n b a c [] = tt
element_right n b a c (t ∷ ts) = at t.blank_before refl
  where
    by : (x : Told) → telling true (t ∷ ts) ≡ x → t.blank_before ≡ false → AimRight (computed (with_lack n x)) (spaced b a token.Open ∷ spaced c false (token.Mark Dollar) ∷ t ∷ ts)
    by (Tells None rest m w) d e = tt
    by (Tells (Some x) rest m w) d e = computed_right (most n m) w b a c x t ts rest e (sound true (t ∷ ts) rest x m w d)

    at : (d : Bool) → t.blank_before ≡ d
        → AimRight (if d then Err (blamed (begins false t.kind) n (t ∷ ts)) else computed (with_lack n (telling true (t ∷ ts)))) (spaced b a token.Open ∷ spaced c false (token.Mark Dollar) ∷ t ∷ ts)
    at true e = tt
    at false e = by (telling true (t ∷ ts)) refl e

inside_right : (n : ℕ) (b a : Bool) (ts : List Token) → AimRight (inside n ts) (spaced b a token.Open ∷ ts)
inside_right n b a [] = tt
inside_right n b a (t ∷ ts) = by t.blank_before t.blank_after t.kind
  where
    by : (c d : Bool) (k : TokenKind) → AimRight (inside n (spaced c d k ∷ ts)) (spaced b a token.Open ∷ spaced c d k ∷ ts)
    by c d (token.Part (Label l)) = label_right n b a c d l ts
    by c false (token.Mark Dollar) = element_right n b a c ts
    by c true (token.Mark Dollar) = tt
    by c d _ = tt

target_right : (n : ℕ) (ts : List Token) → AimRight (target_in n ts) ts
target_right n [] = tt
target_right n (t ∷ ts) = by t.blank_before t.blank_after t.kind
  where
    by : (c d : Bool) (k : TokenKind) → AimRight (target_in n (spaced c d k ∷ ts)) (spaced c d k ∷ ts)
    by c d token.Open = inside_right n c d ts
    by c d _ = tt

abbrev Right : Result Stated Refusal → List Token → Type 0
Right (Err r) all = Unit {0}
Right (Ok (States s n)) all = Spells s all

-- a goto that the tokens lead to makes a statement of all
abbrev Leads : Body → List Token → List Token → Type 0
Leads b ts all = (g : Goto) → LeadsTo g ts → Spells (Says b g) all

at_last_right : (b : Body) (g : Goto) (n : ℕ) (rest all : List Token) → (rest ≡ [] → Spells (Says b g) all) → Right (at_last b g n rest) all
at_last_right b g n [] all l = l refl
at_last_right b g n _ all l = tt

last_right : (b : Body) (g : Target → Goto) (x : Result Aim Refusal) (ts all : List Token) → AimRight x ts
    → ((t : Target) → TargetTo t ts [] → Spells (Says b (g t)) all) → Right (last b g x) all
last_right b g (Err r) ts all i on = tt
last_right b g (Ok (Aimed t n rest)) ts all i on = at_last_right b (g t) n rest all (λ e. on t (subst (λ (x : List Token). TargetTo t ts x) e i))

next_right : (b : Body) (o : Outcome) (t : Target) (n : ℕ) (rest ts all : List Token) → OutcomeTo o t ts rest → Leads b ts all → Right (next b o t n rest) all
next_right b Success t n [] ts all q on = on (OnSuccess t) q
next_right b Failure t n [] ts all q on = on (OnFailure t) q
next_right b o t n (u ∷ k) ts all q on = by o u.blank_before u.blank_after u.kind q
  where
    by : (o : Outcome) (c d : Bool) (v : TokenKind) → OutcomeTo o t ts (spaced c d v ∷ k) → Right (next b o t n (spaced c d v ∷ k)) all
    by Success c d (token.Part (On Failure)) q = last_right b (pair Success t) (target_in n k) k all (target_right n k)
        (λ u i. on (OnBoth t u) (inl (spaced c d (token.Part (On Failure)) ∷ k, q, (k, c, d, refl, i))))
    by Failure c d (token.Part (On Success)) q = last_right b (pair Failure t) (target_in n k) k all (target_right n k)
        (λ u i. on (OnBoth u t) (inr (spaced c d (token.Part (On Success)) ∷ k, q, (k, c, d, refl, i))))
    by Success c d _ q = tt
    by Failure c d _ q = tt

chosen_right : (b : Body) (o : Outcome) (c d : Bool) (x : Result Aim Refusal) (ts all : List Token) → AimRight x ts → Leads b (spaced c d (token.Part (On o)) ∷ ts) all
    → Right (chosen b o x) all
chosen_right b o c d (Err r) ts all i on = tt
chosen_right b o c d (Ok (Aimed t n rest)) ts all i on = next_right b o t n rest (spaced c d (token.Part (On o)) ∷ ts) all (ts, c, d, refl, i) on

goto_right : (b : Body) (n : ℕ) (ts all : List Token) → Leads b ts all → Right (goto_in b n ts) all
goto_right b n [] all on = tt
goto_right b n (t ∷ ts) all on = by t.blank_before t.blank_after t.kind on
  where
    by : (c d : Bool) (k : TokenKind) → Leads b (spaced c d k ∷ ts) all → Right (goto_in b n (spaced c d k ∷ ts)) all
    by c d token.Open on = last_right b Always (inside n ts) (spaced c d token.Open ∷ ts) all (inside_right n c d ts) (λ t i. on (Always t) i)
    by c d (token.Part (On o)) on = chosen_right b o c d (target_in n ts) ts all (target_right n ts) on
    by c d _ on = tt

with_colon : (g : Goto) (c : Bool) (ts : List Token) → LeadsTo g ts → GotoTo g (spaced true c (token.Part Colon) ∷ ts)
with_colon NoGoto c ts l = absurd l
with_colon (Always t) c ts l = (ts, c, refl, l)
with_colon (OnSuccess t) c ts l = (ts, c, refl, l)
with_colon (OnFailure t) c ts l = (ts, c, refl, l)
with_colon (OnBoth s f) c ts l = (ts, c, refl, l)

ending_right : (w : Bool) (b : Body) (n : ℕ) (ts all : List Token) → BodyTo b all ts → Right (ending w b n ts) all
ending_right w b n [] all q = ([], q, refl)
ending_right w b n (t ∷ ts) all q = by t.blank_before t.blank_after t.kind q
  where
    by : (c d : Bool) (k : TokenKind) → BodyTo b all (spaced c d k ∷ ts) → Right (ending w b n (spaced c d k ∷ ts)) all
    by true d (token.Part Colon) q = goto_right b n ts all (λ g l. (spaced true d (token.Part Colon) ∷ ts, q, with_colon g d ts l))
    by false d (token.Part Colon) q = tt
    by c d (token.Part _) q = tt
    by c d _ q = tt

-- the tokens behind the subject, and the pattern where there is one
abbrev Subjected : Expression → Option Expression → List Token → List Token → Type 0
Subjected s p all n = (m : List Token) × (b : Bool) × IsOperand s × SpellsTo b s all m × PatternTo p m n

-- and those behind `=`
abbrev Assigned : Expression → Option Expression → List Token → List Token → Type 0
Assigned s p all n = Subjected s p all (spaced true true (token.Part Equals) ∷ n)

first : (a c : Bool) → (a && c) ≡ true → a ≡ true
first a c e = grind (arith, e)

giving_right : (s : Expression) (p : Option Expression) (n : ℕ) (x : Told) (t : Token) (k all : List Token) → Assigned s p all (t ∷ k) → t.blank_before ≡ true
    → telling false (t ∷ k) ≡ x → Right (giving s p (with_lack n x)) all
giving_right s p n (Tells None rest m w) t k all a r e = tt
giving_right s p n (Tells (Some o) rest m w) t k all a r e =
    let i = sound false (t ∷ k) rest o m w e in
    ending_right w (Does s p (ValueObject o)) (most n m) rest all
    (a.0, spaced true true (token.Part Equals) ∷ t ∷ k, a.1, a.3, a.4, (t ∷ k, refl, blank_spells o i.blank true t k rest i.spells r), a.2)

object_right : (s : Expression) (p : Option Expression) (n : ℕ) (ts all : List Token) → Assigned s p all ts → Right (object_in s p n ts) all
object_right s p n [] all a = ([], (a.0, spaced true true (token.Part Equals) ∷ [], a.1, a.3, a.4, refl, a.2), refl)
object_right s p n (t ∷ k) all a = at (t.blank_before && not (is_colon t.kind)) refl
  where
    at : (c : Bool) → (t.blank_before && not (is_colon t.kind)) ≡ c
        → Right (if c then giving s p (with_lack n (telling false (t ∷ k))) else ending (begins false t.kind) (Does s p NullObject) n (t ∷ k)) all
    at true e = giving_right s p n (telling false (t ∷ k)) t k all a (first t.blank_before (not (is_colon t.kind)) e) refl
    at false e = ending_right (begins false t.kind) (Does s p NullObject) n (t ∷ k) all (a.0, spaced true true (token.Part Equals) ∷ t ∷ k, a.1, a.3, a.4, refl, a.2)

bare : (s : Expression) (p : Option Expression) (all n : List Token) → Subjected s p all n → BodyTo (Does s p NoObject) all n
bare s p all n a = (a.0, n, a.1, a.3, a.4, refl, a.2)

parted_right : (z : ℕ) (w : Bool) (s : Expression) (p : Option Expression) (n : ℕ) (ts all : List Token) → Subjected s p all ts → Right (parted z w s p n ts) all
parted_right z w s p n [] all a = ([], bare s p all [] a, refl)
parted_right z w s p n (t ∷ k) all a = by t.blank_before t.blank_after t.kind a
  where
    by : (c d : Bool) (v : TokenKind) → Subjected s p all (spaced c d v ∷ k) → Right (parted z w s p n (spaced c d v ∷ k)) all
    by true true (token.Part Equals) a = object_right s p (set z s (is_some p) n) k all a
    by true false (token.Part Equals) a = tt
    by false d (token.Part Equals) a = tt
    by c d (token.Part v) a = ending_right w (Does s p NoObject) n (spaced c d (token.Part v) ∷ k) all (bare s p all (spaced c d (token.Part v) ∷ k) a)
    by c d v a = ending_right w (Does s p NoObject) n (spaced c d v ∷ k) all (bare s p all (spaced c d v ∷ k) a)

subject_right : (z : ℕ) (w : Bool) (s : Expression) (n : ℕ) (ts all : List Token) → Subjected s None all ts → Right (subject_then z w s n ts) all
subject_right z w s n [] all a = ([], bare s None all [] a, refl)
subject_right z w s n (t ∷ k) all a = at (t.blank_before && begins t.blank_after t.kind) refl
  where
    matched : (x : Told) → telling false (t ∷ k) ≡ x → t.blank_before ≡ true → Right (matching z s (with_lack n x)) all
    matched (Tells None rest m v) e r = tt
    matched (Tells (Some p) rest m v) e r =
        let i = sound false (t ∷ k) rest p m v e in
        parted_right z v s (Some p) (most n m) rest all (t ∷ k, a.1, a.2, subst (λ (x : List Token). SpellsTo a.1 s all x) a.4 a.3, blank_spells p i.blank true t k rest i.spells r)

    at : (c : Bool) → (t.blank_before && begins t.blank_after t.kind) ≡ c
        → Right (if c then matching z s (with_lack n (telling false (t ∷ k))) else parted z (w || begins false t.kind) s None n (t ∷ k)) all
    at true e = matched (telling false (t ∷ k)) refl (first t.blank_before (begins t.blank_after t.kind) e)
    at false e = parted_right z (w || begins false t.kind) s None n (t ∷ k) all a

right : (ts : List Token) → Right (statement_in ts) ts
right [] = ([], refl, refl)
right (t ∷ ts) = at (is_colon t.kind)
  where
    z : ℕ
    z = length (t ∷ ts)

    acted : (x : Told) → telling true (t ∷ ts) ≡ x → Right (acting z (with_lack 0 x)) (t ∷ ts)
    acted (Tells None rest n w) e = tt
    acted (Tells (Some s) rest n w) e =
        let i = sound true (t ∷ ts) rest s n w e in subject_right z w s (most 0 n) rest (t ∷ ts) (rest, i.blank, i.suits, i.spells, refl)

    at : (c : Bool) → Right (if c then ending false NoBody 0 (t ∷ ts) else acting z (with_lack 0 (telling true (t ∷ ts)))) (t ∷ ts)
    at true = ending_right false NoBody 0 (t ∷ ts) (t ∷ ts) refl
    at false = acted (telling true (t ∷ ts)) refl

-- what is read spells the tokens
pub statement_sound : (ts : List Token) (s : Statement) (n : ℕ) → statement_in ts ≡ Ok (States s n) → Spells s ts
statement_sound ts s n e = subst (λ (a : Result Stated Refusal). Right a ts) e (right ts)
