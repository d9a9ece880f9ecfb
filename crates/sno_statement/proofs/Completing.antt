-- A statement that the tokens spell is the one that they are read as, with the leftmost of the places where it lacks a variable.
use Rattle.std.proofs.Common.{arith, ◌≡◌, ℕ, suc, ◌+◌, length, List, [], ◌∷◌, ◌++◌, refl, sym, ap, ◌∙◌, subst, inl, inr}
use Rattle.std.{specs.Prelude.{Bool, true, false, not, Option, Some, None, is_some, Result, Ok, if◌then◌else◌}, proofs.lemmas.List.{length-append, append_assoc}, proofs.lemmas.Bool.Decides.{nat_tests}}
use Rattle.sno_lexer.{specs.declared.token.Outcome.{Outcome}, specs.declared.token.Outcome.TheVariants.{Success, Failure}, specs.declared.token.Token.{Token}}
use Rattle.sno_lexer.specs.declared.token.Part.TheVariants.{Equals, Colon}
use Rattle.sno_lexer.specs.declared.token.TokenKind.TheVariants as token
use Rattle.sno_expression.{specs.declared.tree.BinaryOperator.{BinaryOperator}, specs.declared.tree.BinaryOperator.TheVariants.{Concatenation}, specs.declared.tree.UnaryOperator.TheVariants.{Indirect}}
use Rattle.sno_expression.{specs.Spelling.{spaced, Joins, Parts, SpellsTo, SpellTo}, specs.Lacking.{lacking, lacking_among}, specs.Marks.{operand_is_variable}, specs.inner.Reading.{Stops}}
use Rattle.sno_expression.{specs.inner.Telling.{most, with_lack, telling}, proofs.Feeding.{headed, complete, counted}, proofs.Lacks.{lacks, lacks_append, lacks_closed, raised}}
use Rattle.sno_expression.proofs.Loop.{most_most, most_none, none_most}
use Rattle.sno_expression.specs.Expressions.{Expression, Arguments, Identifier, Constant, Keyword, Unevaluated, Group, Call, TableItem, Unary, Binary, NoArguments, Omitted, Argument, IsOperand, is_variable}
use Rattle.sno_expression.specs.declared.tree.UnaryOperator.TheVariants as unary
use Rattle.sno_statement.{specs.declared.parser.Refusal.{Refusal}, specs.Spelling.{TargetTo, OutcomeTo, LeadsTo, GotoTo, ObjectTo, Spells}}
use Rattle.sno_statement.specs.Lacking.{lacking_object, lacking_body, lacking_target, lacking_goto, named_first, lacking_in}
use Rattle.sno_statement.proofs.Heads.{stops_blank, dollar, no_colon, PatternTo, ColonTo, is_wrong, lacking_pattern}
use Rattle.sno_statement.specs.Statements.{Target, To, Computed, Goto, NoGoto, Always, OnSuccess, OnFailure, OnBoth, Object, NoObject, NullObject, ValueObject, Body, NoBody, Does, Statement, Says, may_be_set}
use Rattle.sno_statement.specs.inner.Parsing.{Aim, Aimed, computed, element, target_in, Stated, States, stated, last, pair, next, goto_in, ending, giving, object_in, set, parted, matching, subject_then, acting, statement_in}

-- COUNTS

-- two lists of marks, one behind the other
chained : (cs bs : List Bool) (i l n : ℕ) → l ≡ length bs + n → most (most i (lacks cs l)) (lacks bs n) ≡ most i (lacks (cs ++ bs) n)
chained cs bs i l n e = rw (most_most i (lacks cs l) (lacks bs n), e, lacks_append cs bs n)

target_counted : (t : Target) (ts rest : List Token) → TargetTo t ts rest → length ts ≡ length (lacking_target t) + length rest
target_counted (To l) ts rest s = let e = ap length s.6 in omega (arith, e)
target_counted (Computed t) ts rest s =
    let c = counted (Unary Indirect t) false s.3 s.0 (spaced s.4 s.5 token.Close ∷ rest) s.7 in
    omega (arith, ap length s.6, c, length-append (lacking false (Unary Indirect t)) (false ∷ []))

outcome_counted : (o : Outcome) (t : Target) (ts rest : List Token) → OutcomeTo o t ts rest → length ts ≡ suc (length (lacking_target t)) + length rest
outcome_counted o t ts rest s = let e = ap length s.3 in let c = target_counted t s.0 rest s.4 in omega (arith, e, c)

both_counted : (o p : Outcome) (t u : Target) (ts m : List Token) → OutcomeTo o t ts m → OutcomeTo p u m [] → suc (length ts) ≡ length (false ∷ false ∷ (lacking_target t ++ false ∷ lacking_target u))
both_counted o p t u ts m x y =
    let c = outcome_counted o t ts m x in
    let d = outcome_counted p u m [] y in
    omega (arith, c, d, length-append (lacking_target t) (false ∷ lacking_target u))

leads_counted : (g : Goto) (ts : List Token) → LeadsTo g ts → suc (length ts) ≡ length (lacking_goto (named_first ts) g)
leads_counted NoGoto ts s = absurd s
leads_counted (Always t) ts s = let c = target_counted t ts [] s in omega (arith, c)
leads_counted (OnSuccess t) ts s = let c = outcome_counted Success t ts [] s in omega (arith, c)
leads_counted (OnFailure t) ts s = let c = outcome_counted Failure t ts [] s in omega (arith, c)
leads_counted (OnBoth s f) ts (inl p) =
    both_counted Success Failure s f ts p.0 p.1 p.2 ∙ ap (λ (o : Outcome). length (lacking_goto o (OnBoth s f))) (sym (ap named_first p.1.3))
leads_counted (OnBoth s f) ts (inr p) =
    both_counted Failure Success f s ts p.0 p.1 p.2 ∙ ap (λ (o : Outcome). length (lacking_goto o (OnBoth s f))) (sym (ap named_first p.1.3))

-- no goto, or one behind its colon
data Ended (g : Goto) (ts : List Token) : Type 0 where
  Nowhere : g ≡ NoGoto → ts ≡ [] → Ended g ts
  Leading : ColonTo g ts → Ended g ts

ended : (g : Goto) (ts : List Token) → GotoTo g ts → Ended g ts
ended NoGoto ts s = Nowhere refl s
ended (Always t) ts s = Leading s
ended (OnSuccess t) ts s = Leading s
ended (OnFailure t) ts s = Leading s
ended (OnBoth t u) ts s = Leading s

goto_counted : (g : Goto) (ts : List Token) → GotoTo g ts → length ts ≡ length (lacking_goto (named_first ts) g)
goto_counted g ts s = at (ended g ts s)
  where
    at : Ended g ts → length ts ≡ length (lacking_goto (named_first ts) g)
    at (Nowhere e d) = rw (e, d)
    at (Leading p) = rw p.2 (leads_counted g p.0 p.3)

object_counted : (o : Object) (ts m : List Token) → ObjectTo o ts m → length ts ≡ length (lacking_object o) + length m
object_counted NoObject ts m s = let e = ap length s in omega (arith, e)
object_counted NullObject ts m s = let e = ap length s in omega (arith, e)
object_counted (ValueObject t) ts m s = let e = ap length s.1 in let c = counted t false true s.0 m s.2 in omega (arith, e, c)

pattern_counted : (p : Option Expression) (ts m : List Token) → PatternTo p ts m → length ts ≡ length (lacking_pattern p) + length m
pattern_counted None ts m s = let e = ap length s in omega (arith, e)
pattern_counted (Some t) ts m s = counted t false true ts m s

-- GOTOS

abbrev aimed : Target → ℕ → List Token → Result Aim Refusal
aimed t n rest = Ok (Aimed t (most n (lacks (lacking_target t) (length rest))) rest)

element_read : (t : Expression) (n : ℕ) (ts rest : List Token) → SpellsTo false t ts rest → element n ts ≡ computed (with_lack n (telling true ts))
element_read t n ts rest s = let h = headed t false ts rest s in rw (h.is, h.blank)

target_read : (t : Target) (n : ℕ) (ts rest : List Token) → TargetTo t ts rest → target_in n ts ≡ aimed t n rest
target_read (To l) n ts rest s = rw (s.6, most_none n)
target_read (Computed t) n ts rest s =
    let p = s.7 in
    let k = spaced s.4 s.5 token.Close ∷ rest in
    let x = complete true t false p.0 k p.5 p.4 refl in
    rw (s.6, p.3, dollar p.1 p.2, element_read t n p.0 k p.4, x.1)
    (ap (λ (l : ℕ). Ok (Aimed (Computed t) (most n l) rest)) (lacks_closed (lacking false t) (length rest)))

-- a target alone is read as one
alone_read : (b : Body) (t : Target) (n : ℕ) (ts rest : List Token) → TargetTo t ts rest → goto_in b n ts ≡ last b Always (target_in n ts)
alone_read b (To l) n ts rest s = rw s.6
alone_read b (Computed t) n ts rest s = rw s.6

abbrev said : Body → Goto → ℕ → List Bool → Result Stated Refusal
said b g n bs = Ok (States (Says b g) (most n (lacks bs 0)))

outcome_read : (b : Body) (o : Outcome) (t : Target) (n : ℕ) (ts rest : List Token) → OutcomeTo o t ts rest
    → goto_in b n ts ≡ next b o t (most n (lacks (lacking_target t) (length rest))) rest
outcome_read b o t n ts rest s = rw (s.3, target_read t n s.0 rest s.4)

abbrev other : Outcome → Outcome
other Success = Failure
other Failure = Success

second_read : (b : Body) (o : Outcome) (t u : Target) (n : ℕ) (ts : List Token) → OutcomeTo (other o) u ts [] → next b o t n ts ≡ said b (pair o t u) n (false ∷ lacking_target u)
second_read b Success t u n ts p = rw (p.3, target_read u n p.0 [] p.4)
second_read b Failure t u n ts p = rw (p.3, target_read u n p.0 [] p.4)

-- the count behind the second target
second_count : (o : Outcome) (t u : Target) (n : ℕ) (m : List Token) → OutcomeTo o u m [] → most (most n (lacks (lacking_target t) (length m))) (lacks (false ∷ lacking_target u) 0)
    ≡ most n (lacks (false ∷ false ∷ (lacking_target t ++ false ∷ lacking_target u)) 0)
second_count o t u n m x = let c = outcome_counted o u m [] x in chained (lacking_target t) (false ∷ lacking_target u) n (length m) 0 (omega (arith, c))

both_read : (b : Body) (o : Outcome) (t u : Target) (n : ℕ) (ts : List Token) → (m : List Token) × OutcomeTo o t ts m × OutcomeTo (other o) u m []
    → goto_in b n ts ≡ said b (pair o t u) n (lacking_goto (named_first ts) (pair o t u))
both_read b o t u n ts p = outcome_read b o t n ts p.0 p.1
    ∙ (second_read b o t u (most n (lacks (lacking_target t) (length p.0))) p.0 p.2
    ∙ (ap (λ (l : ℕ). Ok (States (Says b (pair o t u)) l)) (second_count (other o) t u n p.0 p.2 ∙ at o)
    ∙ ap (λ (x : Outcome). said b (pair o t u) n (lacking_goto x (pair o t u))) (sym (ap named_first p.1.3))))
  where
    at : (o : Outcome) → most n (lacks (false ∷ false ∷ (lacking_target t ++ false ∷ lacking_target u)) 0) ≡ most n (lacks (lacking_goto o (pair o t u)) 0)
    at Success = refl
    at Failure = refl

goto_read : (b : Body) (g : Goto) (n : ℕ) (ts : List Token) → LeadsTo g ts → goto_in b n ts ≡ said b g n (lacking_goto (named_first ts) g)
goto_read b NoGoto n ts s = absurd s
goto_read b (Always t) n ts s = rw (alone_read b t n ts [] s, target_read t n ts [] s)
goto_read b (OnSuccess t) n ts s = outcome_read b Success t n ts [] s
goto_read b (OnFailure t) n ts s = outcome_read b Failure t n ts [] s
goto_read b (OnBoth s f) n ts (inl p) = both_read b Success s f n ts p
goto_read b (OnBoth s f) n ts (inr p) = both_read b Failure f s n ts p

-- how a reading goes on that has a body so far
record GoesOn (on : List Token → Result Stated Refusal) (b : Body) : Type 0 where
  place : ℕ
  ends : on [] ≡ Ok (States (Says b NoGoto) place)
  goes : (c : Bool) (ts : List Token) → on (spaced true c (token.Part Colon) ∷ ts) ≡ goto_in b place ts

last_read : (on : List Token → Result Stated Refusal) (b : Body) (g : Goto) (ts : List Token) (h : GoesOn on b) → GotoTo g ts → on ts ≡ said b g h.place (lacking_goto (named_first ts) g)
last_read on b g ts h s = at (ended g ts s)
  where
    at : Ended g ts → on ts ≡ said b g h.place (lacking_goto (named_first ts) g)
    at (Nowhere e d) = rw (e, d, h.ends, most_none h.place)
    at (Leading p) = rw (p.2, h.goes p.1 p.0) (goto_read b g h.place p.0 p.3)

pub goto_stops : (alone : Bool) (g : Goto) (ts : List Token) → GotoTo g ts → Stops alone ts
goto_stops alone g ts s = at (ended g ts s)
  where
    at : Ended g ts → Stops alone ts
    at (Nowhere e d) = subst (Stops alone) (sym d) tt
    at (Leading p) = subst (Stops alone) (sym p.2) tt

pub object_stops : (alone : Bool) (o : Object) (g : Goto) (ts m : List Token) → ObjectTo o ts m → GotoTo g m → Stops alone ts
object_stops alone NoObject g ts m s e = subst (Stops alone) (sym s) (goto_stops alone g m e)
object_stops alone NullObject g ts m s e = subst (Stops alone) (sym s) tt
object_stops alone (ValueObject t) g ts m s e = subst (Stops alone) (sym s.1) tt

pub pattern_stops : (p : Option Expression) (o : Object) (g : Goto) (ts m n : List Token) → PatternTo p ts m → ObjectTo o m n → GotoTo g n → Stops true ts
pattern_stops None o g ts m n s d e = subst (Stops true) (sym s) (object_stops true o g m n d e)
pattern_stops (Some p) o g ts m n s d e = stops_blank p ts m s

-- behind `=` a blank leads to the object
giving_read : (s : Expression) (p : Option Expression) (n : ℕ) (t : Expression) (ts rest : List Token) → SpellsTo true t ts rest
    → object_in s p n ts ≡ giving s p (with_lack n (telling false ts))
giving_read s p n t ts rest q = let h = headed t true ts rest q in rw (h.is, h.blank, no_colon h.head.blank_after h.head.kind h.opens)

matching_read : (z : ℕ) (w : Bool) (s : Expression) (n : ℕ) (t : Expression) (ts rest : List Token) → SpellsTo true t ts rest
    → subject_then z w s n ts ≡ matching z s (with_lack n (telling false ts))
matching_read z w s n t ts rest q = let h = headed t true ts rest q in rw (h.is, h.blank, h.opens)

acting_read : (t : Expression) (b : Bool) (ts rest : List Token) → SpellsTo b t ts rest → statement_in ts ≡ acting (length ts) (with_lack 0 (telling true ts))
acting_read t b ts rest q = let h = headed t b ts rest q in rw (h.is, no_colon h.head.blank_after h.head.kind h.opens)

on_ending : (w : Bool) (b : Body) (n : ℕ) → GoesOn (ending w b n) b
on_ending w b n = record { place = n; ends = refl; goes = λ c ts. refl }

on_object : (s : Expression) (p : Option Expression) (n : ℕ) → GoesOn (object_in s p n) (Does s p NullObject)
on_object s p n = record { place = n; ends = refl; goes = λ c ts. refl }

-- the place so far where an object is given, or where none is
abbrev used : Object → ℕ → ℕ → ℕ
used NoObject n i = n
used _ n i = i

-- behind the subject and the pattern
object_read : (on : List Token → Result Stated Refusal) (s : Expression) (p : Option Expression) (i : ℕ) (o : Object) (g : Goto) (ts m : List Token)
    (h : GoesOn on (Does s p NoObject)) → ((k : List Token) → on (spaced true true (token.Part Equals) ∷ k) ≡ object_in s p i k)
    → ObjectTo o ts m → GotoTo g m → on ts ≡ said (Does s p o) g (used o h.place i) (lacking_object o ++ lacking_goto (named_first m) g)
unfolding on_object on_ending
object_read on s p i NoObject g ts m h q d e = ap on d ∙ last_read on (Does s p NoObject) g m h e
object_read on s p i NullObject g ts m h q d e = ap on d ∙ (q m ∙ last_read (object_in s p i) (Does s p NullObject) g m (on_object s p i) e)
object_read on s p i (ValueObject t) g ts m h q d e =
    let y = complete false t true d.0 m tt d.2 (goto_stops false g m e) in
    let b = Does s p (ValueObject t) in
    let j = most i (lacks (lacking false t) (length m)) in
    let c = goto_counted g m e in
    ap on d.1 ∙ (q d.0 ∙ (giving_read s p i t d.0 m d.2 ∙ (ap (λ x. giving s p (with_lack i x)) y.1
    ∙ (last_read (ending y.0 b j) b g m (on_ending y.0 b j) e
    ∙ ap (λ (l : ℕ). Ok (States (Says b g) l)) (chained (lacking false t) (lacking_goto (named_first m) g) i (length m) 0 (omega (arith, c)))))))

-- where the subject may not be assigned to, it is the first place of all
abbrev first_or : Bool → ℕ → ℕ → ℕ
first_or wrong z n = if wrong then most n z else n

turned : (x : Bool) (z n : ℕ) → (if x then n else most n z) ≡ (if not x then most n z else n)
turned true z n = refl
turned false z n = refl

most_swap : (a b c : ℕ) → most (most a b) c ≡ most (most a c) b
most_swap a b c = grind (arith, nat_tests)

behind_counted : (o : Object) (g : Goto) (m n : List Token) → ObjectTo o m n → GotoTo g n → length m ≡ length (lacking_object o ++ lacking_goto (named_first n) g)
behind_counted o g m n d e =
    let a = object_counted o m n d in
    let b = goto_counted g n e in
    omega (arith, a, b, length-append (lacking_object o) (lacking_goto (named_first n) g))

moved : (u : Bool) (z i : ℕ) (cs bs : List Bool) (l : ℕ) → l ≡ length bs
    → most (first_or u z (most i (lacks cs l))) (lacks bs 0) ≡ most (first_or u z i) (lacks (cs ++ bs) 0)
moved true z i cs bs l e = ap (λ (x : ℕ). most x (lacks bs 0)) (most_swap i (lacks cs l) z) ∙ chained cs bs (most i z) l 0 (omega (arith, e))
moved false z i cs bs l e = chained cs bs i l 0 (omega (arith, e))

used_set : (s : Expression) (p : Option Expression) (o : Object) (z n : ℕ) → used o n (set z s (is_some p) n) ≡ first_or (is_wrong s p o) z n
used_set s p NoObject z n = refl
used_set s p NullObject z n = turned (may_be_set s (is_some p)) z n
used_set s p (ValueObject t) z n = turned (may_be_set s (is_some p)) z n

pattern_read : (z : ℕ) (w : Bool) (s : Expression) (i : ℕ) (p : Option Expression) (o : Object) (g : Goto) (ts m n : List Token)
    → PatternTo p ts m → ObjectTo o m n → GotoTo g n
    → subject_then z w s i ts ≡ said (Does s p o) g (first_or (is_wrong s p o) z i) (lacking_pattern p ++ (lacking_object o ++ lacking_goto (named_first n) g))
pattern_read z w s i None o g ts m n c d e =
    ap (subject_then z w s i) c
    ∙ (object_read (subject_then z w s i) s None (set z s false i) o g m n (record { place = i; ends = refl; goes = λ b ts. refl }) (λ k. refl) d e
    ∙ ap (λ (x : ℕ). said (Does s None o) g x (lacking_object o ++ lacking_goto (named_first n) g)) (used_set s None o z i))
pattern_read z w s i (Some p) o g ts m n c d e =
    let y = complete false p true ts m tt c (object_stops false o g m n d e) in
    let j = most i (lacks (lacking false p) (length m)) in
    let bs = lacking_object o ++ lacking_goto (named_first n) g in
    let b = Does s (Some p) o in
    matching_read z w s i p ts m c ∙ (ap (λ x. matching z s (with_lack i x)) y.1
    ∙ (object_read (parted z y.0 s (Some p) j) s (Some p) (set z s true j) o g m n (record { place = j; ends = refl; goes = λ b ts. refl }) (λ k. refl) d e
    ∙ (ap (λ (x : ℕ). said b g x bs) (used_set s (Some p) o z j)
    ∙ ap (λ (l : ℕ). Ok (States (Says b g) l)) (moved (is_wrong s (Some p) o) z i (lacking false p) bs (length m) (behind_counted o g m n d e)))))

-- THE SUBJECT

set_variable : (s : Expression) (p : Bool) → not (may_be_set s p) ≡ true → is_variable s ≡ false
set_variable (Identifier n) p e = cc
set_variable (Unary unary.Indirect t) p e = cc
set_variable _ p e = refl

wrong_variable : (s : Expression) (p : Option Expression) (o : Object) → is_wrong s p o ≡ true → is_variable s ≡ false
wrong_variable s p NoObject e = cc
wrong_variable s p NullObject e = set_variable s (is_some p) e
wrong_variable s p (ValueObject t) e = set_variable s (is_some p) e

-- where the subject may not be assigned to it lacks a variable where it begins
lifted : (s : Expression) (u : Bool) (n : ℕ) → IsOperand s → (u ≡ true → is_variable s ≡ false)
    → first_or u (length (lacking false s) + n) (lacks (lacking false s) n) ≡ lacks (lacking u s) n
lifted s false n i h = refl
lifted (Identifier x) true n i h = cc (h refl)
lifted (Constant c) true n i h = sym (raised [] n)
lifted (Keyword x) true n i h = sym (raised (false ∷ []) n)
lifted (Unevaluated x) true n i h = sym (raised (false ∷ []) n)
lifted (Group t) true n i h = sym (raised (lacking false t ++ false ∷ []) n)
lifted (Call f args) true n i h = sym (raised (false ∷ (lacking_among args ++ false ∷ [])) n)
lifted (TableItem x t) true n i h = sym (raised (false ∷ (lacking false t ++ false ∷ [])) n)
lifted (Unary o t) true n i h =
    sym (raised (lacking (operand_is_variable o) t) n) ∙ ap (λ (c : Bool). lacks (not c ∷ lacking (operand_is_variable o) t) n) (sym (h refl))
lifted (Binary o l r) true n i h = absurd i

-- A STATEMENT

-- neither a tree nor `=` names an outcome
join_names : (o : BinaryOperator) (m n : List Token) → Joins o m n → named_first m ≡ named_first n
join_names Concatenation m n j = ap named_first j
join_names _ m n j = ap named_first j.2

part_names : (args : Arguments) (m n : List Token) → Parts args m n → named_first m ≡ named_first n
part_names NoArguments m n p = ap named_first p
part_names (Omitted args) m n p = ap named_first p.2
part_names (Argument args t) m n p = ap named_first p.2

mutual
  tree_names : (t : Expression) (b : Bool) (ts rest : List Token) → SpellsTo b t ts rest → named_first ts ≡ named_first rest
  tree_names (Identifier n) b ts rest s = ap named_first s.1
  tree_names (Constant c) b ts rest s = ap named_first s.1
  tree_names (Keyword n) b ts rest s = ap named_first s.1
  tree_names (Unevaluated n) b ts rest s = ap named_first s.1
  tree_names (Group t) b ts rest s = ap named_first s.5 ∙ tree_names t s.2 s.0 (spaced s.3 s.4 token.Close ∷ rest) s.6
  tree_names (Call f args) b ts rest s = ap named_first s.5 ∙ arguments_name args s.0 (spaced s.3 s.4 token.Close ∷ rest) s.6
  tree_names (TableItem n t) b ts rest s = ap named_first s.6 ∙ tree_names t s.3 s.0 (spaced s.4 s.5 token.CloseAngle ∷ rest) s.7
  tree_names (Unary o t) b ts rest s = ap named_first s.3 ∙ tree_names t false s.0 rest s.4
  tree_names (Binary o l r) b ts rest s = tree_names l b ts s.0 s.2 ∙ (join_names o s.0 s.1 s.3 ∙ tree_names r true s.1 rest s.4)

  arguments_name : (args : Arguments) (ts rest : List Token) → SpellTo args ts rest → named_first ts ≡ named_first rest
  arguments_name NoArguments ts rest s = ap named_first s
  arguments_name (Omitted args) ts rest s = arguments_name args ts s.0 s.1 ∙ part_names args s.0 rest s.2
  arguments_name (Argument args t) ts rest s = arguments_name args ts s.0 s.3 ∙ (part_names args s.0 s.1 s.4 ∙ tree_names t s.2 s.1 rest s.5)

pattern_names : (p : Option Expression) (m n : List Token) → PatternTo p m n → named_first m ≡ named_first n
pattern_names None m n s = ap named_first s
pattern_names (Some p) m n s = tree_names p true m n s

object_names : (o : Object) (m n : List Token) → ObjectTo o m n → named_first m ≡ named_first n
object_names NoObject m n s = ap named_first s
object_names NullObject m n s = ap named_first s
object_names (ValueObject t) m n s = ap named_first s.1 ∙ tree_names t true s.0 n s.2

-- a statement that spells the tokens is read from them, and what it lacks
pub statement_read : (s : Statement) (ts : List Token) → Spells s ts → statement_in ts ≡ Ok (States s (lacks (lacking_in ts s) 0))
statement_read (Says NoBody g) ts q = rw q.1 (last_read statement_in NoBody g q.0 (record { place = 0; ends = refl; goes = λ b ts. refl }) q.2
    ∙ ap (λ (l : ℕ). Ok (States (Says NoBody g) l)) (none_most (lacks (lacking_goto (named_first q.0) g) 0)))
statement_read (Says (Does s p o) g) ts q =
    let b = q.1 in
    let y = complete true s b.2 ts b.0 b.6 b.3 (pattern_stops p o g b.0 b.1 q.0 b.4 b.5 q.2) in
    let n = lacks (lacking false s) (length b.0) in
    let u = is_wrong s p o in
    let gs = lacking_goto (named_first q.0) g in
    let bs = lacking_pattern p ++ (lacking_object o ++ gs) in
    let c = pattern_counted p b.0 b.1 b.4 in
    let d = behind_counted o g b.1 q.0 b.5 q.2 in
    let e = length-append (lacking_pattern p) (lacking_object o ++ gs) in
    acting_read s b.2 ts b.0 b.3
    ∙ (ap (λ x. acting (length ts) (with_lack 0 x)) y.1
    ∙ (ap (λ (k : ℕ). subject_then (length ts) y.0 s k b.0) (none_most n)
    ∙ (pattern_read (length ts) y.0 s n p o g b.0 b.1 q.0 b.4 b.5 q.2
    ∙ (ap (λ (z : ℕ). said (Does s p o) g (first_or u z n) bs) (counted s false b.2 ts b.0 b.3)
    ∙ (ap (λ (x : ℕ). said (Does s p o) g x bs) (lifted s u (length b.0) b.6 (wrong_variable s p o))
    ∙ (ap (λ (l : ℕ). Ok (States (Says (Does s p o) g) l)) (
    ap (λ (k : ℕ). most (lacks (lacking u s) k) (lacks bs 0)) (let f : length b.0 ≡ length bs + 0 = omega (arith, c, d, e) in f)
    ∙ lacks_append (lacking u s) bs 0)
    ∙ (ap (λ (l : List Bool). Ok (States (Says (Does s p o) g) (lacks l 0)))
    (ap (λ (l : List Bool). lacking u s ++ l) (sym (append_assoc (lacking_pattern p) (lacking_object o) gs)) ∙ sym (append_assoc (lacking u s) (lacking_pattern p ++ lacking_object o) gs))
    ∙ ap (λ (x : Outcome). Ok (States (Says (Does s p o) g) (lacks (lacking_body (Does s p o) ++ lacking_goto x g) 0)))
    (sym (tree_names s b.2 ts b.0 b.3 ∙ (pattern_names p b.0 b.1 b.4 ∙ object_names o b.1 q.0 b.5))))))))))

pub stated_read : (s : Statement) (ts : List Token) → Spells s ts → stated (statement_in ts) ≡ Some s
stated_read s ts q = ap stated (statement_read s ts q)

-- there is a mark for each token
pub all_counted : (s : Statement) (ts : List Token) → Spells s ts → length ts ≡ length (lacking_in ts s)
all_counted (Says NoBody g) ts q = rw q.1 (goto_counted g q.0 q.2)
all_counted (Says (Does s p o) g) ts q =
    let b = q.1 in
    let names = tree_names s b.2 ts b.0 b.3 ∙ (pattern_names p b.0 b.1 b.4 ∙ object_names o b.1 q.0 b.5) in
    let c = counted s (is_wrong s p o) b.2 ts b.0 b.3 in
    let d = pattern_counted p b.0 b.1 b.4 in
    let e = object_counted o b.1 q.0 b.5 in
    let f = goto_counted g q.0 q.2 ∙ ap (λ (x : Outcome). length (lacking_goto x g)) (sym names) in
    let h = length-append (lacking_pattern p) (lacking_object o) in
    let i = length-append (lacking (is_wrong s p o) s) (lacking_pattern p ++ lacking_object o) in
    let j = length-append (lacking_body (Does s p o)) (lacking_goto (named_first ts) g) in
    omega (arith, c, d, e, f, h, i, j)
