-- A statement read part by part, each part as far as it goes, and where the tokens go no further, why. A place is told by
-- the number of tokens from it on; with what is read goes the leftmost place so far that lacks a variable, or 0.
use Rattle.std.specs.Prelude.{ℕ, ◌-◌, nat_eq, Bool, true, false, not, ◌||◌, ◌&&◌, if◌then◌else◌}
use Rattle.std.specs.Prelude.{List, [], ◌∷◌, length, Option, Some, None, is_some, Result, Ok, Err}
use Rattle.sno_lexer.specs.declared.token.Mark.TheVariants.{Dollar}
use Rattle.sno_lexer.specs.declared.token.Outcome.{Outcome}
use Rattle.sno_lexer.specs.declared.token.Outcome.TheVariants.{Success, Failure}
use Rattle.sno_lexer.specs.declared.token.Part.TheVariants.{Equals, Colon, On, Label}
use Rattle.sno_lexer.specs.declared.token.Token.{Token}
use Rattle.sno_lexer.specs.declared.token.TokenKind.{TokenKind}
use Rattle.sno_lexer.specs.declared.token.TokenKind.TheVariants as token
use Rattle.sno_expression.specs.Expressions.{Expression}
use Rattle.sno_expression.specs.inner.Telling.{most, begins, Told, Tells, with_lack, telling}
use Rattle.sno_statement.specs.declared.fault.Fault.{Fault}
use Rattle.sno_statement.specs.declared.fault.FaultKind.{FaultKind}
use Rattle.sno_statement.specs.declared.fault.FaultKind.TheVariants.{MissingBlank, Unfit, NoVariable}
use Rattle.sno_statement.specs.declared.parser.Refusal.{Refusal}
use Rattle.sno_statement.specs.Statements.{Target, To, Computed, Goto, NoGoto, Always, OnSuccess, OnFailure, OnBoth}
use Rattle.sno_statement.specs.Statements.{NoObject, NullObject, ValueObject, Body, NoBody, Does, Statement, Says, may_be_set}

-- refused at the first of these tokens; would it be taken with other blanks
abbrev pub blamed : Bool → ℕ → List Token → Refusal
blamed blank n ts = record { lacking = n; left = length ts; kind = if blank then MissingBlank else Unfit }

pub data Aim : Type 0 where
  Aimed : Target → ℕ → List Token → Aim

abbrev pub closed_by : TokenKind → Bool → Target → ℕ → Token → List Token → Result Aim Refusal
closed_by token.Close b t n u ts = Ok (Aimed t n ts)
closed_by _ b t n u ts = Err (blamed b n (u ∷ ts))

abbrev pub closing : Bool → Target → ℕ → List Token → Result Aim Refusal
closing b t n [] = Err (blamed b n [])
closing b t n (u ∷ ts) = closed_by u.kind b t n u ts

abbrev pub computed : Told → Result Aim Refusal
computed (Tells None rest n w) = Err (blamed w n rest)
computed (Tells (Some t) rest n w) = closing w (Computed t) n rest

-- behind the `$` of a target
abbrev pub element : ℕ → List Token → Result Aim Refusal
element n [] = Err (blamed false n [])
element n (t ∷ ts) = if t.blank_before then Err (blamed (begins false t.kind) n (t ∷ ts)) else computed (with_lack n (telling true (t ∷ ts)))

-- behind the parenthesis of a target
abbrev pub inside_by : TokenKind → ℕ → Token → List Token → Result Aim Refusal
inside_by (token.Part (Label l)) n t ts = closing false (To l) n ts
inside_by (token.Mark Dollar) n t ts = if t.blank_after then Err (blamed true n (t ∷ ts)) else element n ts
inside_by _ n t ts = Err (blamed false n (t ∷ ts))

abbrev pub inside : ℕ → List Token → Result Aim Refusal
inside n [] = Err (blamed false n [])
inside n (t ∷ ts) = inside_by t.kind n t ts

abbrev pub target_by : TokenKind → ℕ → Token → List Token → Result Aim Refusal
target_by token.Open n t ts = inside n ts
target_by _ n t ts = Err (blamed false n (t ∷ ts))

abbrev pub target_in : ℕ → List Token → Result Aim Refusal
target_in n [] = Err (blamed false n [])
target_in n (t ∷ ts) = target_by t.kind n t ts

pub data Stated : Type 0 where
  States : Statement → ℕ → Stated

-- the statement, if one is read
abbrev pub stated : Result Stated Refusal → Option Statement
stated (Err r) = None
stated (Ok (States s n)) = Some s

-- behind the last target
abbrev pub at_last : Body → Goto → ℕ → List Token → Result Stated Refusal
at_last b g n [] = Ok (States (Says b g) n)
at_last b g n ts = Err (blamed false n ts)

-- the last target
abbrev pub last : Body → (Target → Goto) → Result Aim Refusal → Result Stated Refusal
last b g (Err r) = Err r
last b g (Ok (Aimed t n ts)) = at_last b (g t) n ts

abbrev pub pair : Outcome → Target → Target → Goto
pair Success t u = OnBoth t u
pair Failure t u = OnBoth u t

abbrev pub is_other : Outcome → TokenKind → Bool
is_other Success (token.Part (On Failure)) = true
is_other Failure (token.Part (On Success)) = true
is_other _ _ = false

abbrev pub on_one : Outcome → Target → Goto
on_one Success t = OnSuccess t
on_one Failure t = OnFailure t

-- behind the target of the first outcome
abbrev pub next : Body → Outcome → Target → ℕ → List Token → Result Stated Refusal
next b o t n [] = Ok (States (Says b (on_one o t)) n)
next b o t n (u ∷ ts) = if is_other o u.kind then last b (pair o t) (target_in n ts) else Err (blamed false n (u ∷ ts))

abbrev pub chosen : Body → Outcome → Result Aim Refusal → Result Stated Refusal
chosen b o (Err r) = Err r
chosen b o (Ok (Aimed t n ts)) = next b o t n ts

-- behind `:`
abbrev pub goto_by : TokenKind → Body → ℕ → Token → List Token → Result Stated Refusal
goto_by token.Open b n t ts = last b Always (inside n ts)
goto_by (token.Part (On o)) b n t ts = chosen b o (target_in n ts)
goto_by _ b n t ts = Err (blamed false n (t ∷ ts))

abbrev pub goto_in : Body → ℕ → List Token → Result Stated Refusal
goto_in b n [] = Err (blamed false n [])
goto_in b n (t ∷ ts) = goto_by t.kind b n t ts

abbrev pub is_colon : TokenKind → Bool
is_colon (token.Part Colon) = true
is_colon _ = false

abbrev pub is_equals : TokenKind → Bool
is_equals (token.Part Equals) = true
is_equals _ = false

-- behind a body; w: would the token be taken with other blanks
abbrev pub ending : Bool → Body → ℕ → List Token → Result Stated Refusal
ending w b n [] = Ok (States (Says b NoGoto) n)
ending w b n (t ∷ ts) =
    if is_colon t.kind then (if t.blank_before then goto_in b n ts else Err (blamed true n (t ∷ ts))) else Err (blamed w n (t ∷ ts))

abbrev pub giving : Expression → Option Expression → Told → Result Stated Refusal
giving s p (Tells None rest n w) = Err (blamed w n rest)
giving s p (Tells (Some o) rest n w) = ending w (Does s p (ValueObject o)) n rest

-- behind `=`
abbrev pub object_in : Expression → Option Expression → ℕ → List Token → Result Stated Refusal
object_in s p n [] = Ok (States (Says (Does s p NullObject) NoGoto) n)
object_in s p n (t ∷ ts) =
    if t.blank_before && not (is_colon t.kind) then giving s p (with_lack n (telling false (t ∷ ts)))
    else ending (begins false t.kind) (Does s p NullObject) n (t ∷ ts)

-- where an object is given, the subject, with z tokens from it on, has to be one that may be assigned to
abbrev pub set : ℕ → Expression → Bool → ℕ → ℕ
set z s p n = if may_be_set s p then n else most n z

-- behind the subject, and the pattern where there is one
abbrev pub parted : ℕ → Bool → Expression → Option Expression → ℕ → List Token → Result Stated Refusal
parted z w s p n [] = Ok (States (Says (Does s p NoObject) NoGoto) n)
parted z w s p n (t ∷ ts) =
    if is_equals t.kind then (if t.blank_before && t.blank_after then object_in s p (set z s (is_some p) n) ts else Err (blamed true n (t ∷ ts)))
    else ending w (Does s p NoObject) n (t ∷ ts)

abbrev pub matching : ℕ → Expression → Told → Result Stated Refusal
matching z s (Tells None rest n w) = Err (blamed w n rest)
matching z s (Tells (Some p) rest n w) = parted z w s (Some p) n rest

-- behind the subject
abbrev pub subject_then : ℕ → Bool → Expression → ℕ → List Token → Result Stated Refusal
subject_then z w s n [] = Ok (States (Says (Does s None NoObject) NoGoto) n)
subject_then z w s n (t ∷ ts) =
    if t.blank_before && begins t.blank_after t.kind then matching z s (with_lack n (telling false (t ∷ ts)))
    else parted z (w || begins false t.kind) s None n (t ∷ ts)

abbrev pub acting : ℕ → Told → Result Stated Refusal
acting z (Tells None rest n w) = Err (blamed w n rest)
acting z (Tells (Some s) rest n w) = subject_then z w s n rest

abbrev pub begun : ℕ → List Token → Result Stated Refusal
begun n [] = Ok (States (Says NoBody NoGoto) n)
begun n (t ∷ ts) = if is_colon t.kind then ending false NoBody n (t ∷ ts) else acting (length (t ∷ ts)) (with_lack n (telling true (t ∷ ts)))

-- the statement that the tokens are read as, or why they are read as none
abbrev pub statement_in : List Token → Result Stated Refusal
statement_in ts = begun 0 ts

abbrev pub FaultAt : ℕ → FaultKind → Fault
FaultAt i k = record { at = i; kind = k }

-- what is wrong with z tokens: where a variable is lacking, that comes first
abbrev pub blame : ℕ → Refusal → Fault
blame z r = if nat_eq r.lacking 0 then FaultAt (z - r.left) r.kind else FaultAt (z - r.lacking) NoVariable

abbrev pub fault_of : ℕ → Result Stated Refusal → Option Fault
fault_of z (Err r) = Some (blame z r)
fault_of z (Ok (States s n)) = if nat_eq n 0 then None else Some (FaultAt (z - n) NoVariable)
