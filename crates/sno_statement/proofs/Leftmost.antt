-- The fault that is found is the leftmost.
use Rattle.std.proofs.Common.{arith, ◌≡◌, ℕ, suc, ◌+◌, ◌-◌, ◌<◌, List, [], ◌∷◌, ◌++◌, length, refl, sym, ap, ap₂, ◌∙◌, subst}
use Rattle.std.{specs.Prelude.{Bool, true, false, nat_eq, Option, Some, None, Result, Ok, Err, if◌then◌else◌}, proofs.lemmas.List.{length-append, append_assoc, append-nil}}
use Rattle.std.proofs.lemmas.Bool.Decides.{nat_tests}
use Rattle.sno_lexer.{specs.declared.token.Token.{Token}, specs.declared.token.TokenKind.{TokenKind}}
use Rattle.sno_expression.{specs.Spelling.{spaced}, specs.inner.Telling.{most}, proofs.Lacks.{lacks, marked, first_marked, none_lack, lack_none}}
use Rattle.sno_statement.{specs.declared.fault.Fault.{Fault}, specs.declared.fault.FaultKind.{FaultKind}, specs.declared.parser.Refusal.{Refusal}, specs.Statements.{Statement}}
use Rattle.sno_statement.{specs.declared.fault.FaultKind.TheVariants.{MissingBlank, Unfit, NoVariable}, specs.Spelling.{Spells}, specs.Laws.{FaultIsLeftmost}, specs.Lacking.{lacking_in, StatementHasVariables}}
use Rattle.sno_statement.{specs.inner.Parsing.{FaultAt, blamed, fault_of, Stated, States, statement_in}, specs.Faults.{IsSpelled, IsFit, Begins, EndsBefore, Stops as Ends_for, Lacks, Blames, IsLeftmostFault}}
use Rattle.sno_statement.{specs.inner.Faults.{fault}, proofs.Completing.{statement_read, all_counted}, proofs.Sound.{statement_sound}}
use Rattle.sno_statement.proofs.Shapes.{count, later, merged, count_later, count_merged, Shape, Start, run, Onto, may, Moves, Goes, Stops, step, some_goes, Ending, Ends, Unended, ending_of, completes, grows}

-- WHERE A READING STANDS

-- what the tokens taken make of those to come; behind the place that lacks a variable stand so many of them
abbrev Reached : List Token → Shape → Option ℕ → Type 0
Reached taken c o = (m : List Token) → statement_in (taken ++ m) ≡ run c (count o (length m)) m

goes_on : (taken : List Token) (c : Shape) (o : Option ℕ) (t : Token) → Reached taken c o → (g : Onto (run c) t) → Reached (taken ++ t ∷ []) g.0 (merged (later o) g.1)
goes_on taken c o t r g m =
    ap statement_in (append_assoc taken (t ∷ []) m) ∙ (r (t ∷ m) ∙ (g.2 (count o (suc (length m))) m
    ∙ ap (λ (x : ℕ). run g.0 x m) (ap (λ (x : ℕ). most x (count g.1 (length m))) (count_later o (length m)) ∙ count_merged (later o) g.1 (length m))))

-- a completion, and what it lacks
record Known (taken : List Token) (o : Option ℕ) : Type 0 where
  rest : List Token
  statement : Statement
  spells : Spells statement (taken ++ rest)
  place : lacks (lacking_in (taken ++ rest) statement) 0 ≡ count o (length rest)
  size : length (lacking_in (taken ++ rest) statement) ≡ length taken + length rest

stated_place : (x : Result Stated Refusal) (s : Statement) (n k : ℕ) → x ≡ Ok (States s n) → x ≡ Ok (States s k) → n ≡ k
stated_place x s n k e d = cc

known : (taken : List Token) (c : Shape) (o : Option ℕ) → Reached taken c o → Known taken o
known taken c o r =
    let x = completes c in
    let y = x.1 (count o (length x.0)) in
    let p = statement_sound (taken ++ x.0) y.0 (count o (length x.0)) (r x.0 ∙ y.1) in
    record {
      rest = x.0;
      statement = y.0;
      spells = p;
      place = stated_place (statement_in (taken ++ x.0)) y.0 (lacks (lacking_in (taken ++ x.0) y.0) 0) (count o (length x.0)) (statement_read y.0 (taken ++ x.0) p) (r x.0 ∙ y.1);
      size = sym (all_counted y.0 (taken ++ x.0) p) ∙ length-append taken x.0;
    }

begins : (taken : List Token) (c : Shape) (o : Option ℕ) → Reached taken c o → Begins taken
begins taken c o r = let k = known taken c o r in (k.rest, (k.statement, k.spells))

lacks_here : (taken : List Token) (c : Shape) (d : ℕ) → Reached taken c (Some d) → Lacks taken (length taken - suc d)
lacks_here taken c d r rest s p =
    let e = statement_read s (taken ++ rest) p in
    let g = grows rest c (suc (d + length rest)) (lacks (lacking_in (taken ++ rest) s) 0) s (sym (r rest) ∙ e) in
    let m = marked (lacking_in (taken ++ rest) s) (omega (arith, g)) in
    let h = m.1 in
    let a = sym (all_counted s (taken ++ rest) p) ∙ length-append taken rest in
    (m.0, omega (arith, g, h, a), m.2)

none_before : (taken : List Token) (c : Shape) (d : ℕ) → Reached taken c (Some d) → (i : ℕ) → i < length taken - suc d → Lacks taken i → ⊥
none_before taken c d r i b l =
    let k = known taken c (Some d) r in
    let h = l k.rest k.statement k.spells in
    let f = (first_marked (lacking_in (taken ++ k.rest) k.statement) h.0 h.2).0 in
    let p : lacks (lacking_in (taken ++ k.rest) k.statement) 0 ≡ suc (d + length k.rest) = k.place in
    let z = k.size in
    let j = h.1 in
    absurd (omega (arith, f, p, z, j, b))

none_lacks : (taken : List Token) (c : Shape) → Reached taken c None → (i : ℕ) → Lacks taken i → ⊥
none_lacks taken c r i l =
    let k = known taken c None r in
    let h = l k.rest k.statement k.spells in
    let f = first_marked (lacking_in (taken ++ k.rest) k.statement) h.0 h.2 in
    let a = f.0 in
    let b = f.1 in
    let p : lacks (lacking_in (taken ++ k.rest) k.statement) 0 ≡ 0 = k.place in
    absurd (omega (arith, a, b, p))

-- a token that is refused begins nothing
refuses : (taken : List Token) (c : Shape) (o : Option ℕ) (t : Token) (w : Bool) → Reached taken c o
    → ((n : ℕ) (m : List Token) → run c n (t ∷ m) ≡ Err (blamed w n (t ∷ m))) → Begins (taken ++ t ∷ []) → ⊥
refuses taken c o t w r h b =
    let e = statement_read b.1.0 ((taken ++ t ∷ []) ++ b.0) b.1.1 in
    let d = ap statement_in (append_assoc taken (t ∷ []) b.0) ∙ (r (t ∷ b.0) ∙ h (count o (suc (length b.0))) b.0) in
    cc (e, d)

spaced_none : (taken : List Token) (c : Shape) (o : Option ℕ) (k : TokenKind) → Reached taken c o → may c k ≡ false → (b a : Bool) → Begins (taken ++ spaced b a k ∷ []) → ⊥
spaced_none taken c o k r e b a g = at (step c (spaced b a k))
  where
    at : Moves (run c) (may c k) (spaced b a k) → ⊥
    at (Goes d x) = cc (e, d)
    at (Stops h) = refuses taken c o (spaced b a k) (may c k) r h g

-- THE LAW

abbrev kind_of : Bool → FaultKind
kind_of w = if w then MissingBlank else Unfit

blames_place : (left taken : List Token) (c : Shape) (d : ℕ) → Reached taken c (Some d)
    → Blames NoVariable (length (taken ++ left) - suc (d + length left)) taken left
blames_place left taken c d r =
    let a = length-append taken left in
    let e : length taken - suc d ≡ length (taken ++ left) - suc (d + length left) = omega (arith, a) in
    subst (λ (x : ℕ). Blames NoVariable x taken left) e (lacks_here taken c d r, none_before taken c d r)

blames_end : (left taken : List Token) (c : Shape) (w : Bool) → Reached taken c None → Ends_for (kind_of w) taken left
    → Blames (kind_of w) (length (taken ++ left) - length left) taken left
blames_end left taken c true r h = let a = length-append taken left in (omega (arith, a), none_lacks taken c r, h)
blames_end left taken c false r h = let a = length-append taken left in (omega (arith, a), none_lacks taken c r, h)

not_zero : (n : ℕ) → nat_eq (suc n) 0 ≡ false
not_zero n = grind (arith, nat_tests)

refused_at : (left taken : List Token) (c : Shape) (o : Option ℕ) (w : Bool) → Reached taken c o → EndsBefore taken left → Ends_for (kind_of w) taken left
    → statement_in (taken ++ left) ≡ Err (blamed w (count o (length left)) left) → (f : Fault) → fault (taken ++ left) ≡ Some f → IsLeftmostFault (taken ++ left) f
refused_at left taken c None w r b h e f d =
    let i : FaultAt (length (taken ++ left) - length left) (kind_of w) ≡ f = cc (ap (fault_of (length (taken ++ left))) e, d) in
    (taken, left, refl, begins taken c None r, b, subst (λ (x : Fault). Blames x.kind x.at taken left) i (blames_end left taken c w r h))
refused_at left taken c (Some p) w r b h e f d =
    let z = length (taken ++ left) in
    let g : FaultAt (z - suc (p + length left)) NoVariable ≡ f
    = cc (ap (fault_of z) e, d, ap (λ (x : Bool). Some (if x then FaultAt (z - length left) (kind_of w) else FaultAt (z - suc (p + length left)) NoVariable)) (not_zero (p + length left))) in
    (taken, left, refl, begins taken c (Some p) r, b, subst (λ (x : Fault). Blames x.kind x.at taken left) g (blames_place left taken c p r))

lacking_at : (taken : List Token) (c : Shape) (o : Option ℕ) (s : Statement) → Reached taken c o → statement_in (taken ++ []) ≡ Ok (States s (count o 0))
    → (f : Fault) → fault (taken ++ []) ≡ Some f → IsLeftmostFault (taken ++ []) f
lacking_at taken c None s r e f d = cc (ap (fault_of (length (taken ++ []))) e, d)
lacking_at taken c (Some p) s r e f d =
    let z = length (taken ++ []) in
    let g : FaultAt (z - suc (p + 0)) NoVariable ≡ f
    = cc (ap (fault_of z) e, d, ap (λ (x : Bool). if x then None else Some (FaultAt (z - suc (p + 0)) NoVariable)) (not_zero (p + 0))) in
    (taken, [], refl, begins taken c (Some p) r, tt, subst (λ (x : Fault). Blames x.kind x.at taken []) g (blames_place [] taken c p r))

judge : (left taken : List Token) (c : Shape) (o : Option ℕ) → Reached taken c o → (f : Fault) → fault (taken ++ left) ≡ Some f → IsLeftmostFault (taken ++ left) f
judge [] taken c o r f e = at (ending_of c)
  where
    at : Ending (run c) → IsLeftmostFault (taken ++ []) f
    at (Ends h) = let x = h (count o 0) in lacking_at taken c o x.0 r (r [] ∙ x.1) f e
    at (Unended h) = refused_at [] taken c o false r tt (unspelled h) (r [] ∙ h (count o 0)) f e
      where
        unspelled : ((n : ℕ) → run c n [] ≡ Err (blamed false n [])) → IsSpelled taken → ⊥
        unspelled h s =
            let d = statement_read s.0 taken s.1 in
            let g = sym (ap statement_in (append-nil taken)) ∙ (r [] ∙ h (count o 0)) in
            cc (d, g)
judge (t ∷ left) taken c o r f e = at (step c t) (λ d p q h. judge left (taken ++ t ∷ []) d p q f h)
  where
    kinds : (w : Bool) → may c t.kind ≡ w → Ends_for (kind_of w) taken (t ∷ left)
    kinds true d = let g = some_goes c t.kind d in (g.0, g.1, begins (taken ++ spaced g.0 g.1 t.kind ∷ []) g.2.0 (merged (later o) g.2.1) (goes_on taken c o (spaced g.0 g.1 t.kind) r g.2))
    kinds false d = λ g. spaced_none taken c o t.kind r d g.0 g.1 g.2

    at : Moves (run c) (may c t.kind) t
        → ((d : Shape) (p : Option ℕ) → Reached (taken ++ t ∷ []) d p → fault ((taken ++ t ∷ []) ++ left) ≡ Some f → IsLeftmostFault ((taken ++ t ∷ []) ++ left) f)
        → IsLeftmostFault (taken ++ t ∷ left) f
    at (Goes d g) on =
        let a = append_assoc taken (t ∷ []) left in
        subst (λ (x : List Token). IsLeftmostFault x f) a
        (on g.0 (merged (later o) g.1) (goes_on taken c o t r g) (ap fault a ∙ e))
    at (Stops h) on =
        refused_at (t ∷ left) taken c o (may c t.kind) r (refuses taken c o t (may c t.kind) r h) (kinds (may c t.kind) refl)
        (r (t ∷ left) ∙ h (count o (suc (length left))) left) f e

pub found : (ts : List Token) (f : Fault) → fault ts ≡ Some f → IsLeftmostFault ts f
found ts f e = judge ts [] Start None (λ m. refl) f e

-- ONE FAULT

shorter : (pre b : List Token) (t : Token) → Begins (pre ++ t ∷ b) → Begins (pre ++ t ∷ [])
shorter pre b t g = (b ++ g.0, subst IsSpelled (append_assoc pre (t ∷ b) g.0 ∙ sym (append_assoc pre (t ∷ []) (b ++ g.0))) g.1)

abbrev Last : List Token → List Token → Type 0
Last taken left = Begins taken × EndsBefore taken left

last_at : (a b : List Token) (left : List Token) → a ≡ b → Last a left → Last b left
last_at a b left e l = subst (λ (x : List Token). Last x left) e l

same_end : (a b l k pre : List Token) → a ++ l ≡ b ++ k → Last (pre ++ a) l → Last (pre ++ b) k → (a ≡ b) × (l ≡ k)
same_end [] [] l k pre e x y = (refl, e)
same_end [] (t ∷ b) l k pre e x y = absurd (short x)
  where
    short : Last (pre ++ []) l → ⊥
    short z = let w = subst (λ (m : List Token). EndsBefore pre m) e (last_at (pre ++ []) pre l (append-nil pre) z).1 in w (shorter pre b t y.0)
same_end (t ∷ a) [] l k pre e x y = absurd (short y)
  where
    short : Last (pre ++ []) k → ⊥
    short z = let w = subst (λ (m : List Token). EndsBefore pre m) (sym e) (last_at (pre ++ []) pre k (append-nil pre) z).1 in w (shorter pre a t x.0)
same_end (t ∷ a) (u ∷ b) l k pre e x y =
    let d : t ≡ u = cc in
    let g : a ++ l ≡ b ++ k = cc in
    let h = same_end a b l k (pre ++ t ∷ []) g
    (last_at (pre ++ t ∷ a) ((pre ++ t ∷ []) ++ a) l (sym (append_assoc pre (t ∷ []) a)) x)
    (last_at (pre ++ u ∷ b) ((pre ++ t ∷ []) ++ b) k (ap (λ (v : Token). pre ++ v ∷ b) (sym d) ∙ sym (append_assoc pre (t ∷ []) b)) y) in
    (ap₂ (λ (v : Token) (c : List Token). v ∷ c) d h.0, h.1)

same_blame : (taken left : List Token) (k q : FaultKind) (i j : ℕ) → Blames k i taken left → Blames q j taken left → FaultAt i k ≡ FaultAt j q
same_blame taken left NoVariable NoVariable i j a b =
    let g : i < j → ⊥ = λ h. b.1 i h a.0 in
    let h : j < i → ⊥ = λ h. a.1 j h b.0 in
    ap (λ (x : ℕ). FaultAt x NoVariable) (let e : i ≡ j = omega (arith, g, h) in e)
same_blame taken left NoVariable Unfit i j a b = absurd (b.1 i a.0)
same_blame taken left NoVariable MissingBlank i j a b = absurd (b.1 i a.0)
same_blame taken left Unfit NoVariable i j a b = absurd (a.1 j b.0)
same_blame taken left MissingBlank NoVariable i j a b = absurd (a.1 j b.0)
same_blame taken left Unfit Unfit i j a b = ap (λ (x : ℕ). FaultAt x Unfit) (a.0 ∙ sym b.0)
same_blame taken left MissingBlank MissingBlank i j a b = ap (λ (x : ℕ). FaultAt x MissingBlank) (a.0 ∙ sym b.0)
same_blame taken [] Unfit MissingBlank i j a b = absurd b.2
same_blame taken (t ∷ left) Unfit MissingBlank i j a b = absurd (a.2 b.2)
same_blame taken [] MissingBlank Unfit i j a b = absurd a.2
same_blame taken (t ∷ left) MissingBlank Unfit i j a b = absurd (b.2 a.2)

one_fault : (ts : List Token) (f g : Fault) → IsLeftmostFault ts f → IsLeftmostFault ts g → f ≡ g
one_fault ts f g x y =
    let e = same_end x.0 y.0 x.1 y.1 [] (sym x.2 ∙ y.2) (x.3, x.4) (y.3, y.4) in
    same_blame x.0 x.1 f.kind g.kind f.at g.at x.5 (subst (λ (m : List Token). Blames g.kind g.at m x.1) (sym e.0) (subst (λ (m : List Token). Blames g.kind g.at y.0 m) (sym e.1) y.5))

-- NO FAULT

pub has_variables : (ts : List Token) (s : Statement) (n : ℕ) → statement_in ts ≡ Ok (States s n) → nat_eq n 0 ≡ true → StatementHasVariables ts s
has_variables ts s n e d =
    let p = stated_place (statement_in ts) s (lacks (lacking_in ts s) 0) n (statement_read s ts (statement_sound ts s n e)) e in
    let z : n ≡ 0 = grind (arith, nat_tests, d) in
    lack_none (lacking_in ts s) (p ∙ z)

pub none_fit : (ts : List Token) → fault ts ≡ None → IsFit ts
none_fit ts e = at (statement_in ts) refl e
  where
    at : (x : Result Stated Refusal) → statement_in ts ≡ x → fault_of (length ts) x ≡ None → IsFit ts
    at (Err r) d g = cc
    at (Ok (States s n)) d g = by (nat_eq n 0) refl g
      where
        by : (c : Bool) → nat_eq n 0 ≡ c → (if c then None else Some (FaultAt (length ts - n) NoVariable)) ≡ None → IsFit ts
        by true h i = (s, has_variables ts s n d h, statement_sound ts s n d)
        by false h i = cc

pub fit_none : (ts : List Token) → IsFit ts → fault ts ≡ None
fit_none ts s =
    ap (fault_of (length ts)) (statement_read s.0 ts s.2)
    ∙ ap (λ (n : ℕ). if nat_eq n 0 then None else Some (FaultAt (length ts - n) NoVariable)) (none_lack (lacking_in ts s.0) 0 s.1)

-- what is fit has no fault
fit_unblamed : (taken left : List Token) (k : FaultKind) (i : ℕ) → IsFit (taken ++ left) → EndsBefore taken left → Blames k i taken left → ⊥
fit_unblamed taken (t ∷ left) k i s b x = b (left, (s.0, subst (Spells s.0) (sym (append_assoc taken (t ∷ []) left)) s.2))
fit_unblamed taken [] NoVariable i s b x =
    let h = x.0 [] s.0 s.2 in
    let f = first_marked (lacking_in (taken ++ []) s.0) h.0 h.2 in
    let z = none_lack (lacking_in (taken ++ []) s.0) 0 s.1 in
    let a = f.0 in
    let c = f.1 in
    absurd (omega (arith, z, a, c))
fit_unblamed taken [] Unfit i s b x = x.2 (s.0, subst (Spells s.0) (append-nil taken) s.2)
fit_unblamed taken [] MissingBlank i s b x = x.2

pub is_found : (ts : List Token) (f : Fault) → IsLeftmostFault ts f → fault ts ≡ Some f
is_found ts f x = at (fault ts) refl
  where
    at : (o : Option Fault) → fault ts ≡ o → o ≡ Some f
    at None e = absurd (fit_unblamed x.0 x.1 f.kind f.at (subst IsFit x.2 (none_fit ts e)) x.4 x.5)
    at (Some g) e = ap (λ (h : Fault). Some h) (one_fault ts g f (found ts g e) x)

pub fault_is_leftmost : FaultIsLeftmost
fault_is_leftmost ts = (λ f. (found ts f, is_found ts f), (none_fit ts, fit_none ts))
