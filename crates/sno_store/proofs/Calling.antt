-- Values for a call, and how it begins and ends.
use Rattle.std.proofs.Common.{◌≡◌, ℕ, zero, suc, ◌+◌, List, [], ◌∷◌, ◌++◌, length, take, slice_get, reverse, ◌<◌, ◌≤◌, refl, sym, ap, ap₂, ◌∙◌, arith}
use Rattle.std.{proofs.lemmas.List.{length-append, length-take, reverse-append}, specs.Prelude.{unwrap_or}}
use Rattle.sno_value.specs.{declared.value.Value.{Value}, Values.{null}}
use Rattle.sno_declarations.specs.{declared.prototype.Prototype.{Prototype}, Prototypes.{names_of}, declared.definition.Definition.{Definition}}
use Rattle.sno_variables.specs.{Variables.{Variables, value_of}, Bindings.{Bindings, paired, assigned}, inner.Exchanging.{values_now}}
use Rattle.sno_variables.proofs.Exchanged.{saved_pairs, length_now}
use Rattle.sno_store.specs.{CallFrames.{CallFrame}, Calls.{bindings_of, level_with}, inner.Filling.{fitted, values_for}}

-- VALUES FOR A CALL

-- further values are left out
pub cut_fitted : (n : ℕ) (xs : List Value) → fitted n (take n xs) ≡ fitted n xs
cut_fitted zero xs = refl
cut_fitted (suc n) [] = refl
cut_fitted (suc n) (x ∷ xs) = ap (λ l. x ∷ l) (cut_fitted n xs)

-- null where one is missing
pub one_padded : (n : ℕ) (xs : List Value) → length xs < n → fitted n (xs ++ null ∷ []) ≡ fitted n xs
one_padded zero xs less = absurd (omega (arith, less))
one_padded (suc n) [] less = refl
one_padded (suc n) (x ∷ xs) less = ap (λ l. x ∷ l) (one_padded n xs (omega (arith, less)))

pub all_padded : (n : ℕ) (xs : List Value) → length xs ≡ n → fitted n xs ≡ xs
all_padded zero [] is = refl
all_padded zero (x ∷ xs) is = absurd (omega (arith, is))
all_padded (suc n) [] is = absurd (omega (arith, is))
all_padded (suc n) (x ∷ xs) is = ap (λ l. x ∷ l) (all_padded n xs (omega (arith, is)))

pub ruleset padding = (one_padded, all_padded)

fitted_both : (m n : ℕ) (xs : List Value) → length xs ≤ m → fitted (m + n) xs ≡ fitted m xs ++ fitted n []
fitted_both zero n [] le =
    let none : zero + n ≡ n = omega arith in
    ap (λ k. fitted k []) none
fitted_both zero n (x ∷ xs) le = absurd (omega (arith, le))
fitted_both (suc m) n [] le =
    let more : suc m + n ≡ suc (m + n) = omega arith in
    ap (λ k. fitted k []) more ∙ ap (λ l. null ∷ l) (fitted_both m n [] (omega arith))
fitted_both (suc m) n (x ∷ xs) le =
    let more : suc m + n ≡ suc (m + n) = omega arith in
    ap (λ k. fitted k (x ∷ xs)) more ∙ ap (λ l. x ∷ l) (fitted_both m n xs (omega (arith, le)))

-- values that stand there, the last first, with null behind them
pub turned_filled : (p : Prototype) (turned with_null there : List Value) (count all : ℕ) → with_null ≡ reverse (turned ++ null ∷ []) → count ≡ 1 + length p.parameters
    → all ≡ count + length p.locals → there ≡ take count with_null → fitted all there ≡ values_for p (reverse turned)
turned_filled p turned with_null there count all is counted whole kept =
    let few : length (take count with_null) ≤ count = omega (arith, length-take count with_null) in
    let first : with_null ≡ null ∷ reverse turned = is ∙ reverse-append turned (null ∷ []) in
    let one : 1 + length p.parameters ≡ suc (length p.parameters) = omega arith in
    ap (λ k. fitted k there) whole
    ∙ ap (λ l. fitted (count + length p.locals) l) kept
    ∙ fitted_both count (length p.locals) (take count with_null) few
    ∙ ap (λ l. l ++ fitted (length p.locals) []) (cut_fitted count with_null
    ∙ ap (λ l. fitted count l) first
    ∙ ap (λ k. fitted k (null ∷ reverse turned)) (counted ∙ one))

length_fitted : (n : ℕ) (ws : List Value) → length (fitted n ws) ≡ n
length_fitted zero ws = refl
length_fitted (suc n) [] = ap suc (length_fitted n [])
length_fitted (suc n) (w ∷ ws) = ap suc (length_fitted n ws)

-- one for each name
pub one_each : (p : Prototype) (arguments : List Value) → length (values_for p arguments) ≡ length (names_of p)
one_each p arguments =
    ap suc (length-append (fitted (length p.parameters) arguments) (fitted (length p.locals) [])
    ∙ ap₂ (λ (a b : ℕ). a + b) (length_fitted (length p.parameters) arguments) (length_fitted (length p.locals) [])
    ∙ sym (length-append p.parameters p.locals))

nulls : (ls : List (List ℕ)) → paired ls (fitted (length ls) []) ≡ paired ls []
nulls [] = refl
nulls (l ∷ ls) = ap (λ (bs : Bindings). (l, null) ∷ bs) (nulls ls)

fitted_pairs : (ps ls : List (List ℕ)) (ws : List Value) → paired (ps ++ ls) (fitted (length ps) ws ++ fitted (length ls) []) ≡ paired ps ws ++ paired ls []
fitted_pairs [] ls ws = nulls ls
fitted_pairs (p ∷ ps) ls [] = ap (λ (bs : Bindings). (p, null) ∷ bs) (fitted_pairs ps ls [])
fitted_pairs (p ∷ ps) ls (w ∷ ws) = ap (λ (bs : Bindings). (p, w) ∷ bs) (fitted_pairs ps ls ws)

-- what they come to with the names
pub for_call : (p : Prototype) (arguments : List Value) → paired (names_of p) (values_for p arguments) ≡ bindings_of p arguments
for_call p arguments = ap (λ (bs : Bindings). (p.name, null) ∷ bs) (fitted_pairs p.parameters p.locals arguments)

-- A CALL BEGINS AND ENDS

pub values_fit : (p : Prototype) (arguments ws : List Value) → ws ≡ values_for p arguments → length ws ≡ length (names_of p)
values_fit p arguments ws is = ap (λ (l : List Value). length l) is ∙ one_each p arguments

pub values_still_fit : (names : List (List ℕ)) (vs : Variables) (ws : List Value) → ws ≡ values_now names vs → length ws ≡ length names
values_still_fit names vs ws is = ap (λ (l : List Value). length l) is ∙ length_now names vs

pub call_assigned : (p : Prototype) (arguments ws : List Value) (vs : Variables) → ws ≡ values_for p arguments → assigned (paired (names_of p) ws) vs ≡ assigned (bindings_of p arguments) vs
call_assigned p arguments ws vs is = ap (λ (bs : Bindings). assigned bs vs) (ap (paired (names_of p)) is ∙ for_call p arguments)

pub level_begun : (d : Definition) (statement : ℕ) (vs : Variables) (ws : List Value) → ws ≡ values_now (names_of d.prototype) vs
    → ◌≡◌ {A = CallFrame} (record { name = d.prototype.name; saved = paired (names_of d.prototype) ws; statement = statement }) (level_with d statement vs)
level_begun d statement vs ws is =
    ap (λ (bs : Bindings). let l : CallFrame = record { name = d.prototype.name; saved = bs; statement = statement } in l)
    (ap (paired (names_of d.prototype)) is ∙ saved_pairs (names_of d.prototype) vs)

pub first_now : (p : Prototype) (vs : Variables) (ws : List Value) → ws ≡ values_now (names_of p) vs → unwrap_or (slice_get ws 0) null ≡ value_of p.name vs
first_now p vs ws is = ap (λ (l : List Value). unwrap_or (slice_get l 0) null) is

reverse_added : {A : Type 0} (xs : List A) (x : A) → reverse (xs ++ x ∷ []) ≡ x ∷ reverse xs
reverse_added xs x = reverse-append xs (x ∷ [])

-- the level of a call before the others
pub level_added : (d e : Definition) (statement : ℕ) (vs : Variables) (ws : List Value) (olds news : List CallFrame) → d ≡ e → ws ≡ values_now (names_of d.prototype) vs
    → news ≡ olds ++ record { name = d.prototype.name; saved = paired (names_of d.prototype) ws; statement = statement } ∷ [] → reverse news ≡ level_with e statement vs ∷ reverse olds
level_added d e statement vs ws olds news same is added =
    ap (λ (ls : List CallFrame). reverse ls) added
    ∙ reverse_added olds (record { name = d.prototype.name; saved = paired (names_of d.prototype) ws; statement = statement })
    ∙ ap (λ (l : CallFrame). l ∷ reverse olds) (level_begun d statement vs ws is ∙ ap (λ (f : Definition). level_with f statement vs) same)

pub ruleset beginning = (values_fit, values_still_fit, call_assigned, level_begun)

pub ruleset ending = (values_still_fit, first_now)
