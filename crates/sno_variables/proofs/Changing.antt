-- A variable that is changed is put in place of what it was.
use Rattle.std.proofs.Common.{◌≡◌, ℕ, Bool, true, false, cond, List, [], ◌∷◌, Option, None, Some, refl, sym, ap, ◌∙◌, nat_eq}
use Rattle.std.specs.{Prelude.{is_some, unwrap_or, if◌then◌else◌}, Map.{lookup}, Cmp.Lexicographic.{pointwise}}
use Rattle.sno_value.specs.{declared.value.Value.{Value}, Values.{null}}
use Rattle.sno_declarations.specs.declared.association.{Input.{Input}, Output.{Output}}
use Rattle.sno_variables.{specs.declared.variable.Variable.{Variable}, proofs.Looking.{same}}
use Rattle.sno_variables.specs.Variables.{Variables, holding, variable_of, is_named, put, given, reading, writing, detached, noted}

known : (name : List ℕ) (vs : Variables) (x : Variable) → Some x ≡ lookup (pointwise nat_eq name) vs → variable_of name vs ≡ x
known name vs x at = sym (ap (λ o. unwrap_or o (holding null)) at)

unknown : (name : List ℕ) (vs : Variables) → None ≡ lookup (pointwise nat_eq name) vs → variable_of name vs ≡ holding null
unknown name vs at = sym (ap (λ o. unwrap_or o (holding null)) at)

-- A VALUE

pub given_known : (name : List ℕ) (vs : Variables) (x : Variable) (v : Value) → Some x ≡ lookup (pointwise nat_eq name) vs → put name (record x { value = v }) vs ≡ given name v vs
given_known name vs x v at = sym (ap (λ (y : Variable). put name (record y { value = v }) vs) (known name vs x at))

pub given_new : (name : List ℕ) (vs : Variables) (v : Value) → None ≡ lookup (pointwise nat_eq name) vs → put name (holding v) vs ≡ given name v vs
given_new name vs v at = sym (ap (λ (y : Variable). put name (record y { value = v }) vs) (unknown name vs at))

pub output_known : (name : List ℕ) (vs : Variables) (x : Variable) → Some x ≡ lookup (pointwise nat_eq name) vs → x.output ≡ (variable_of name vs).output
output_known name vs x at = sym (ap (λ (y : Variable). y.output) (known name vs x at))

pub output_new : (name : List ℕ) (vs : Variables) → None ≡ lookup (pointwise nat_eq name) vs → None ≡ (variable_of name vs).output
output_new name vs at = sym (ap (λ (y : Variable). y.output) (unknown name vs at))

pub not_named : (name : List ℕ) (vs : Variables) → None ≡ lookup (pointwise nat_eq name) vs → is_named name vs ≡ false
not_named name vs at = sym (ap is_some at)

pub ruleset giving = (given_known, given_new, output_known, output_new, not_named)

-- ASSOCIATIONS

pub reading_known : (name : List ℕ) (vs : Variables) (x : Variable) (i : Input) → Some x ≡ lookup (pointwise nat_eq name) vs → put name (record x { input = Some i }) vs ≡ reading name i vs
reading_known name vs x i at = sym (ap (λ (y : Variable). put name (record y { input = Some i }) vs) (known name vs x at))

pub reading_new : (name : List ℕ) (vs : Variables) (i : Input) → None ≡ lookup (pointwise nat_eq name) vs
    → put name (record (holding null) { input = Some i }) vs ≡ reading name i vs
reading_new name vs i at = sym (ap (λ (y : Variable). put name (record y { input = Some i }) vs) (unknown name vs at))

pub writing_known : (name : List ℕ) (vs : Variables) (x : Variable) (o : Output) → Some x ≡ lookup (pointwise nat_eq name) vs → put name (record x { output = Some o }) vs ≡ writing name o vs
writing_known name vs x o at = sym (ap (λ (y : Variable). put name (record y { output = Some o }) vs) (known name vs x at))

pub writing_new : (name : List ℕ) (vs : Variables) (o : Output) → None ≡ lookup (pointwise nat_eq name) vs
    → put name (record (holding null) { output = Some o }) vs ≡ writing name o vs
writing_new name vs o at = sym (ap (λ (y : Variable). put name (record y { output = Some o }) vs) (unknown name vs at))

pub detached_known : (name : List ℕ) (vs : Variables) (x : Variable) → Some x ≡ lookup (pointwise nat_eq name) vs → put name (holding x.value) vs ≡ detached name vs
detached_known name vs x at = sym (ap (λ (y : Variable). put name (holding y.value) vs) (known name vs x at))

pub detached_new : (name : List ℕ) (vs : Variables) → None ≡ lookup (pointwise nat_eq name) vs → put name (holding null) vs ≡ detached name vs
detached_new name vs at = sym (ap (λ (y : Variable). put name (holding y.value) vs) (unknown name vs at))

pub ruleset associating = (reading_known, reading_new, writing_known, writing_new, detached_known, detached_new, not_named)

-- NAMES

put_same : (name : List ℕ) (vs : Variables) (x : Variable) → lookup (same name) vs ≡ Some x → put name x vs ≡ vs
put_same name [] x h = cc
put_same name (e ∷ es) x h = by (same name e.0) h (λ k. put_same name es x k)
  where
    by : (b : Bool) → cond b (Some e.1) (lookup (same name) es) ≡ Some x → (lookup (same name) es ≡ Some x → put name x es ≡ es)
        → (if b then (e.0, x) ∷ es else e ∷ put name x es) ≡ e ∷ es
    by true g rest = let is : e.1 ≡ x = cc in ap (λ (y : Variable). (e.0, y) ∷ es) (sym is)
    by false g rest = ap (λ l. e ∷ l) (rest g)

-- a variable that is lent and left as it was
pub put_back : (name : List ℕ) (vs : Variables) (x : Variable) → Some x ≡ lookup (pointwise nat_eq name) vs
    → put name (record { value = x.value; input = x.input; output = x.output }) vs ≡ vs
put_back name vs x at = put_same name vs x (sym at)

pub ruleset exchanging = (given_known, output_known, put_back)

-- a name that is there is put as it was
pub noted_known : (name : List ℕ) (vs : Variables) → is_named name vs ≡ true → vs ≡ noted name vs
noted_known name vs h = by (lookup (same name) vs) refl h
  where
    by : (o : Option Variable) → lookup (same name) vs ≡ o → is_some o ≡ true → vs ≡ noted name vs
    by None g k = absurd (let no : false ≡ true = k in cc)
    by (Some x) g k = sym (ap (λ (y : Variable). put name y vs) (known name vs x (sym g)) ∙ put_same name vs x g)

pub noted_new : (name : List ℕ) (vs : Variables) → is_named name vs ≡ false → put name (holding null) vs ≡ noted name vs
noted_new name vs h = by (lookup (same name) vs) refl h
  where
    by : (o : Option Variable) → lookup (same name) vs ≡ o → is_some o ≡ false → put name (holding null) vs ≡ noted name vs
    by None g k = sym (ap (λ (y : Variable). put name y vs) (unknown name vs (sym g)))
    by (Some x) g k = absurd (let no : true ≡ false = k in cc)

pub ruleset naming = (noted_known, noted_new)
