-- A function that was defined has variables of different names.
use Rattle.std.proofs.Common.{◌≡◌, ℕ, Bool, true, false, ◌&&◌, List, Option, None, Some, refl, sym, Ok, Err}
use Rattle.std.specs.{Prelude.{ok_or, Result, if◌then◌else◌}, List.{list_all}, Option.{option_and_then}}
use Rattle.sno_text.specs.declared.fault.Fault.{Fault}
use Rattle.sno_text.specs.declared.fault.Fault.TheVariants as fault
use Rattle.sno_value.specs.{declared.value.Value.{Value}, Values.{text_of}}
use Rattle.sno_declarations.specs.{Arguments.{go_on}, declared.prototype.Prototype.{Prototype}, declared.definition.Definition.{Definition}}
use Rattle.sno_declarations.specs.Prototypes.{is_identifier, trimmed, items, names_of, are_different, checked, cut_at, prototype_of}
use Rattle.sno_declarations.specs.Definitions.{prototype_in, entry_in, definition_in}

-- what holds wherever there is something
abbrev Somewhere : {A : Type 0} → (A → Type 0) → Option A → Type 0
Somewhere P None = Unit {0}
Somewhere P (Some a) = P a

abbrev Unfaulted : {A : Type 0} → (A → Type 0) → Result A Fault → Type 0
Unfaulted P (Ok a) = P a
Unfaulted P (Err f) = Unit {0}

behind : {A B : Type 0} (P : B → Type 0) (o : Option A) (go : A → Option B) → ((a : A) → Somewhere P (go a)) → Somewhere P (option_and_then go o)
behind P None go h = tt
behind P (Some a) go h = h a

on : {A B : Type 0} (Q : A → Type 0) (P : B → Type 0) (r : Result A Fault) (go : A → Result B Fault) → Unfaulted Q r → ((a : A) → Q a → Unfaulted P (go a)) → Unfaulted P (go_on r go)
on Q P (Ok a) go q h = h a q
on Q P (Err f) go q h = tt

faulted : {A : Type 0} (P : A → Type 0) (f : Fault) (o : Option A) → Somewhere P o → Unfaulted P (ok_or o f)
faulted P f None h = tt
faulted P f (Some a) h = h

abbrev Different : Prototype → Type 0
Different p = are_different (names_of p) ≡ true

checked_different : (p : Prototype) → Somewhere Different (checked p)
checked_different p = by (list_all is_identifier (names_of p)) (are_different (names_of p)) refl
  where
    by : (a b : Bool) → are_different (names_of p) ≡ b → Somewhere Different (if a && b then Some p else None)
    by true true h = h
    by true false h = tt
    by false b h = tt

read_different : (text : List ℕ) → Somewhere Different (prototype_of text)
read_different text = behind Different (cut_at 40 text) _ (λ head. behind Different (cut_at 41 head.1) _ (λ lists. checked_different (record { name = trimmed head.0; parameters = items lists.0; locals = items lists.1 })))

in_different : (v : Value) → Unfaulted Different (prototype_in v)
in_different v = on (λ _. Unit {0}) Different (ok_or (text_of v) fault.WrongType) _ (any (ok_or (text_of v) fault.WrongType)) (λ text h. faulted Different fault.Prototype (prototype_of text) (read_different text))
  where
    any : (r : Result (List ℕ) Fault) → Unfaulted (λ _. Unit {0}) r
    any (Ok a) = tt
    any (Err f) = tt

all_different : (prototype entry : Value) → Unfaulted (λ (d : Definition). Different d.prototype) (definition_in prototype entry)
all_different prototype entry =
    on Different (λ (d : Definition). Different d.prototype) (prototype_in prototype) _ (in_different prototype)
    (λ p h. on (λ _. Unit {0}) (λ (d : Definition). Different d.prototype) (entry_in p.name entry) _ (any (entry_in p.name entry)) (λ label g. h))
  where
    any : (r : Result (List ℕ) Fault) → Unfaulted (λ _. Unit {0}) r
    any (Ok a) = tt
    any (Err f) = tt

pub different : (prototype entry : Value) (d : Definition) → definition_in prototype entry ≡ Ok d → are_different (names_of d.prototype) ≡ true
different prototype entry d is = by (definition_in prototype entry) (all_different prototype entry) is
  where
    by : (r : Result Definition Fault) → Unfaulted (λ (e : Definition). Different e.prototype) r → r ≡ Ok d → are_different (names_of d.prototype) ≡ true
    by (Ok e) h is = let same : e ≡ d = cc in rw (sym same) h
    by (Err f) h is = absurd cc
