-- Whether units are tied to one data set can be told.
use Rattle.std.proofs.Common.{◌≡◌, ℕ, suc, Bool, true, false, List, [], ◌∷◌, Option, Some, None, option_map, refl, ap, sym, ◌∙◌, subst, ◌||◌, slice_get}
use Rattle.scheduler.proofs.Common.{list_any, bytes_decides, slice_get-map, any_passes_from_place, Tie, Target, Untied, Data, Spool, Set, UnitState, is_set, meets, share, TiedTo}

-- some place passes
pub record Place {A : Type 0} (test : A → Bool) (xs : List A) : Type 0 where
  pub at : ℕ
  pub item : A
  pub is : slice_get xs at ≡ Some item
  pub passes : test item ≡ true

pub any_place : {A : Type 0} (test : A → Bool) (xs : List A) → list_any test xs ≡ true → Place test xs
any_place test [] h = absurd cc
any_place test (x ∷ xs) h = by (test x) refl h (λ e. any_place test xs e)
  where
    by : (b : Bool) → test x ≡ b → (b || list_any test xs) ≡ true → (list_any test xs ≡ true → Place test xs) → Place test (x ∷ xs)
    by true e h rest = record { at = 0; item = x; is = refl; passes = e }
    by false e h rest = let p = rest h in record { at = suc p.at; item = p.item; is = p.is; passes = p.passes }

is_set_is : (name : List ℕ) (t : Target) → is_set name t ≡ true → t ≡ Set name
is_set_is name Untied e = absurd cc
is_set_is name Data e = absurd cc
is_set_is name Spool e = absurd cc
is_set_is name (Set other) e = ap (λ (n : List ℕ). Set n) (sym ((bytes_decides name other).0 e))

set_is : (name : List ℕ) (t : Target) → t ≡ Set name → is_set name t ≡ true
set_is name t e = subst (λ (x : Target). is_set name x ≡ true) (sym e) ((bytes_decides name name).1 refl)

tied_at : (u : UnitState) (k : ℕ) (tie : Tie) (name : List ℕ) → slice_get u.ties k ≡ Some tie → tie.target ≡ Set name → TiedTo u name
tied_at u k tie name e t = (k, slice_get-map (λ (x : Tie). x.target) u.ties k ∙ ap (option_map (λ (x : Tie). x.target)) e ∙ ap (λ (x : Target). Some x) t)

record Tied (u : UnitState) (name : List ℕ) : Type 0 where
  pub at : ℕ
  pub tie : Tie
  pub is : slice_get u.ties at ≡ Some tie
  pub target : tie.target ≡ Set name

tied_tie : (u : UnitState) (name : List ℕ) → TiedTo u name → Tied u name
tied_tie u name h = by (slice_get u.ties h.0) refl (sym (slice_get-map (λ (x : Tie). x.target) u.ties h.0) ∙ h.1)
  where
    by : (o : Option Tie) → slice_get u.ties h.0 ≡ o → option_map (λ (x : Tie). x.target) o ≡ Some (Set name) → Tied u name
    by None e q = absurd cc
    by (Some tie) e q = record { at = h.0; tie = tie; is = e; target = cc (q) }

-- a data set that both are tied to
pub record Shared (u v : UnitState) : Type 0 where
  pub name : List ℕ
  pub one : TiedTo u name
  pub other : TiedTo v name

pub shared_set : (u v : UnitState) → share u v ≡ true → Shared u v
shared_set u v h =
    let p = any_place (λ (t : Tie). meets t.target v.ties) u.ties h in
    by p.at p.item p.is p.item.target refl p.passes
  where
    by : (k : ℕ) (tie : Tie) → slice_get u.ties k ≡ Some tie → (t : Target) → tie.target ≡ t → meets t v.ties ≡ true → Shared u v
    by k tie is Untied e m = absurd cc
    by k tie is Data e m = absurd cc
    by k tie is Spool e m = absurd cc
    by k tie is (Set name) e m =
        let q = any_place (λ (t : Tie). is_set name t.target) v.ties m in
        record { name = name; one = tied_at u k tie name is e; other = tied_at v q.at q.item name q.is (is_set_is name q.item.target q.passes) }

pub they_share : (u v : UnitState) (name : List ℕ) → TiedTo u name → TiedTo v name → share u v ≡ true
they_share u v name one other =
    let a = tied_tie u name one in
    let b = tied_tie v name other in
    let met : meets (Set name) v.ties ≡ true = any_passes_from_place (λ (t : Tie). is_set name t.target) v.ties b.at b.tie b.is (set_is name b.tie.target b.target) in
    any_passes_from_place (λ (t : Tie). meets t.target v.ties) u.ties a.at a.tie a.is (subst (λ (t : Target). meets t v.ties ≡ true) (sym a.target) met)
