-- What is picked from the parts is the whole.
use Rattle.std.proofs.Common.{◌≡◌, ℕ, Bool, true, false, cond, List, [], ◌∷◌, Option, Some, None, refl, sym, ap, ◌∙◌, arith}
use Rattle.std.specs.{Prelude.{if◌then◌else◌, ◌==◌}, Map.{lookup, keys_of}, List.{AllByRecursion, IsDistinct}}
use Rattle.std.proofs.lemmas.{Bool.Decides.{nat_tests}, Map.Keys.{IsDistinct-head, IsDistinct-tail}}
use Rattle.parts_laws.specs.{Picking.{Decides, part_of, and_if, picked, shown}, Laws.{PickedIsAll}}

pub itself : (n : ℕ) → (n == n) ≡ true
itself n = grind (arith, nat_tests)

apart_back : {K : Type 0} (same : K → K → Bool) → Decides same → (k l : K) → same l k ≡ false → same k l ≡ false
apart_back {K} same decides k l h = by (same k l) refl
  where
    by : (b : Bool) → same k l ≡ b → b ≡ false
    by false e = refl
    by true e = absurd (let c : true ≡ false = sym (ap (λ (x : K). same x k) (sym (decides.alike k l e)) ∙ decides.itself k) ∙ h in cc)

-- none of the others is the first
pub others_apart : {K : Type 0} (same : K → K → Bool) → Decides same → (k : K) (ks : List K) → IsDistinct same (k ∷ ks) → AllByRecursion (λ l. same l k ≡ false) ks
others_apart {K} same decides k ks h = turned ks (IsDistinct-head same k ks h)
  where
    turned : (ks : List K) → AllByRecursion (λ l. same k l ≡ false) ks → AllByRecursion (λ l. same l k ≡ false) ks
    turned [] h = tt
    turned (l ∷ ks) h = (apart_back same decides l k h.0, turned ks h.1)

module _ {K S : Type 0} (same : K → K → Bool) (decides : Decides same) (goes : K → ℕ) where
  -- a key is found in the part that it goes to
  found : (key : K) (entries : List (K × S)) → lookup (same key) (part_of goes (goes key) entries) ≡ lookup (same key) entries
  found key [] = refl
  found key (e ∷ entries) = by (goes e.0 == goes key) refl (same key e.0) refl (found key entries)
    where
      by : (b : Bool) → (goes e.0 == goes key) ≡ b → (a : Bool) → same key e.0 ≡ a → lookup (same key) (part_of goes (goes key) entries) ≡ lookup (same key) entries
          → lookup (same key) (if b then e ∷ part_of goes (goes key) entries else part_of goes (goes key) entries) ≡ cond a (Some e.1) (lookup (same key) entries)
      by true f a g rest = ap (λ (c : Bool). cond c (Some e.1) (lookup (same key) (part_of goes (goes key) entries))) g ∙ ap (λ (o : Option S). cond a (Some e.1) o) rest
      by false f true g rest =
          absurd (let k : true ≡ false = sym (ap (λ (x : K). goes x == goes key) (sym (decides.alike key e.0 g)) ∙ itself (goes key)) ∙ f in cc)
      by false f false g rest = rest

  -- with all entries as the one part
  abbrev over : List (K × S) → List K → List (K × S)
  over entries [] = []
  over entries (key ∷ ks) = and_if key (lookup (same key) entries) (over entries ks)

  from_all : (entries : List (K × S)) (ks : List K) → picked same goes (λ k. part_of goes k entries) ks ≡ over entries ks
  from_all entries [] = refl
  from_all entries (key ∷ ks) =
      ap (λ (o : Option S). and_if key o (picked same goes (λ k. part_of goes k entries) ks)) (found key entries)
      ∙ ap (and_if key (lookup (same key) entries)) (from_all entries ks)

  -- an entry that none of the keys_of is
  skips : (first : K) (o : Option S) (entries : List (K × S)) (ks : List K) → AllByRecursion (λ l. same l first ≡ false) ks → over (and_if first o entries) ks ≡ over entries ks
  skips first o entries [] h = refl
  skips first o entries (key ∷ ks) h =
      ap (λ (r : Option S). and_if key r (over (and_if first o entries) ks)) (passes o) ∙ ap (and_if key (lookup (same key) entries)) (skips first o entries ks h.1)
    where
      passes : (o : Option S) → lookup (same key) (and_if first o entries) ≡ lookup (same key) entries
      passes None = refl
      passes (Some value) = ap (λ (c : Bool). cond c (Some value) (lookup (same key) entries)) h.0

  module _ {V : Type 0} (view : K × V → Option S) where
    none_there : (key : K) (entries : List (K × V)) → AllByRecursion (λ l. same l key ≡ false) (keys_of entries) → lookup (same key) (shown view entries) ≡ None
    none_there key [] h = refl
    none_there key (e ∷ entries) h = by (view e) (none_there key entries h.1)
      where
        by : (o : Option S) → lookup (same key) (shown view entries) ≡ None → lookup (same key) (and_if e.0 o (shown view entries)) ≡ None
        by None rest = rest
        by (Some value) rest = ap (λ (c : Bool). cond c (Some value) (lookup (same key) (shown view entries))) (apart_back same decides key e.0 h.0) ∙ rest

    all_over : (entries : List (K × V)) → IsDistinct same (keys_of entries) → over (shown view entries) (keys_of entries) ≡ shown view entries
    all_over [] h = refl
    all_over (e ∷ entries) h =
        ap (λ (o : Option S). and_if e.0 o (over (and_if e.0 (view e) (shown view entries)) (keys_of entries))) (first (view e))
        ∙ ap (and_if e.0 (view e)) (skips e.0 (view e) (shown view entries) (keys_of entries) (others_apart same decides e.0 (keys_of entries) h) ∙ all_over entries (IsDistinct-tail same e.0 (keys_of entries) h))
      where
        first : (o : Option S) → lookup (same e.0) (and_if e.0 o (shown view entries)) ≡ o
        first None = none_there e.0 entries (others_apart same decides e.0 (keys_of entries) h)
        first (Some value) = ap (λ (c : Bool). cond c (Some value) (lookup (same e.0) (shown view entries))) (decides.itself e.0)

pub picked_is_all : {Key Value Shown : Type 0} → PickedIsAll Key Value Shown
picked_is_all same decides goes view entries apart =
    from_all same decides goes (shown view entries) (keys_of entries) ∙ all_over same decides goes view entries apart

-- all is shown
pub shown_all : {K V : Type 0} (entries : List (K × V)) → shown (λ e. Some e.1) entries ≡ entries
shown_all [] = refl
shown_all {K} {V} (e ∷ entries) = ap (λ (l : List (K × V)). e ∷ l) (shown_all entries)
