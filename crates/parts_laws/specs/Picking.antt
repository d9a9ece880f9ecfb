-- Entries by their keys, in parts (own).
use Rattle.std.specs.Prelude.{◌≡◌, ℕ, ◌==◌, Bool, true, List, [], ◌∷◌, filter, Option, Some, None}
use Rattle.std.specs.Map.{lookup}

-- a test on keys that decides whether they are the same
pub record Decides {K : Type 0} (same : K → K → Bool) : Type 0 where
  pub itself : (k : K) → same k k ≡ true
  pub alike : (k l : K) → same k l ≡ true → k ≡ l

-- the entries of a part
abbrev pub part_of : {K V : Type 0} → (K → ℕ) → ℕ → List (K × V) → List (K × V)
part_of goes k entries = filter (λ e. goes e.0 == k) entries

abbrev pub and_if : {K V : Type 0} → K → Option V → List (K × V) → List (K × V)
and_if key None later = later
and_if key (Some value) later = (key, value) ∷ later

-- for each of these keys, in this order, its entry in the part that it goes to, if there is one
abbrev pub picked : {K V : Type 0} → (K → K → Bool) → (K → ℕ) → (ℕ → List (K × V)) → List K → List (K × V)
picked same goes parts [] = []
picked same goes parts (key ∷ ks) = and_if key (lookup (same key) (parts (goes key))) (picked same goes parts ks)

-- what is shown of entries: of each something, or nothing
abbrev pub shown : {K V S : Type 0} → (K × V → Option S) → List (K × V) → List (K × S)
shown view [] = []
shown view (e ∷ entries) = and_if e.0 (view e) (shown view entries)
