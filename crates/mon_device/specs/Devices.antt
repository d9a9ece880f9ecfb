-- What a reader or a writer tells of its bytes (own): some of them, or nothing at all.
use Rattle.std.specs.Prelude.{◌≡◌, ◌≤◌, ℕ, ◌+◌, List, [], ◌++◌, min, Option, Some, None, IfSome}
use Rattle.std.specs.Option.{option_map}

-- a reader that had the first bytes left gave these, and has the last ones left now
abbrev pub Gives : Option (List ℕ) → List ℕ → Option (List ℕ) → Type 0
Gives None given after = Unit {0}
Gives (Some before) given None = ⊥
Gives (Some before) given (Some after) = before ≡ given ++ after

-- no bytes are left, as far as the reader tells
abbrev pub IsAtEnd : Option (List ℕ) → Type 0
IsAtEnd told = IfSome told (λ left. left ≡ [])

-- what a writer holds after these bytes more, where it tells
abbrev pub holding : Option (List ℕ) → List ℕ → Option (List ℕ)
holding told bytes = option_map (λ held. held ++ bytes) told

-- a count of reads after one read more: it stays where the numbers of 64 bits end
abbrev pub one_more : ℕ → ℕ
one_more reads = min (reads + 1) 18446744073709551615

-- between the two counts of reads lie at least so many, as far as the numbers of 64 bits tell
abbrev pub HasRead : ℕ → ℕ → ℕ → Type 0
HasRead count before after = min (before + count) 18446744073709551615 ≤ after

-- a writer that held the first has taken bytes from the front, and has not taken what is left
abbrev pub HasTaken : Option (List ℕ) → Option (List ℕ) → List ℕ → List ℕ → Type 0
HasTaken held now bytes left = (taken : List ℕ) × (now ≡ holding held taken) × (bytes ≡ taken ++ left)
