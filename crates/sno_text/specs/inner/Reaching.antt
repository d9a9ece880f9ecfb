-- Where patterns end that end in one place or nowhere, and where the next part with its parentheses in pairs does.
use Rattle.std.specs.Prelude.{ℕ, zero, suc, ◌+◌, ◌-◌, ◌≤◌, List, [], ◌∷◌, length, drop, Bool, true, false, not, ◌&&◌, if◌then◌else◌, nat_eq, nat_le, nat_lt, Option, Some, None}
use Rattle.std.specs.List.{starts_with, prefix_len, position_or_len}
use Rattle.sno_text.specs.Patterns.{Pattern}
use Rattle.sno_text.specs.Patterns as pattern
use Rattle.sno_text.specs.declared.reach.Reach.{Reach}
use Rattle.sno_text.specs.declared.reach.Reach.TheVariants.{Here, Nowhere, Depends}
use Rattle.sno_text.specs.Sets.{is_one_of}
use Rattle.sno_text.specs.Balance.{balanced_ends}
use Rattle.mon_text.specs.Beginnings.{first_passes}

abbrev pub here_if : Bool → ℕ → Reach
here_if holds c = if holds then Here c else Nowhere

-- where the rows go on that do so at one cursor, if at any
abbrev pub reached : List ℕ → Pattern → ℕ → Reach
reached text (pattern.Text s) c = here_if (starts_with nat_eq (drop c text) s) (c + length s)
reached text (pattern.Len k) c = here_if (nat_le (c + k) (length text)) (c + k)
reached text (pattern.Pos k) c = here_if (nat_eq c k) c
reached text (pattern.RPos k) c = here_if (nat_eq (c + k) (length text)) c
reached text (pattern.Tab k) c = here_if (nat_le c k && nat_le k (length text)) k
reached text (pattern.RTab k) c = here_if (nat_le (c + k) (length text)) (length text - k)
reached text pattern.Rem c = Here (length text)
reached text (pattern.Any s) c = here_if (first_passes (is_one_of s) (drop c text)) (c + 1)
reached text (pattern.NotAny s) c = here_if (first_passes (λ x. not (is_one_of s x)) (drop c text)) (c + 1)
reached text (pattern.Span s) c = here_if (first_passes (is_one_of s) (drop c text)) (c + prefix_len (is_one_of s) (drop c text))
reached text (pattern.Break s) c =
    here_if (nat_lt (c + position_or_len (is_one_of s) (drop c text)) (length text)) (c + position_or_len (is_one_of s) (drop c text))
reached text pattern.Fail c = Nowhere
reached text _ c = Depends

-- with so many `(` open before it, a text closes them all, and no `)` stands in it where none is open
abbrev pub closes : ℕ → List ℕ → Bool
closes zero [] = true
closes (suc k) [] = false
closes zero (x ∷ xs) = if nat_eq x 40 then closes 1 xs else if nat_eq x 41 then false else closes zero xs
closes (suc k) (x ∷ xs) = if nat_eq x 40 then closes (suc (suc k)) xs else if nat_eq x 41 then closes k xs else closes (suc k) xs

-- how many `(` are open after one more character
abbrev pub open_after : ℕ → ℕ → Option ℕ
open_after zero x = if nat_eq x 40 then Some 1 else if nat_eq x 41 then None else Some zero
open_after (suc k) x = if nat_eq x 40 then Some (suc (suc k)) else if nat_eq x 41 then Some k else Some (suc k)

-- the next end, and those after it
abbrev pub next_and_on : List ℕ → Option ℕ → List ℕ
next_and_on text None = []
next_and_on text (Some e) = e ∷ balanced_ends text e

abbrev pub is_nowhere : Reach → Bool
is_nowhere Nowhere = true
is_nowhere (Here c) = false
is_nowhere Depends = false

abbrev pub IsWithin : ℕ → Reach → Type 0
IsWithin l (Here c) = c ≤ l
IsWithin l Nowhere = Unit {0}
IsWithin l Depends = Unit {0}
