-- What is asked of permissions, as their bits answer it.
use Rattle.std.specs.{Prelude.{◌≡◌, refl, ℕ, ◌<◌, nat_eq}, Int.RustNames.{bit_and}}
use Rattle.mon_acl.specs.{Permissions.{holds, common}, inner.Bits.{rights_of, each}}

-- what holds of any two of the numbers 0 to 7
each_two : (P : ℕ → ℕ → Type 0) → ((b : ℕ) → b < 8 → P 0 b) → ((b : ℕ) → b < 8 → P 1 b) → ((b : ℕ) → b < 8 → P 2 b) → ((b : ℕ) → b < 8 → P 3 b)
    → ((b : ℕ) → b < 8 → P 4 b) → ((b : ℕ) → b < 8 → P 5 b) → ((b : ℕ) → b < 8 → P 6 b) → ((b : ℕ) → b < 8 → P 7 b)
    → (a b : ℕ) → a < 8 → b < 8 → P a b
each_two P p q r s t u v w a b la = each (λ a. (b : ℕ) → b < 8 → P a b) p q r s t u v w a la b

-- permissions hold those of a request where its bits are among theirs
abbrev Held : ℕ → ℕ → Type 0
Held a b = nat_eq (bit_and a b) b ≡ holds (rights_of a) (rights_of b)

pub held : (a b : ℕ) → a < 8 → b < 8 → Held a b
held = each_two Held (each (Held 0) refl refl refl refl refl refl refl refl) (each (Held 1) refl refl refl refl refl refl refl refl)
    (each (Held 2) refl refl refl refl refl refl refl refl) (each (Held 3) refl refl refl refl refl refl refl refl)
    (each (Held 4) refl refl refl refl refl refl refl refl) (each (Held 5) refl refl refl refl refl refl refl refl)
    (each (Held 6) refl refl refl refl refl refl refl refl) (each (Held 7) refl refl refl refl refl refl refl refl)

-- the bits of both are those of the permissions that both hold
abbrev Both : ℕ → ℕ → Type 0
Both a b = rights_of (bit_and a b) ≡ common (rights_of a) (rights_of b)

pub both : (a b : ℕ) → a < 8 → b < 8 → Both a b
both = each_two Both (each (Both 0) refl refl refl refl refl refl refl refl) (each (Both 1) refl refl refl refl refl refl refl refl)
    (each (Both 2) refl refl refl refl refl refl refl refl) (each (Both 3) refl refl refl refl refl refl refl refl)
    (each (Both 4) refl refl refl refl refl refl refl refl) (each (Both 5) refl refl refl refl refl refl refl refl)
    (each (Both 6) refl refl refl refl refl refl refl refl) (each (Both 7) refl refl refl refl refl refl refl refl)
