-- Permissions as the bits of one number: 4 to read, 2 to write, 1 to execute (own).
use Rattle.std.specs.Prelude.{◌≡◌, refl, ℕ, zero, suc, ◌+◌, ◌<◌, ◌==◌, Bool, not, if◌then◌else◌}
use Rattle.std.specs.Int.RustNames.{bit_and}
use Rattle.std.proofs.Common.{arith}
use Rattle.mon_acl.specs.Rights.{Rights}

-- whether a number has a bit
abbrev pub has_bit : ℕ → ℕ → Bool
has_bit bits place = not (bit_and bits place == 0)

-- the permissions of a number's bits
abbrev pub rights_of : ℕ → Rights
rights_of bits = record { read = has_bit bits 4; write = has_bit bits 2; execute = has_bit bits 1 }

-- the number whose bits they are
abbrev pub bits_of : Rights → ℕ
bits_of rights = (if rights.read then 4 else 0) + (if rights.write then 2 else 0) + (if rights.execute then 1 else 0)

-- what holds at the numbers 0 to 7
pub each : (P : ℕ → Type 0) → P 0 → P 1 → P 2 → P 3 → P 4 → P 5 → P 6 → P 7 → (b : ℕ) → b < 8 → P b
each P p q r s t u v w zero h = p
each P p q r s t u v w (suc zero) h = q
each P p q r s t u v w (suc (suc zero)) h = r
each P p q r s t u v w (suc (suc (suc zero))) h = s
each P p q r s t u v w (suc (suc (suc (suc zero)))) h = t
each P p q r s t u v w (suc (suc (suc (suc (suc zero))))) h = u
each P p q r s t u v w (suc (suc (suc (suc (suc (suc zero)))))) h = v
each P p q r s t u v w (suc (suc (suc (suc (suc (suc (suc zero))))))) h = w
each P p q r s t u v w (suc (suc (suc (suc (suc (suc (suc (suc n)))))))) h = absurd (omega arith)

-- permissions give back the number whose bits they are
pub bits_back : (b : ℕ) → b < 8 → bits_of (rights_of b) ≡ b
bits_back = each (λ b. bits_of (rights_of b) ≡ b) refl refl refl refl refl refl refl refl
