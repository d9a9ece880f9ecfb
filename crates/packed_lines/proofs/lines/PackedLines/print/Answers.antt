-- Bytes that are one are that byte.
use Rattle.std.proofs.Common.{◌≡◌, ap, ℕ, ◌≤◌, ◌<◌, List, [], ◌∷◌, ◌++◌, length, get_or, refl, arith}
use Rattle.std.specs.List.{flat_map}
use Rattle.mon_device.proofs.Putting.{puts_same}
use Rattle.packed_lines.proofs.lines.PackedLines.print.Goals as goal

one_byte : (bytes : List ℕ) → 1 ≤ length bytes → length bytes < 2 → get_or bytes 0 0 ∷ [] ≡ bytes
one_byte [] l h = absurd (omega arith)
one_byte (b ∷ []) l h = refl
one_byte (b ∷ c ∷ bytes) l h = absurd (omega (arith, h))

pub returns-in-len1 : goal.returns-in-len1
returns-in-len1 g c =
    puts_same _ _ _ _
    (ap (λ (before : List ℕ). flat_map (λ (line : List ℕ). before ++ line ++ 10 ∷ []) c.args.self.now)
    (one_byte c.args.before.now c.in-len1.len_at_least c.in-len1.len_below)) c.print_gathered.ensures
