-- What a match does with what the host has found: for the code and for proofs.
use Rattle.std.specs.Prelude.{ℕ}
use Rattle.sno_text.specs.Patterns.{Pattern}
use Rattle.sno_pattern.specs.Looks.{Told, Found, Faulty}
use Rattle.sno_pattern.specs.Steps.{Failure, Fault, Trying, ends, pattern_found}

-- how it goes on with what the host told: with what was found
abbrev pub with_found : Told → ℕ → (Pattern → Trying) → Trying
with_found told n go = elim told [ Found looked ↦ go (pattern_found looked) | Faulty f ↦ ends (Fault f) n | other ↦ ends Failure n ]
