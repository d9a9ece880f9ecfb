-- Parts of the definitions by names of their own: for the code and for proofs.
use Rattle.std.specs.Prelude.{ℕ, ℤ, pos, negsuc, List, [], ◌∷◌}
use Rattle.std.specs.List.{repeat}
use Rattle.sno_text.specs.declared.fault.Fault.TheVariants.{Null, Negative}
use Rattle.sno_value.specs.declared.value.Value.TheVariants.{Pattern}
use Rattle.sno_value.specs.declared.outcome.Outcome.{Outcome}
use Rattle.sno_value.specs.declared.outcome.Outcome.TheVariants.{Gives, Faults, Fails}
use Rattle.sno_value.specs.declared.primitive.NumberPattern.{NumberPattern}
use Rattle.sno_value.specs.declared.primitive.CharacterPattern.{CharacterPattern}
use Rattle.sno_value.specs.Outcomes.{string}
use Rattle.sno_value.specs.Primitives.{character_pattern, number_pattern}

-- so many of a text; it fails for a negative number
abbrev pub copies : ℕ → List ℕ → ℤ → Outcome
copies most t (pos n) = string most (repeat n t)
copies most t (negsuc n) = Fails

abbrev pub at_number : NumberPattern → ℤ → Outcome
at_number kind (pos n) = Gives (Pattern (number_pattern kind n))
at_number kind (negsuc n) = Faults Negative

abbrev pub among : CharacterPattern → List ℕ → Outcome
among kind [] = Faults Null
among kind (c ∷ cs) = Gives (Pattern (character_pattern kind (c ∷ cs)))
