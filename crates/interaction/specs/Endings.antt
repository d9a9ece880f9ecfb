-- What an interaction ends with, whatever is replied (own).
use Rattle.interaction.specs.Interactions.{Interaction, Returns, Asks}

-- whatever is replied, it ends with a value like that
abbrev pub EndsIn : {Q R A : Type 0} → (A → Type 0) → Interaction Q R A → Type 0
EndsIn P (Returns a) = P a
EndsIn {Q} {R} P (Asks q f) = (r : R) → EndsIn P (f r)
