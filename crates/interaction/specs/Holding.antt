-- An interaction held with who replies by a meaning, with no list of what was said (own): for what stands inside.
use Rattle.std.specs.Prelude.{◌≡◌, ◌⊎◌}
use Rattle.interaction.specs.Interactions.{Interaction, Returns, Asks}

-- held from a state of the other on, the interaction ends with this value, and the other is in this state then
abbrev pub RunsTo : {S Q R A : Type 0} → (S → Q → R → S → Type 0) → (Q → R → Type 0) → Interaction Q R A → S → A → S → Type 0
RunsTo meaning fits (Returns a) s b s' = (b ≡ a) × (s' ≡ s)
RunsTo {S} {Q} {R} meaning fits (Asks q f) s b s' = (r : R) × (m : S) × meaning s q r m × fits q r × RunsTo meaning fits (f r) m b s'

-- the interaction was broken off somewhere, with the other in this state then; a question that is not replied to leaves the other
-- as `broken` says
abbrev pub StopsIn : {S Q R A : Type 0} → (S → Q → R → S → Type 0) → (Q → R → Type 0) → (S → Q → S → Type 0) → Interaction Q R A → S → S → Type 0
StopsIn meaning fits broken (Returns a) s s' = s' ≡ s
StopsIn {S} {Q} {R} meaning fits broken (Asks q f) s s' =
    (s' ≡ s) ⊎ (broken s q s' ⊎ ((r : R) × (m : S) × meaning s q r m × fits q r × StopsIn meaning fits broken (f r) m s'))
