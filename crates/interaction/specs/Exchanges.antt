-- The exchanges of an interaction, and of who replies (own).
use Rattle.std.specs.Prelude.{◌≡◌, List, [], ◌∷◌, map}
use Rattle.interaction.specs.Interactions.{Interaction, Returns, Asks}

-- a question with its reply
pub record Exchange (Q R : Type 0) : Type 0 where
  pub asked : Q
  pub reply : R

abbrev pub replies : {Q R : Type 0} → List (Exchange Q R) → List R
replies exchanges = map (λ e. e.reply) exchanges

-- the interaction may make these exchanges, with replies that fit, and then ends with this value
abbrev pub IsTrace : {Q R A : Type 0} → (Q → R → Type 0) → Interaction Q R A → List (Exchange Q R) → A → Type 0
IsTrace fits (Returns a) [] b = b ≡ a
IsTrace fits (Returns a) (e ∷ x) b = ⊥
IsTrace fits (Asks q f) [] b = ⊥
IsTrace fits (Asks q f) (e ∷ x) b = (e.asked ≡ q) × fits q e.reply × IsTrace fits (f e.reply) x b

-- the interaction may begin with these exchanges, with replies that fit, whatever more it has to ask
abbrev pub IsTracePrefix : {Q R A : Type 0} → (Q → R → Type 0) → Interaction Q R A → List (Exchange Q R) → Type 0
IsTracePrefix fits t [] = Unit {0}
IsTracePrefix fits (Returns a) (e ∷ x) = ⊥
IsTracePrefix fits (Asks q f) (e ∷ x) = (e.asked ≡ q) × fits q e.reply × IsTracePrefix fits (f e.reply) x

-- who replies by this meaning goes by these exchanges from the first state to the last
abbrev pub AnswersAll : {S Q R : Type 0} → (S → Q → R → S → Type 0) → S → List (Exchange Q R) → S → Type 0
AnswersAll meaning s [] s' = s' ≡ s
AnswersAll {S} meaning s (e ∷ x) s' = (m : S) × meaning s e.asked e.reply m × AnswersAll meaning m x s'
