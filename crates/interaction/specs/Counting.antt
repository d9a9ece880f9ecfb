-- Interactions that tell of statements that begin, too (own): where one is broken off says how many had begun.
use Rattle.std.specs.Prelude.{◌≡◌, ℕ, ◌+◌, List, [], ◌∷◌, Result, Ok, Err}
use Rattle.interaction.specs.Interactions.{Interaction, Returns, Asks}
use Rattle.interaction.specs.Exchanges as exchanges
use Rattle.interaction.specs.Holding as holding
use Rattle.interaction.specs.declared.request.Request.{Request}
use Rattle.interaction.specs.declared.answer.Answer.{Answer}
use Rattle.interaction.specs.declared.answer.Answer.TheVariants.{Done}
use Rattle.interaction.specs.Fitting.{Fits}
use Rattle.interaction.specs.Asking.{Asking, Exchange}

-- a moment of a program that is told: a statement begins, which is always answered `Done`; or something is asked
pub data Moment : Type 0 where
  Beginning : Moment
  Requesting : Request → Moment

abbrev pub MomentFits : Moment → Answer → Type 0
MomentFits Beginning answer = answer ≡ Done
MomentFits (Requesting request) answer = Fits request answer

-- what is asked until there is an A, with the statements that begin
abbrev pub Counted : Type 0 → Type 0
Counted A = Interaction Moment Answer A

-- a moment with its answer
abbrev pub Passed : Type 0
Passed = exchanges.Exchange Moment Answer

-- what is asked, where no statement begins
abbrev pub lifted : {A : Type 0} → Asking A → Counted A
lifted (Returns a) = Returns a
lifted (Asks request f) = Asks (Requesting request) (λ answer. lifted (f answer))

-- what is asked alone
abbrev pub plain : {A : Type 0} → Counted A → Asking A
plain (Returns a) = Returns a
plain (Asks Beginning f) = plain (f Done)
plain (Asks (Requesting request) f) = Asks request (λ answer. plain (f answer))

-- what was asked meanwhile, and how it was answered
abbrev pub requests_in : List Passed → List Exchange
requests_in [] = []
requests_in (m ∷ x) = elim m.asked [ Beginning ↦ requests_in x | Requesting request ↦ record { asked = request; reply = m.reply } ∷ requests_in x ]

-- how many statements have begun meanwhile
abbrev pub statements_in : List Passed → ℕ
statements_in [] = 0
statements_in (m ∷ x) = elim m.asked [ Beginning ↦ statements_in x + 1 | Requesting request ↦ statements_in x ]

abbrev pub IsTrace : {A : Type 0} → Counted A → List Passed → A → Type 0
IsTrace t x a = exchanges.IsTrace MomentFits t x a

abbrev pub IsTracePrefix : {A : Type 0} → Counted A → List Passed → Type 0
IsTracePrefix t x = exchanges.IsTracePrefix MomentFits t x

-- a service, and beside it how many statements have begun
abbrev pub counting : {S : Type 0} → (S → Request → Answer → S → Type 0) → S × ℕ → Moment → Answer → S × ℕ → Type 0
counting answers s Beginning answer t = t ≡ (s.0, s.1 + 1)
counting answers s (Requesting request) answer t = answers s.0 request answer t.0 × (t.1 ≡ s.1)

abbrev pub RunsTo : {S A : Type 0} → (S → Request → Answer → S → Type 0) → Counted A → S × ℕ → A → S × ℕ → Type 0
RunsTo answers t s a s' = holding.RunsTo (counting answers) MomentFits t s a s'

-- broken off between two moments
abbrev pub StopsIn : {S A : Type 0} → (S → Request → Answer → S → Type 0) → Counted A → S × ℕ → S × ℕ → Type 0
StopsIn answers t s s' = holding.StopsIn (counting answers) MomentFits (λ _ _ _. ⊥) t s s'

-- what a call asks that may lack memory, with the statements that begin in it
abbrev pub Executes : {S A R E : Type 0} → (S → Request → Answer → S → Type 0) → Counted A → S × ℕ → Result R E → (R → A) → S × ℕ → Type 0
Executes answers t s (Ok r) after s' = RunsTo answers t s (after r) s'
Executes answers t s (Err e) after s' = StopsIn answers t s s'
