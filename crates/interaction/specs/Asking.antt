-- What programs ask of a service (own): interactions of requests and answers.
use Rattle.std.specs.Prelude.{List, Result, Ok, Err}
use Rattle.interaction.specs.Interactions as talks
use Rattle.interaction.specs.Exchanges as exchanges
use Rattle.interaction.specs.Holding as holding
use Rattle.interaction.specs.declared.request.Request.{Request}
use Rattle.interaction.specs.declared.answer.Answer.{Answer}
use Rattle.interaction.specs.Fitting.{Fits}

-- what is asked until there is an A
abbrev pub Asking : Type 0 → Type 0
Asking A = talks.Interaction Request Answer A

abbrev pub Exchange : Type 0
Exchange = exchanges.Exchange Request Answer

abbrev pub IsTrace : {A : Type 0} → Asking A → List Exchange → A → Type 0
IsTrace t x a = exchanges.IsTrace Fits t x a

abbrev pub IsTracePrefix : {A : Type 0} → Asking A → List Exchange → Type 0
IsTracePrefix t x = exchanges.IsTracePrefix Fits t x

abbrev pub RunsTo : {S A : Type 0} → (S → Request → Answer → S → Type 0) → Asking A → S → A → S → Type 0
RunsTo answers t s a s' = holding.RunsTo answers Fits t s a s'

-- broken off between two requests, as a request that has no answer changes nothing
abbrev pub StopsIn : {S A : Type 0} → (S → Request → Answer → S → Type 0) → Asking A → S → S → Type 0
StopsIn answers t s s' = holding.StopsIn answers Fits (λ _ _ _. ⊥) t s s'

-- what a call asks that may lack memory: its interaction was held to the end, from one state to the other, and gave what the call
-- came to; or it was broken off
abbrev pub Executes : {S A R E : Type 0} → (S → Request → Answer → S → Type 0) → Asking A → S → Result R E → (R → A) → S → Type 0
Executes answers t s (Ok r) after s' = RunsTo answers t s (after r) s'
Executes answers t s (Err e) after s' = StopsIn answers t s s'
