-- What a match is told of a variable whose value stands in the store.
use Rattle.std.proofs.Common.{◌≡◌, ℕ, List, refl, sym, ap, subst}
use Rattle.std.specs.Prelude.{Result, Ok, Err}
use Rattle.interaction.{specs.Interactions.{Returns, ◌>>=◌}, proofs.Held.{cut_here}, specs.declared.request.Request.{Request}, specs.Fitting.{Fits}}
use Rattle.interaction.specs.{declared.answer.Answer.{Answer}, Asking.{Asking, RunsTo}}
use Rattle.sno_pattern.specs.{declared.host.Looked.{Looked}, declared.host.Stop.{Stop}, Looks.{Look, LookUp, Told, Found, Faulty, Refused}, Hosts.{WasFound}}
use Rattle.sno_pattern.specs.declared.host.Stop.TheVariants as stop
use Rattle.sno_store.specs.declared.store.Store.{Store as State}
use Rattle.sno_value.specs.declared.value.Value.{Value}
use Rattle.sno_variables.specs.Variables.{Use, Gives, use_of, variable_of}
use Rattle.sno_state.specs.{Using.{used_by}, Matching.{looked_at, told_by, looking}, inner.Telling.{Looks, StateTells, StateBroken}}

pub value_is : (v : List ℕ) (s : State) (value : Value) → Gives value ≡ use_of (variable_of v s.variables)
    → looking (LookUp v) s ≡ Returns (looked_at value, s)
value_is v s value e = ap (λ (u : Use). used_by v u s >>= (λ got. Returns (told_by looked_at got.0, got.1))) (sym e)

module _ {S : Type 0} (answers : S → Request → Answer → S → Type 0) (s : State) (u : S) (look : Look) where
  pub broken_at_once : StateBroken answers (s, u) look (s, u)
  broken_at_once = cut_here answers Fits (λ _ _ _. ⊥) (looking look s) u

  pub told_at_once : (told : Told) → looking look s ≡ Returns (told, s) → StateTells answers (s, u) look told (s, u)
  told_at_once told e = subst (λ (t : Asking (Told × State)). RunsTo answers t u (told, s) u) (sym e) (refl, refl)

  pub found_at_once : (told : Told) → looking look s ≡ Returns (told, s) → (r : Result Looked Stop) → Looks r told
      → WasFound (StateTells answers) (StateBroken answers) (s, u) look r (s, u)
  found_at_once told e (Ok looked) h = told_at_once (Found looked) (subst (λ (t : Told). looking look s ≡ Returns (t, s)) h e)
  found_at_once told e (Err (stop.Fault f)) h = told_at_once (Faulty f) (subst (λ (t : Told). looking look s ≡ Returns (t, s)) h e)
  found_at_once told e (Err stop.Fail) h = told_at_once Refused (subst (λ (t : Told). looking look s ≡ Returns (t, s)) h e)
  found_at_once told e (Err stop.Memory) h = broken_at_once
