-- What a host that holds loans leaves.
use Rattle.std.proofs.Common.{refl, ◌∙◌}
use Rattle.interaction.specs.{Interactions.{Interaction, interpreted}, declared.request.Request.{Request}, declared.answer.Answer.{Answer}}
use Rattle.interaction.specs.{Fitting.{Fits as Suits}, Asking.{RunsTo, StopsIn}}
use Rattle.interaction.proofs.{Held.{held_keeps, cut_keeps}, Hosts.{held_through, cut_through}}
use Rattle.interaction.specs.Holding as holding
use Rattle.sno_pattern.specs.Looks.{Look, Told, Fits}
use Rattle.sno_state.specs.{declared.host.Host.{Host}, Matching.{looking}, inner.Lent.{SameLoans, HostTells, HostBroken}}

module _ {S : Type 0} (answers : S → Request → Answer → S → Type 0) where
  same_here : (h : Host S) → SameLoans h h
  same_here h = record { state = refl; service = refl; counted = refl }

  same_then : (h k l : Host S) → SameLoans h k → SameLoans k l → SameLoans h l
  same_then h k l p q = record { state = q.state ∙ p.state; service = q.service ∙ p.service; counted = q.counted ∙ p.counted }

  pub held_loans : {A : Type 0} (t : Interaction Look Told A) (h : Host S) (v : A) (k : Host S)
      → holding.RunsTo (HostTells answers) Fits t h v k → SameLoans h k
  held_loans = held_keeps (HostTells answers) Fits (HostBroken answers) SameLoans same_here same_then (λ a q r b x. x.0) (λ a q b x. x.0)

  pub cut_loans : {A : Type 0} (t : Interaction Look Told A) (h k : Host S)
      → holding.StopsIn (HostTells answers) Fits (HostBroken answers) t h k → SameLoans h k
  cut_loans = cut_keeps (HostTells answers) Fits (HostBroken answers) SameLoans same_here same_then (λ a q r b x. x.0) (λ a q b x. x.0)

  -- the match with the host is an interaction with the service
  pub held_service : {A : Type 0} (t : Interaction Look Told A) (h : Host S) (v : A) (k : Host S)
      → holding.RunsTo (HostTells answers) Fits t h v k
      → RunsTo answers (interpreted looking t h.state.now) h.service.now (v, k.state.now) k.service.now
  held_service = held_through answers Suits looking (λ h. h.state.now) (λ h. h.service.now) (HostTells answers) Fits (λ a q r b x. x.1)

  pub cut_service : {A : Type 0} (t : Interaction Look Told A) (h k : Host S)
      → holding.StopsIn (HostTells answers) Fits (HostBroken answers) t h k
      → StopsIn answers (interpreted looking t h.state.now) h.service.now k.service.now
  cut_service = cut_through answers Suits looking (λ h. h.state.now) (λ h. h.service.now) (HostTells answers) Fits (λ a q r b x. x.1) (λ _ _ _. ⊥) (HostBroken answers) (λ a q b x. x.1)
