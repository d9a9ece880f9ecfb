-- How a host tells that is lent the state of a job and its service.
use Rattle.std.specs.Prelude.{◌≡◌}
use Rattle.interaction.specs.declared.request.Request.{Request}
use Rattle.interaction.specs.declared.answer.Answer.{Answer}
use Rattle.sno_pattern.specs.Looks.{Look, Told}
use Rattle.sno_state.specs.declared.host.Host.{Host}
use Rattle.sno_state.specs.inner.Telling.{StateTells, StateBroken}

-- it holds the same loans, and no statement has begun meanwhile
pub record SameLoans {S : Type 0} (h k : Host S) : Type 0 where
  pub state : k.state.ghost_name ≡ h.state.ghost_name
  pub service : k.service.ghost_name ≡ h.service.ghost_name
  pub counted : k.state.now.keywords.begun ≡ h.state.now.keywords.begun

abbrev pub HostTells : {S : Type 0} → (S → Request → Answer → S → Type 0) → Host S → Look → Told → Host S → Type 0
HostTells answers h look told k = SameLoans h k × StateTells answers (h.state.now, h.service.now) look told (k.state.now, k.service.now)

abbrev pub HostBroken : {S : Type 0} → (S → Request → Answer → S → Type 0) → Host S → Look → Host S → Type 0
HostBroken answers h look k = SameLoans h k × StateBroken answers (h.state.now, h.service.now) look (k.state.now, k.service.now)
