-- Data sets that are copied where they are shared.
use Rattle.std.proofs.Common.{◌≡◌, ◌⊎◌, ⊎_elim}
use Rattle.mon_monitor.proofs.Common.{Sets}

-- the old ones or a copy of them are the same
pub same_sets : (sets old : Sets) → (sets ≡ old) ⊎ (sets ≡ old) → sets ≡ old
same_sets sets old either = ⊎_elim (λ e. e) (λ e. e) either
