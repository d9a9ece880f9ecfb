-- Before the first event all slots are empty, so catalogues that look alike are all that is asked.
use Rattle.std.proofs.Common.{◌≡◌, ℕ, zero, suc, Some, None, refl, ap, replicate, slice_get}
use Rattle.mon_monitor.proofs.{Common.{option_flatten, SlotState, seat_at, first_system, printouts_text, FromTheBeginning}, Agreeing.{isolated}}

no_job : (n i : ℕ) (slot : SlotState) → option_flatten (slice_get (replicate n None) i) ≡ Some slot → ⊥
no_job zero i slot h = cc
no_job (suc n) zero slot h = cc
no_job (suc n) (suc i) slot h = no_job n i slot h

no_job_at : (n s : ℕ) (slot : SlotState) → seat_at s (replicate n None) ≡ Some slot → ⊥
no_job_at n zero slot h = cc
no_job_at n (suc i) slot h = no_job n i slot h

pub from_the_beginning : FromTheBeginning
from_the_beginning slots accounts account sets others known differ alike E own m =
    ap printouts_text (isolated account (first_system slots accounts sets) (first_system slots accounts others) (record {
      accounts = refl;
      known = known;
      scheduler = record {
        slots = refl;
        own = λ s slot h. absurd (no_job_at slots s slot h);
        names = differ;
        sets = alike;
        ties = λ s slot h. absurd (no_job_at slots s slot h);
      };
    }) E own m).printouts
