-- The two decks look alike, and differ.
use Rattle.std.proofs.Common.{◌≡◌, ℕ, length, refl, ap, arith}
use Rattle.mon_monitor.specs.Example.{TheyAgree}
use Rattle.deck_run.specs.Example.{TheyLookAlike}

pub they_look_alike : TheyAgree → TheyLookAlike
they_look_alike agree = (
  record {
    accounts = refl;
    known = refl;
    asked = refl;
    own = (refl, tt);
    ending = tt;
    sets = agree.0.scheduler.sets;
  },
  (λ same. absurd (let no : ◌≡◌ {A = ℕ} 149 141 = ap length same in omega arith)),
)
