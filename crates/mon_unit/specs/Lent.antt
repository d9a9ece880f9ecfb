-- How the service answers that is lent the data sets and the units (own).
use Rattle.std.specs.Prelude.{◌≡◌, List}
use Rattle.mon_guard.specs.declared.cache.CachedDecision.{CachedDecision}
use Rattle.interaction.specs.declared.request.Request.{Request}
use Rattle.interaction.specs.declared.answer.Answer.{Answer}
use Rattle.mon_unit.specs.declared.service.UnitService.{UnitService}
use Rattle.mon_unit.specs.State.{UnitState}
use Rattle.mon_unit.specs.Serving.{Reach, serve}

-- what it is lent, as that is now
abbrev pub reach_of : UnitService → Reach
reach_of s = record { sets = s.catalogue.now; units = s.units.now }

-- it is for the same account and holds the same loans
pub record SameLoans (s t : UnitService) : Type 0 where
  pub account : t.account ≡ s.account
  pub guard : t.guard.ghost_name ≡ s.guard.ghost_name
  pub catalogue : t.catalogue.ghost_name ≡ s.catalogue.ghost_name
  pub units : t.units.ghost_name ≡ s.units.ghost_name

-- and what they lend is as `serve` leaves it
abbrev pub UnitAnswers : UnitService → Request → Answer → UnitService → Type 0
UnitAnswers s request answer t = SameLoans s t × (serve s.account.now (reach_of s) request ≡ (answer, reach_of t))

-- the guard's decisions and the units are these, and all else is as it was
abbrev pub left_with : UnitService → List CachedDecision → UnitState → UnitService
left_with s cache units = record s { guard = record s.guard { now = cache }; units = record s.units { now = units } }
