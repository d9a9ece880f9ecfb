-- What turns are given over, beside the slots.
use Rattle.std.specs.Prelude.{◌≡◌}
use Rattle.mon_device.specs.Putting.{Standing}
use Rattle.mon_catalogue.specs.Sets.{Sets}
use Rattle.scheduler.specs.declared.floor.Floor.{Floor}
use Rattle.scheduler.specs.declared.slots.Slots.{Slots}
use Rattle.scheduler.specs.Abstraction.{slots_in}
use Rattle.scheduler.specs.States.{SchedulerState, scheduler}

-- the data sets and the jobs, as they stand
abbrev pub scheduler_in : {S : Type 0} → Slots → Floor S → SchedulerState
scheduler_in slots floor = scheduler floor.catalogue.now (slots_in slots)

-- it holds the same loans
abbrev pub SameLoans : {S : Type 0} → Floor S → Floor S → Type 0
SameLoans f g = (g.guard.ghost_name ≡ f.guard.ghost_name) × (g.catalogue.ghost_name ≡ f.catalogue.ghost_name) × (g.audit.ghost_name ≡ f.audit.ghost_name)

-- what this says of the data sets and of how the audit stands, before and then
abbrev pub Between : {S : Type 0} → (S → Standing) → (Sets → Sets → Standing → Standing → Type 0) → Floor S → Floor S → Type 0
Between standing says f g = says f.catalogue.now g.catalogue.now (standing f.audit.now) (standing g.audit.now)
