-- What events change (own).
use Rattle.std.specs.Prelude.{ℕ, List, None, replicate}
use Rattle.mon_access.specs.declared.account.Account.{Account}
use Rattle.mon_catalogue.specs.Sets.{Sets}
use Rattle.scheduler.specs.States.{SchedulerState, scheduler}

-- the account table, which stays; and the data sets, and the slots with their jobs
pub record SystemState : Type 0 where
  pub accounts : List Account
  pub scheduler : SchedulerState

-- before the first event all slots are empty
abbrev pub first_system : ℕ → List Account → Sets → SystemState
first_system slots accounts sets = record { accounts = accounts; scheduler = record { sets = sets; slots = replicate slots None } }

abbrev pub with_scheduler : SystemState → SchedulerState → SystemState
with_scheduler w scheduler = record w { scheduler = scheduler }

abbrev pub with_sets : SystemState → Sets → SystemState
with_sets w sets = record w { scheduler = record (w.scheduler) { sets = sets } }
