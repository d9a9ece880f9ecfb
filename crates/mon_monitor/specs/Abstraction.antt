-- The monitor of the program, as definitions see it.
use Rattle.std.specs.Prelude.{List}
use Rattle.mon_access.specs.declared.account.Account.{Account}
use Rattle.scheduler.specs.States.{SchedulerState, scheduler}
use Rattle.scheduler.specs.Abstraction.{slots_in}
use Rattle.mon_monitor.specs.declared.monitor.Monitor.{Monitor}
use Rattle.mon_monitor.specs.SystemStates.{SystemState}

abbrev pub system : List Account → SchedulerState → SystemState
system accounts scheduler = record { accounts = accounts; scheduler = scheduler }

abbrev pub system_of : Monitor → SystemState
system_of m = system m.accounts (scheduler m.catalogue.value (slots_in m.slots))
