-- What a command is executed on.
use Rattle.std.specs.Prelude.{◌≡◌, Result}
use Rattle.mon_command.specs.declared.printout.Answered.{Answered}
use Rattle.mon_command.specs.declared.execution.Execution.{Execution}
use Rattle.mon_command.specs.Commanded.{Served}
use Rattle.mon_command.specs.inner.Serving.{Serves}

-- it serves its command so, on the data sets that it holds
abbrev pub Executes : {E : Type 0} → Execution → Result Answered E → Execution → Served → Type 0
Executes s result t served = Serves s.command.now result s.catalogue.now t.catalogue.now served

-- both hold the same loans
pub record SameLoans (s t : Execution) : Type 0 where
  pub guard : t.guard.ghost_name ≡ s.guard.ghost_name
  pub catalogue : t.catalogue.ghost_name ≡ s.catalogue.ghost_name
