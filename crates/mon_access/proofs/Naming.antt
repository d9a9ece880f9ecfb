-- What is named of a decision: for proofs.
use Rattle.std.specs.Prelude.{ℕ, Option, None}
use Rattle.mon_access.specs.declared.access.Decision.{Decision, TheVariants.{Granted, Denied}}

abbrev pub if_granted : Decision → Option ℕ → Option ℕ
if_granted decided index = elim decided [ Granted ↦ index | Denied decider ↦ None ]
