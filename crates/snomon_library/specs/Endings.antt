-- What the program ends with, once its words have given options (own): the exit status, and what is told of a fault.
use Rattle.std.specs.Prelude.{◌≡◌, ℕ, List, ◌++◌, Bool, true, false, IsTrue, Option, Some, Result, Ok, Err}
use Rattle.std.specs.Io.KnownBytes.{Keeps, Appends}
use Rattle.mon_device.specs.Putting.{Standing}
use Rattle.deck_driver.specs.declared.fault.RunError.{RunError}
use Rattle.deck_driver.specs.declared.fault.RunError.TheVariants.{Memory}
use Rattle.deck_driver.specs.declared.options.Options.{Options}
use Rattle.deck_driver.specs.declared.options.Counts.{Counts}
use Rattle.deck_run.specs.Faults.{status_of, fault_line, shortage_line}
use Rattle.deck_run.specs.declared.shortage.Shortage.{Shortage}
use Rattle.snomon_library.specs.Streams.{Comes}

-- what is told of a fault: its line, and, where memory ran out while a deck was read, one that says how far that had come
abbrev pub told_of : RunError → Option Shortage → List ℕ
told_of Memory (Some shortage) = fault_line Memory ++ shortage_line shortage
told_of fault shortage = fault_line fault

-- what is told of an outcome, by what the stream of errors held and holds: nothing of a good one; of a fault its lines, where all of
-- them could be written
abbrev pub Tells : Result Counts RunError → Option Shortage → Bool → Option (List ℕ) → Option (List ℕ) → Type 0
Tells (Ok counts) shortage is_told before after = Keeps before after
Tells (Err fault) shortage is_told before after = IsTrue is_told → Appends before after (told_of fault shortage)

-- how a sink stands to which somebody listens, or nobody: then as one that has failed
abbrev pub heard_as : Bool → Standing → Standing
heard_as true a = a
heard_as false a = record a { failed = true }

-- A run with these options has come out in some way, which the status and the stream of errors tell. Its audit's sink, which somebody
-- listens to or not, stood as a says at first, and stands as b says in the end.
pub record Ends (options : Options) (told left held now : Option (List ℕ)) (a b : Standing) (heeded : Bool) (status : ℕ) (is_told : Bool) (before after : Option (List ℕ)) : Type 0 where
  pub outcome : Result Counts RunError
  pub shortage : Shortage
  pub comes : Comes options told left held now a b heeded outcome shortage
  pub status_told : status ≡ status_of outcome
  pub fault_told : Tells outcome (Some shortage) is_told before after
