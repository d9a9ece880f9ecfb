-- What a run of a deck comes to over streams of std (own).
use Rattle.std.specs.Prelude.{◌≡◌, ℕ, Bool, true, false, List, Option, is_some, Result, Err, IfSome, IfOk, OnOk}
use Rattle.deck_lines.specs.declared.deck_error.DeckError.{DeckError}
use Rattle.deck_syntax.specs.Decks.{Stopped, Refused}
use Rattle.mon_device.specs.Devices.{IsAtEnd}
use Rattle.mon_device.specs.Putting.{Standing}
use Rattle.mon_device.specs.Telling.{where_told}
use Rattle.deck_driver.specs.declared.fault.RunError.{RunError}
use Rattle.deck_driver.specs.declared.fault.RunError.TheVariants.{DeckRefused, ReadFault, AuditFault, Memory}
use Rattle.deck_driver.specs.declared.options.Options.{Options}
use Rattle.deck_driver.specs.declared.options.Counts.{Counts}
use Rattle.deck_run.specs.Audited.{end_told, is_broken, Then, IsSettled, IsWrittenAhead}
use Rattle.deck_run.specs.Runs.{deck_ending, counts_of, HasWritten, HasRun, HasBegun, HasPrinted, HasBrokenOff}
use Rattle.deck_run.specs.declared.shortage.Shortage.{Shortage}

-- what a stream tells now that told this at first: nothing, where it told nothing
abbrev pub told_since : Option (List ℕ) → Option (List ℕ) → Option (List ℕ)
told_since first now = where_told (is_some first) now

-- How a run of a deck comes out, by what its reader told and has left, what its writer held and holds now, how its audit stood and stands,
-- whether somebody listens to that, and how far the run had come where memory ran out: what `run_deck` says of its devices.
pub record Comes (options : Options) (told left held now : Option (List ℕ)) (a b : Standing) (heeded : Bool) (outcome : Result Counts RunError) (shortage : Shortage) : Type 0 where
  pub at_end : OnOk outcome (IsAtEnd left)
  pub stopped : OnOk outcome (IfSome told (λ bytes. deck_ending bytes ≡ Stopped))
  pub output : OnOk outcome (IfSome told (λ bytes. Then (HasRun options held now bytes a) (end_told options.check outcome) b))
  pub counts : IfOk outcome (λ counts. IfSome told (λ bytes. counts ≡ counts_of bytes))
  pub refused : (line : ℕ) (code : DeckError) → outcome ≡ Err (DeckRefused line code) → IfSome told (λ bytes. deck_ending bytes ≡ Refused line code)
  pub refused_output : (line : ℕ) (code : DeckError) → outcome ≡ Err (DeckRefused line code)
      → IfSome told (λ bytes. Then (HasWritten options held now bytes a) (end_told options.check outcome) b)
  pub begun : (end : Result Counts RunError) × Then (HasBegun options told left held now a) (end_told options.check end) b
  pub ahead : heeded ≡ true → IsWrittenAhead options told left held now a b
  pub settled : heeded ≡ true → is_broken outcome ≡ false → IsSettled b
  pub due : outcome ≡ Err ReadFault → HasPrinted options told left held now a b
  pub short : outcome ≡ Err Memory → HasBrokenOff options shortage.line told left held now a b
  pub audit_fault : outcome ≡ Err AuditFault → (heeded ≡ true) × (b.failed ≡ true)
