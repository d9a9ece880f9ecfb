-- What stands in an audit's file behind a run (own).
use Rattle.std.specs.Prelude.{◌≡◌, ◌⊎◌, ℕ, List, [], ◌++◌, Bool, true, false, Option, IfSome}
use Rattle.mon_device.specs.Devices.{holding}
use Rattle.mon_device.specs.Putting.{Standing}
use Rattle.scheduler.specs.Marks.{Marks}
use Rattle.deck_driver.specs.declared.options.Options.{Options}
use Rattle.deck_driver.specs.Audits.{audit_for}
use Rattle.deck_driver.specs.Printouts.{output_of}
use Rattle.deck_run.specs.Audited.{end_told}
use Rattle.snomon_library.specs.Endings.{Ends}

-- A run with these options has come out in some way, and its audit was put to a file that held this and holds that now. Where the deck
-- came to its end, or to its refusal, the file has all of the audit, with its last line, and the output is of the same marks.
pub record Audits (options : Options) (told left held now kept written : Option (List ℕ)) (status : ℕ) (is_told : Bool) (before after : Option (List ℕ)) : Type 0 where
  pub a : Standing
  pub b : Standing
  pub ends : Ends options told left held now a b true status is_told before after
  pub at_first : (a.written ≡ kept) × (a.gathered ≡ []) × (a.failed ≡ false)
  pub at_last : b.written ≡ written
  pub whole : (status ≡ 0) ⊎ (status ≡ 1) → IfSome told (λ bytes. (marks : Marks) × (now ≡ holding held (output_of options marks bytes))
      × (written ≡ holding kept (audit_for options marks bytes ++ end_told options.check ends.outcome)))
