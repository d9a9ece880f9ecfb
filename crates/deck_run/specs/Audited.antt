-- What a run puts to its audit, and what the audit's writer has taken (own): a sink that stood as a says before, and stands as b says then.
use Rattle.std.specs.Prelude.{◌≡◌, ◌⊎◌, ℕ, Bool, true, false, List, [], ◌++◌, codes, Option, Result, Ok, Err}
use Rattle.std.specs.List.{flat_map}
use Rattle.scheduler.specs.Marks.{Marks}
use Rattle.mon_command.specs.Printouts.{word, number}
use Rattle.mon_monitor.specs.Audit.{audit_line}
use Rattle.mon_device.specs.Devices.{Gives, holding}
use Rattle.mon_device.specs.Putting.{Standing, Puts}
use Rattle.deck_lines.specs.Codes.{code_text}
use Rattle.deck_driver.specs.declared.fault.RunError.{RunError}
use Rattle.deck_driver.specs.declared.fault.RunError.TheVariants.{DeckRefused}
use Rattle.deck_driver.specs.declared.options.Counts.{Counts}
use Rattle.deck_driver.specs.declared.options.Options.{Options}
use Rattle.deck_driver.specs.Audits.{audit_for}
use Rattle.deck_driver.specs.Printouts.{output_of}
use Rattle.deck_run.specs.Runs.{HoldsBeginning}
use Rattle.deck_run.specs.Headline.{history_of}

-- THE LAW: for every deck that is run, the audit has the lines of each entry of the history, in its order: of that history of which the
-- headline says what stands in it.
abbrev pub Audited : Type 0
Audited = (options : Options) (m : Marks) (bytes : List ℕ) → options.check ≡ false → audit_for options m bytes ≡ flat_map audit_line (history_of options m bytes)

-- and behind them how the deck has come to its end; nothing where it has not, or was only to be checked
abbrev pub end_told : Bool → Result Counts RunError → List ℕ
end_told true answer = []
end_told false (Ok counts) = codes "RUN 0 .NONE STOPPED\n"
end_told false (Err (DeckRefused n code)) = codes "RUN 0 .NONE REFUSED LINE" ++ number n ++ word (code_text code) ++ codes "\n"
end_told false (Err _) = []

-- whether a run broke off before its deck came to its end
abbrev pub is_broken : Result Counts RunError → Bool
is_broken result = elim result [ Ok counts ↦ false | Err (DeckRefused n code) ↦ false | Err _ ↦ true ]

-- so much holds of what was put, and then this text was
abbrev pub Then : (Standing → Type 0) → List ℕ → Standing → Type 0
Then P text b = (mid : Standing) × P mid × Puts mid b text

-- all was written, and nothing has failed
abbrev pub IsSettled : Standing → Type 0
IsSettled b = (b.gathered ≡ []) × (b.failed ≡ false)

-- the audit's writer has taken all of a text, behind what was gathered before
pub record HasAllTaken (a b : Standing) (text : List ℕ) : Type 0 where
  pub sound : a.failed ≡ false
  pub more : List ℕ
  pub is : b.written ≡ holding a.written (a.gathered ++ text ++ more)

-- WRITTEN AHEAD: the output has nothing of this run, or, of a front of what was read, it shows a beginning of the printouts; and the audit's
-- writer has taken all lines of that front.
abbrev pub IsWrittenAhead : Options → Option (List ℕ) → Option (List ℕ) → Option (List ℕ) → Option (List ℕ) → Standing → Standing → Type 0
IsWrittenAhead options told left held now a b =
    (now ≡ held) ⊎ ((given front back : List ℕ) × (m : Marks) × Gives told given left × (given ≡ front ++ back)
    × HoldsBeginning held now (output_of options m front) × HasAllTaken a b (audit_for options m front))
