-- What a run answers for these bytes (own).
use Rattle.std.specs.Prelude.{◌≡◌, ◌≤◌, ◌+◌, ℕ, false, List, [], ◌∷◌, ◌++◌, length, Option, if◌then◌else◌}
use Rattle.std.specs.Str.Lines.{lines}
use Rattle.mon_text.specs.Feeding.{has_no_end}
use Rattle.mon_catalogue.specs.Sets.{Sets}
use Rattle.scheduler.specs.Marks.{Marks}
use Rattle.deck_lines.specs.declared.deck_error.DeckError.{DeckError}
use Rattle.deck_lines.specs.declared.deck_error.DeckError.TheVariants.{Truncated}
use Rattle.deck_syntax.specs.Decks.{Ending, Stopped, Refused}
use Rattle.deck_syntax.specs.Sections.{deck_of}
use Rattle.mon_device.specs.declared.transfer.TheConstants.{READ_SIZE}
use Rattle.mon_device.specs.Devices.{Gives, IsAtEnd, HasTaken, holding}
use Rattle.mon_device.specs.Putting.{Standing, Puts}
use Rattle.deck_driver.specs.declared.options.Options.{Options}
use Rattle.deck_driver.specs.declared.options.Counts.{Counts}
pub use Rattle.deck_driver.specs.RunStates.{run_state_of}
use Rattle.deck_driver.specs.RunStates.{events_in, all_counted}
use Rattle.mon_monitor.specs.Played.{played}
use Rattle.deck_driver.specs.Printouts.{output_of, ReadsBack}
use Rattle.deck_driver.specs.Feeds.{Begins}
use Rattle.deck_driver.specs.Audits.{audit_for}

-- how the deck of these bytes ends
abbrev pub deck_ending : List ℕ → Ending
deck_ending bytes = let deck = deck_of (lines bytes) in deck.cards.ending

-- The marks say where memory breaks turns off; no one can say beforehand where it will.

-- the catalogue after all that these bytes ask for
abbrev pub catalogue_after : Options → Marks → List ℕ → Sets
catalogue_after options m bytes = let s = run_state_of options bytes in let p = played (events_in 0 s) m s.system in p.after.scheduler.sets

-- how many jobs and commands there are
abbrev pub counts_of : List ℕ → Counts
counts_of bytes = let deck = deck_of (lines bytes) in all_counted deck.cards.asked

-- The output was written, and the audit was put to its sink, which stood as a says before and stands as b says then: with some marks, the
-- same for both.
abbrev pub HasWritten : Options → Option (List ℕ) → Option (List ℕ) → List ℕ → Standing → Standing → Type 0
HasWritten options held now bytes a b = (marks : Marks) × (now ≡ holding held (output_of options marks bytes)) × Puts a b (audit_for options marks bytes)

-- and the data sets that a run gives back can be read again
abbrev pub HasRun : Options → Option (List ℕ) → Option (List ℕ) → List ℕ → Standing → Standing → Type 0
HasRun options held now bytes a b = (marks : Marks) × (now ≡ holding held (output_of options marks bytes)) × Puts a b (audit_for options marks bytes)
    × (options.check ≡ false → ReadsBack (catalogue_after options marks bytes))

-- a writer has taken a beginning of this text
abbrev pub HoldsBeginning : Option (List ℕ) → Option (List ℕ) → List ℕ → Type 0
HoldsBeginning held now text = (rest : List ℕ) × HasTaken held now text rest

-- Wherever a run breaks off, what it has written is a beginning of the output of the bytes that it has read, and what was put to the audit
-- is a beginning of theirs, with some marks for the turns in them, and with whatever marks and bytes may follow: no bytes, where the reader
-- is at its end.
abbrev pub HasBegun : Options → Option (List ℕ) → Option (List ℕ) → Option (List ℕ) → Option (List ℕ) → Standing → Standing → Type 0
HasBegun options told left held now a b = (given : List ℕ) × (marks : Marks) × (audit : List ℕ) × Gives told given left
    × ((rest : Marks) (more : List ℕ) → (IsAtEnd left → more ≡ []) → HoldsBeginning held now (output_of options (marks ++ rest) (given ++ more))
    × Begins audit (audit_for options (marks ++ rest) (given ++ more)))
    × Puts a b audit

-- the bytes of the lines that have their line end: all up to the last LF, and it
abbrev pub whole_lines : List ℕ → List ℕ
whole_lines [] = []
whole_lines (c ∷ cs) = if has_no_end (c ∷ cs) then [] else c ∷ whole_lines cs

-- All lines of these bytes that have their line end have been answered, and nothing more: that is what was written. None of
-- them was refused; the deck only ends too early there, if it has not ended.
pub record HasAnswered (options : Options) (held now : Option (List ℕ)) (front : List ℕ) (a b : Standing) : Type 0 where
  pub written : HasWritten options held now (whole_lines front) a b
  pub unrefused : (n : ℕ) (code : DeckError) → deck_ending (whole_lines front) ≡ Refused n code → code ≡ Truncated

-- What is due when a read fails: the output of the lines that were read whole, no less and no more. So no printout waits for
-- a card that is still to come.
abbrev pub HasPrinted : Options → Option (List ℕ) → Option (List ℕ) → Option (List ℕ) → Option (List ℕ) → Standing → Standing → Type 0
HasPrinted options told left held now a b = (given : List ℕ) × Gives told given left × HasAnswered options held now given a b

-- What is due when memory runs out at this line: it is of the last read, and the lines before it have been answered. The deck had not
-- come to its `$STOP`. The audit goes on with a beginning of what that line tells.
abbrev pub HasBrokenOff : Options → ℕ → Option (List ℕ) → Option (List ℕ) → Option (List ℕ) → Option (List ℕ) → Standing → Standing → Type 0
HasBrokenOff options line told left held now a b =
    (given front back : List ℕ) × Gives told given left × (given ≡ front ++ back) × (length back ≤ READ_SIZE)
    × ((mid : Standing) × HasAnswered options held now front a mid × (more : List ℕ) × Puts mid b more) × (deck_ending (whole_lines front) ≡ Stopped → ⊥)
    × (line ≡ length (lines (whole_lines front)) + 1)
