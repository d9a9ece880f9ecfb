-- What a feed gives for the bytes that are still to come, where memory breaks turns off as marks say: what is printed, and what an audit is
-- told, whose sink stands as a says before and as b says then.
use Rattle.std.specs.Prelude.{◌≡◌, ℕ, ◌+◌, ◌==◌, List, [], ◌∷◌, ◌++◌, length, if◌then◌else◌}
use Rattle.std.specs.Str.Lines.{lines}
use Rattle.mon_device.specs.Putting.{Standing, Puts}
use Rattle.scheduler.specs.Marks.{Marks}
use Rattle.deck_driver.specs.declared.feed.DeckFeed.{DeckFeed}
use Rattle.deck_driver.specs.Feeds.{Outcome, outcome, behind, Begins}
use Rattle.deck_driver.specs.Audits.{told_from}

-- what a feed gives for the bytes that are still to come, behind a text
abbrev pub told : Marks → List ℕ → DeckFeed → List ℕ → Outcome
told m text f bytes = behind text f.counts (outcome f.options f.counts.jobs m f.state (f.lines_taken + 1) (lines (f.line ++ bytes)))

-- what comes of the bytes that follow: what is written, and how the deck comes out
abbrev pub outcome_from : Marks → DeckFeed → List ℕ → Outcome
outcome_from m f bytes = told m [] f bytes

-- what an audit is told of the bytes that follow
abbrev pub audit_told : Marks → DeckFeed → List ℕ → List ℕ
audit_told m f bytes = told_from f.options f.counts.jobs m f.state (f.lines_taken + 1) (lines (f.line ++ bytes))

-- A feed took a piece: with some marks for the turns in it, what was put out and what the feed stands for are, with whatever
-- marks and bytes follow, what they were with the piece and these.
pub record Took (before : List ℕ) (f : DeckFeed) (piece after : List ℕ) (g : DeckFeed) (a b : Standing) : Type 0 where
  pub marks : Marks
  pub is : (rest : Marks) → (bytes : List ℕ) → told rest after g bytes ≡ told (marks ++ rest) before f (piece ++ bytes)
  pub audit : List ℕ
  pub tells : (rest : Marks) → (bytes : List ℕ) → audit_told (marks ++ rest) f (piece ++ bytes) ≡ audit ++ audit_told rest g bytes
  pub audited : Puts a b audit

-- with some marks for the turns in it, what was put out begins what is put out for the piece, with whatever marks and bytes
-- follow
pub record Begun (before : List ℕ) (f : DeckFeed) (piece after : List ℕ) (a b : Standing) : Type 0 where
  pub marks : Marks
  pub is : (rest : Marks) → (bytes : List ℕ) → Begins after (told (marks ++ rest) before f (piece ++ bytes)).written
  pub audit : List ℕ
  pub tells : (rest : Marks) → (bytes : List ℕ) → Begins audit (audit_told (marks ++ rest) f (piece ++ bytes))
  pub audited : Puts a b audit

-- the lines of bytes without LF
abbrev pub last_lines : List ℕ → List (List ℕ)
last_lines bytes = if length bytes == 0 then [] else bytes ∷ []
