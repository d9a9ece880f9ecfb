-- A piece that was taken in part.
use Rattle.std.specs.Prelude.{◌≡◌, ◌⊎◌, ℕ, true, List, [], ◌++◌}
use Rattle.mon_device.specs.Putting.{Standing, Puts}
use Rattle.scheduler.specs.Marks.{Marks}
use Rattle.deck_driver.specs.declared.feed.DeckFeed.{DeckFeed}
use Rattle.deck_driver.specs.Feeds.{EndsLine, is_reading}
use Rattle.deck_driver.specs.Abstraction.{told, audit_told}

-- with some marks for the turns in it, what was put out and what the feed stands for are, with what is left of the piece, what
-- they were with all of it
pub record TookUpTo (before : List ℕ) (f : DeckFeed) (piece after : List ℕ) (g : DeckFeed) (left : List ℕ) (a b : Standing) : Type 0 where
  pub marks : Marks
  pub is : (rest : Marks) → (bytes : List ℕ) → told rest after g (left ++ bytes) ≡ told (marks ++ rest) before f (piece ++ bytes)
  pub audit : List ℕ
  pub tells : (rest : Marks) → (bytes : List ℕ) → audit_told (marks ++ rest) f (piece ++ bytes) ≡ audit ++ audit_told rest g (left ++ bytes)
  pub audited : Puts a b audit

-- what is left of a piece ends with a line end; or nothing is left, and nothing of a line is kept, where the deck is still read
abbrev pub LeavesNothing : List ℕ → DeckFeed → Type 0
LeavesNothing left f = EndsLine left ⊎ ((left ≡ []) × (is_reading f.state ≡ true → f.line ≡ []))
