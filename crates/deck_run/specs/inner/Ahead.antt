-- What is written ahead, on the way: what the audit was told before anything that the writer has.
use Rattle.std.specs.Prelude.{◌≡◌, ◌<◌, ◌⊎◌, ℕ, true, List, [], ◌++◌, length, Option}
use Rattle.mon_text.specs.Feeding.{has_no_end}
use Rattle.scheduler.specs.Marks.{Marks}
use Rattle.mon_device.specs.Putting.{Standing}
use Rattle.deck_driver.specs.declared.feed.DeckFeed.{DeckFeed}
use Rattle.deck_driver.specs.Abstraction.{told, outcome_from, audit_told}
use Rattle.deck_run.specs.Runs.{HoldsBeginning}
use Rattle.deck_run.specs.Audited.{HasAllTaken}

-- A line that is longer than any may be: behind a front of a deck it prints nothing and tells nothing, so that what comes of both is what
-- comes of the front's whole lines.
abbrev pub IsLong : List ℕ → Type 0
IsLong line = (has_no_end line ≡ true) × (5000 < length line)

-- of a front of this part all that the writer has is a beginning, and all that it tells was taken
pub record Ahead (held now : Option (List ℕ)) (before : List ℕ) (f : DeckFeed) (part : List ℕ) (a b : Standing) : Type 0 where
  pub marks : Marks
  pub front : List ℕ
  pub back : List ℕ
  pub are : part ≡ front ++ back
  pub shown : (line : List ℕ) → IsLong line → HoldsBeginning held now (told marks before f (front ++ line)).written
  pub taken : (line : List ℕ) → IsLong line → HasAllTaken a b (audit_told marks f (front ++ line))

-- or nothing was written
abbrev pub IsAhead : Option (List ℕ) → Option (List ℕ) → List ℕ → DeckFeed → List ℕ → Standing → Standing → Type 0
IsAhead held now before f part a b = (now ≡ held) ⊎ Ahead held now before f part a b

-- the same of the end of a deck
abbrev pub EndsAhead : Option (List ℕ) → Option (List ℕ) → DeckFeed → Standing → Standing → Type 0
EndsAhead held now f a b = (now ≡ held) ⊎ ((marks : Marks) × HoldsBeginning held now (outcome_from marks f []).written × HasAllTaken a b (audit_told marks f []))
