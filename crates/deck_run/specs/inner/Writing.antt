-- What a writer holds in the end, and what it holds on the way; and what was put to an audit, whose sink stands as a says before and as b
-- says then. With marks: those that the turns so far took.
use Rattle.std.specs.Prelude.{◌≡◌, ◌≤◌, ◌+◌, ℕ, true, List, [], ◌++◌, length, Option, None}
use Rattle.scheduler.specs.Marks.{Marks}
use Rattle.deck_lines.specs.declared.deck_error.DeckError.{DeckError}
use Rattle.deck_driver.specs.declared.feed.DeckFeed.{DeckFeed}
use Rattle.deck_driver.specs.Feeds.{Outcome, Conclusion, refused_at, error_at, is_reading, Begins}
use Rattle.deck_driver.specs.Abstraction.{told, audit_told}
use Rattle.deck_driver.specs.inner.Counting.{lines_ended}
use Rattle.mon_device.specs.declared.transfer.TheConstants.{READ_SIZE}
use Rattle.mon_device.specs.Devices.{holding, Gives}
use Rattle.mon_device.specs.Putting.{Standing, Puts}
use Rattle.deck_run.specs.Runs.{HoldsBeginning}

-- what a writer holds after an outcome is written, and how the deck comes out
pub record Held : Type 0 where
  pub bytes : Option (List ℕ)
  pub conclusion : Conclusion

abbrev pub holds : Option (List ℕ) → Outcome → Held
holds before later = record { bytes = holding before later.written; conclusion = later.conclusion }

-- a writer has taken some bytes
pub record HasGrown (held now : Option (List ℕ)) : Type 0 where
  pub text : List ℕ
  pub is : now ≡ holding held text

-- A feed took a part: what was written and gathered, and what comes of any marks and bytes that follow, is what comes of the
-- part and these.
pub record Serves (held now : Option (List ℕ)) (before : List ℕ) (f : DeckFeed) (part after : List ℕ) (g : DeckFeed) (a b : Standing) : Type 0 where
  pub marks : Marks
  pub is : (rest : Marks) (bytes : List ℕ) → holds now (told rest after g bytes) ≡ holds held (told (marks ++ rest) before f (part ++ bytes))
  pub audit : List ℕ
  pub tells : (rest : Marks) (bytes : List ℕ) → audit_told (marks ++ rest) f (part ++ bytes) ≡ audit ++ audit_told rest g bytes
  pub audited : Puts a b audit

-- the deck is refused within this part, whatever follows
pub record Refuses (held now : Option (List ℕ)) (before : List ℕ) (f : DeckFeed) (part : List ℕ) (n : ℕ) (code : DeckError) (a b : Standing) : Type 0 where
  pub marks : Marks
  pub is : (rest : Marks) (bytes : List ℕ) → holds now (refused_at n code) ≡ holds held (told (marks ++ rest) before f (part ++ bytes))
  pub audit : List ℕ
  pub tells : (rest : Marks) (bytes : List ℕ) → audit_told (marks ++ rest) f (part ++ bytes) ≡ audit
  pub audited : Puts a b audit

-- what was written begins what comes of this part, whatever follows
pub record Starts (held now : Option (List ℕ)) (before : List ℕ) (f : DeckFeed) (part : List ℕ) (a b : Standing) : Type 0 where
  pub marks : Marks
  pub is : (rest : Marks) (bytes : List ℕ) → HoldsBeginning held now (told (marks ++ rest) before f (part ++ bytes)).written
  pub audit : List ℕ
  pub tells : (rest : Marks) (bytes : List ℕ) → Begins audit (audit_told (marks ++ rest) f (part ++ bytes))
  pub audited : Puts a b audit

-- A feed was given these bytes, and goes on; while the deck is read, each line that ended in them is counted.
pub record Stands (held now : Option (List ℕ)) (gathered : List ℕ) (start f : DeckFeed) (given : List ℕ) (a b : Standing) : Type 0 where
  pub served : Serves held now [] start given gathered f a b
  pub counted : is_reading f.state ≡ true → (is_reading start.state ≡ true) × (start.lines_taken + lines_ended given ≤ f.lines_taken)
  pub sound : error_at f.state ≡ None

-- it broke off within this piece: at bytes from its front all was written, and the deck was still read; to the audit more may have been put
pub record BrokeOff (held now : Option (List ℕ)) (start : DeckFeed) (piece : List ℕ) (a b : Standing) : Type 0 where
  pub front : List ℕ
  pub back : List ℕ
  pub are : piece ≡ front ++ back
  pub feed : DeckFeed
  pub mid : Standing
  pub stands : Stands held now [] start feed front a mid
  pub more : List ℕ
  pub ahead : Puts mid b more
  pub reading : is_reading feed.state ≡ true

-- the reads so far have given these bytes, and what was written begins what all of it gives
pub record Begun (told left held now : Option (List ℕ)) (start : DeckFeed) (given : List ℕ) (a b : Standing) : Type 0 where
  pub gives : Gives told given left
  pub starts : Starts held now [] start given a b

-- and what is written in the end is what all of it gives
pub record Runs (told left held now : Option (List ℕ)) (start f : DeckFeed) (given : List ℕ) (a b : Standing) : Type 0 where
  pub so_far : Begun told left held now start given a b
  pub grown : HasGrown held now
  pub stands : Stands held now [] start f given a b

-- the reads so far have given these bytes, and the run broke off within those of the last read
pub record Broke (told left held now : Option (List ℕ)) (start : DeckFeed) (given : List ℕ) (a b : Standing) : Type 0 where
  pub gives : Gives told given left
  pub broke : BrokeOff held now start given a b
  pub last : length broke.back ≤ READ_SIZE

-- where the deck is still read, this line is due: behind the first one, so many have ended
abbrev pub IsDue : ℕ → ℕ → DeckFeed → List ℕ → Type 0
IsDue first line f given = is_reading f.state ≡ true → line ≡ first + lines_ended given

-- it broke off within this piece, at this line
pub record BrokeOffAt (held now : Option (List ℕ)) (start : DeckFeed) (piece : List ℕ) (first line : ℕ) (a b : Standing) : Type 0 where
  pub broke : BrokeOff held now start piece a b
  pub line_is : line ≡ first + lines_ended broke.front

-- the run broke off within the bytes of the last read, at this line
pub record BrokeAt (told left held now : Option (List ℕ)) (start : DeckFeed) (given : List ℕ) (first line : ℕ) (a b : Standing) : Type 0 where
  pub run : Broke told left held now start given a b
  pub line_is : line ≡ first + lines_ended run.broke.front
