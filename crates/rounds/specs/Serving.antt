-- A round's run (own): what its deck comes to, as far as it was read.
use Rattle.std.specs.Prelude.{◌≡◌, ◌⊎◌, ℕ, ◌+◌, true, false, List, [], ◌∷◌, ◌++◌, length, take, slice_get, Some, Ok, codes}
use Rattle.std.specs.Str.Lines.{lines}
use Rattle.mon_access.specs.declared.account.Account.{Account}
use Rattle.mon_catalogue.specs.Sets.{Sets}
use Rattle.mon_device.specs.Putting.{Standing, Puts}
use Rattle.scheduler.specs.Marks.{Marks}
use Rattle.deck_lines.specs.declared.deck_error.DeckError.{DeckError}
use Rattle.deck_syntax.specs.Decks.{Stopped}
use Rattle.deck_syntax.specs.Sections.{deck_of}
use Rattle.deck_driver.specs.declared.feed.DeckFeed.{DeckFeed}
use Rattle.deck_driver.specs.declared.options.Counts.{Counts}
use Rattle.deck_driver.specs.declared.options.Options.{Options}
use Rattle.deck_driver.specs.RunStates.{opening}
use Rattle.deck_driver.specs.Feeds.{Outcome, Good, Bad, outcome_of, Begins, EndsLine, is_reading, IsReadBack}
use Rattle.deck_driver.specs.Audits.{audit_for}
use Rattle.deck_driver.specs.Abstraction.{told, audit_told}
use Rattle.deck_driver.specs.Printouts.{closing, output_of, ReadsBack}
use Rattle.deck_run.specs.Audited.{end_told}
use Rattle.deck_run.specs.Runs.{counts_of, catalogue_after}
use Rattle.preflight.specs.declared.submission.Submission.{Submission}
use Rattle.preflight.specs.Rounds.{Handed}
use Rattle.rounds.specs.declared.running.Round.{Round}
use Rattle.rounds.specs.declared.running.Running.{Running}
use Rattle.rounds.specs.Delivery.{delivered}
use Rattle.rounds.specs.Compositions.{with_fence, front_text, round_text, IsGoodRound, ends_of, cut_at}

-- what is told of a round's deck: all that happens in it, and then that it has come to its end
abbrev pub round_audit : Options → Marks → List ℕ → List ℕ
round_audit options m bytes = audit_for options m bytes ++ end_told options.check (Ok (counts_of bytes))

-- A round was served: with some marks for the turns in it, its output is that of its deck, and the ends are where the decks end
-- that are cut behind each fence. Where the round is good, the output so cut has the printout of each text, whole and alone, and
-- then the catalogue, which can be read again. And the audit of its deck, with the same marks, was put to a sink, which stood as a
-- says before and stands as b says then.
pub record IsServed (options : Options) (m : Marks) (head : List ℕ) (submissions : List Submission) (round : Round) (a b : Standing) : Type 0 where
  pub output : round.output.items ≡ output_of options m (round_text head submissions)
  pub ends : round.ends.items ≡ ends_of options m head submissions
  pub parts : (table : List (List ℕ)) (accounts : List Account) (sets : Sets) (texts : List Handed)
      → options.check ≡ false → IsGoodRound head submissions table accounts sets texts
      → (let d = delivered options.slots.number accounts 0 m sets texts in
      cut_at 0 round.ends.items round.output.items ≡ d.printed ++ closing d.sets Stopped ∷ [])
  pub leaves : (table : List (List ℕ)) (accounts : List Account) (sets : Sets) (texts : List Handed)
      → options.check ≡ false → IsGoodRound head submissions table accounts sets texts → ReadsBack (delivered options.slots.number accounts 0 m sets texts).sets
  pub audited : Puts a b (round_audit options m (round_text head submissions))

-- ---- where a round stops

-- A round stopped in this piece of its deck, behind what was done: with some marks for the turns in them, all that is told of what was
-- done was put to the audit, and then a beginning of what is told of the piece.
pub record StopsWithin (options : Options) (done piece : List ℕ) (a b : Standing) : Type 0 where
  pub marks : Marks
  pub before : List ℕ
  pub is_all : EndsLine done → (rest : Marks) → audit_for options (marks ++ rest) done ≡ before
  pub more : List ℕ
  pub begins : (rest : Marks) → Begins (before ++ more) (audit_for options (marks ++ rest) (done ++ piece))
  pub audited : Puts a b (before ++ more)

-- it stopped in its head
abbrev pub StopsInHead : Options → List ℕ → ℕ → Standing → Standing → Type 0
StopsInHead options head k a b = (k ≡ 0) × StopsWithin options [] head a b

-- in the text of this number, or in its fence
pub record StopsInText (options : Options) (head : List ℕ) (submissions : List Submission) (k : ℕ) (a b : Standing) : Type 0 where
  pub index : ℕ
  pub number : k ≡ index + 1
  pub text : Submission
  pub is : slice_get submissions index ≡ Some text
  pub stops : StopsWithin options (front_text head (take index submissions)) (with_fence text) a b

-- at its end
abbrev pub StopsAtEnd : Options → List ℕ → List Submission → ℕ → Standing → Standing → Type 0
StopsAtEnd options head submissions k a b = (k ≡ length submissions + 1) × StopsWithin options (front_text head submissions) (codes "$STOP\n") a b

abbrev pub StopsIn : Options → List ℕ → List Submission → ℕ → Standing → Standing → Type 0
StopsIn options head submissions k a b = StopsInHead options head k a b ⊎ (StopsInText options head submissions k a b ⊎ StopsAtEnd options head submissions k a b)

-- ---- within a run

-- what comes of the deck of these bytes
abbrev pub whole : Options → Marks → List ℕ → Outcome
whole options m bytes = outcome_of options.check 0 m (opening options.slots.number (deck_of (lines bytes)))

-- With some marks for the turns in it, so much of the round was served: whatever follows, the deck comes out as it does with that, and
-- its audit is what was put to a sink, and what is told of the rest.
pub record Stands (options : Options) (head : List ℕ) (submissions : List Submission) (running : Running) (a b : Standing) : Type 0 where
  pub marks : Marks
  pub tells : (rest : Marks) (bytes : List ℕ) → told rest running.output.items running.feed bytes ≡ whole options (marks ++ rest) (front_text head submissions ++ bytes)
  pub ends : (rest : Marks) → running.ends.items ≡ ends_of options (marks ++ rest) head submissions
  pub empty : running.printed ≡ []
  pub fed : running.feed.fed ≡ length (front_text head submissions)
  pub options_are : running.feed.options ≡ options
  pub back : IsReadBack running.feed.options.check running.feed.state
  pub audit : List ℕ
  pub audits : (rest : Marks) (bytes : List ℕ) → audit_for options (marks ++ rest) (front_text head submissions ++ bytes) ≡ audit ++ audit_told rest running.feed bytes
  pub audited : Puts a b audit
  pub settled : EndsLine (front_text head submissions) → is_reading running.feed.state ≡ true → running.feed.line ≡ []

-- with some marks for the turns in it, what was put to the audit begins what is told of this piece, whatever follows
pub record BeginsTelling (f : DeckFeed) (piece : List ℕ) (a b : Standing) : Type 0 where
  pub marks : Marks
  pub audit : List ℕ
  pub tells : (rest : Marks) (bytes : List ℕ) → Begins audit (audit_told (marks ++ rest) f (piece ++ bytes))
  pub audited : Puts a b audit

-- what is told of the deck's end here
pub record BeginsEnding (f : DeckFeed) (a b : Standing) : Type 0 where
  pub marks : Marks
  pub audit : List ℕ
  pub tells : (rest : Marks) → Begins audit (audit_told (marks ++ rest) f [])
  pub audited : Puts a b audit

-- with some marks for the turns in it, the deck is refused in this piece, whatever follows
pub record IsBad (n : ℕ) (code : DeckError) (before : List ℕ) (f : DeckFeed) (piece : List ℕ) : Type 0 where
  pub marks : Marks
  pub is : (rest : Marks) (bytes : List ℕ) → (told (marks ++ rest) before f (piece ++ bytes)).conclusion ≡ Bad n code

-- the deck is refused because it ends here
pub record IsBadAtEnd (n : ℕ) (code : DeckError) (f : DeckFeed) : Type 0 where
  pub marks : Marks
  pub is : (rest : Marks) → (told (marks ++ rest) [] f []).conclusion ≡ Bad n code

-- The deck ended here, and was good: with some marks for the turns that were left, what it then wrote stands behind the output, and what
-- it then told was put to the audit.
pub record Finishes (running : Running) (round : Round) (a b : Standing) : Type 0 where
  pub marks : Marks
  pub written : List ℕ
  pub counts : Counts
  pub sets : Sets
  pub is : (rest : Marks) → told (marks ++ rest) [] running.feed [] ≡ record { written = written; conclusion = Good counts sets }
  pub reads_back : IsReadBack running.feed.options.check running.feed.state → running.feed.options.check ≡ false → ReadsBack sets
  pub output : round.output.items ≡ running.output.items ++ written
  pub audit : List ℕ
  pub audits : (rest : Marks) → audit_told (marks ++ rest) running.feed [] ≡ audit
  pub audited : Puts a b audit

-- a round has ended: what it wrote, where its printouts end, what it leaves, and what it told
pub record HasEnded (options : Options) (m : Marks) (head : List ℕ) (submissions : List Submission) (round : Round) (a b : Standing) : Type 0 where
  pub output : round.output.items ≡ output_of options m (round_text head submissions)
  pub ends : round.ends.items ≡ ends_of options m head submissions
  pub reads_back : options.check ≡ false → ReadsBack (catalogue_after options m (round_text head submissions))
  pub audited : Puts a b (audit_for options m (round_text head submissions))
