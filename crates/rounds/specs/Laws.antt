-- What holds of rounds: each is the contract of a function in `laws`.
use Rattle.std.specs.Prelude.{◌≡◌, ◌≢◌, ℕ, false, List, [], ◌∷◌, ◌++◌}
use Rattle.std.specs.List.{AllByRecursion, concat}
use Rattle.mon_access.specs.declared.account.Account.{Account}
use Rattle.mon_access.specs.Accounts.{HaveDifferentNames}
use Rattle.mon_catalogue.specs.Sets.{Sets}
use Rattle.mon_catalogue.specs.Stored.{IsStored, ArePrintable}
use Rattle.mon_catalogue.specs.Text.{text_of}
use Rattle.scheduler.specs.Marks.{Marks}
use Rattle.mon_monitor.specs.SystemStates.{first_system}
use Rattle.mon_monitor.specs.History.{history}
use Rattle.mon_monitor.specs.Headline.{IsHistory}
use Rattle.deck_syntax.specs.Decks.{Stopped}
use Rattle.deck_syntax.specs.Sections.{deck_of}
use Rattle.deck_syntax.specs.Spelling.{SpellsAccounts}
use Rattle.deck_driver.specs.declared.options.Options.{Options}
use Rattle.deck_driver.specs.RunStates.{opening}
use Rattle.deck_driver.specs.Printouts.{closing, output_of_run_state, output_of, ReadsBack}
use Rattle.deck_run.specs.Runs.{deck_ending, catalogue_after}
use Rattle.preflight.specs.declared.submission.Submission.{Submission}
use Rattle.preflight.specs.Rounds.{Handed, AreHanded, round_lines}
use Rattle.rounds.specs.Delivery.{text_events, text_played, delivered}
use Rattle.rounds.specs.Compositions.{head_text, round_text, AreAdmitted, IsGoodRound, ends_of, cut_at}

-- the text that follows finds all slots empty
abbrev pub EachAlone : Type 0
EachAlone = (slots : ℕ) (accounts : List Account) (jobs : ℕ) (m : Marks) (sets : Sets) (text : Handed)
    → (let here = text_played slots accounts jobs m sets text in here.after ≡ first_system slots accounts here.after.scheduler.sets)

-- each byte of the output up to the catalogue is one text's
abbrev pub Delivers : Type 0
Delivers = (slots : ℕ) (m : Marks) (table : List (List ℕ)) (accounts : List Account) (sets : Sets) (texts : List Handed)
    → SpellsAccounts table accounts → HaveDifferentNames accounts → IsStored sets → ArePrintable sets → AreHanded texts
    → (let d = delivered slots accounts 0 m sets texts in
    output_of_run_state 0 m (opening slots (deck_of (round_lines table sets texts))) ≡ concat d.printed ++ closing d.sets Stopped)

-- the headline, of each text
abbrev pub EachTells : Type 0
EachTells = (slots : ℕ) (accounts : List Account) (jobs : ℕ) (m : Marks) (sets : Sets) (text : Handed) → slots ≢ 0
    → (let here = text_played slots accounts jobs m sets text in
    IsHistory (text_events jobs text) (first_system slots accounts sets) (history (text_events jobs text) m (first_system slots accounts sets)) here.printouts here.after)

-- the output of a round, cut where the printouts of its texts end: each part is one text's, and the last is the catalogue that
-- the last text left
pub record HasItsParts (options : Options) (m : Marks) (head : List ℕ) (submissions : List Submission) (accounts : List Account) (sets : Sets) (texts : List Handed) : Type 0 where
  pub output : (let d = delivered options.slots.number accounts 0 m sets texts in
      output_of options m (round_text head submissions) ≡ concat d.printed ++ closing d.sets Stopped)
  pub parts : (let d = delivered options.slots.number accounts 0 m sets texts in
      cut_at 0 (ends_of options m head submissions) (output_of options m (round_text head submissions)) ≡ d.printed ++ closing d.sets Stopped ∷ [])
  pub left : catalogue_after options m (round_text head submissions) ≡ (delivered options.slots.number accounts 0 m sets texts).sets

abbrev pub EachItsPart : Type 0
EachItsPart = (options : Options) (m : Marks) (head : List ℕ) (submissions : List Submission) (table : List (List ℕ)) (accounts : List Account) (sets : Sets) (texts : List Handed)
    → options.check ≡ false → IsGoodRound head submissions table accounts sets texts → HasItsParts options m head submissions accounts sets texts

-- the texts of one round of many, and where memory breaks turns off in it
pub record OneRound : Type 0 where
  pub submissions : List Submission
  pub texts : List Handed
  pub marks : Marks

-- A round's deck is not refused; and if what it leaves can be read back, as what a run leaves can, so it is with the rounds behind it.
pub record IsUnrefused (options : Options) (table : List (List ℕ)) (accounts : List Account) (sets : Sets) (round : OneRound) (Later : Sets → Type 0) : Type 0 where
  pub ends : deck_ending (round_text (head_text (text_of table) sets) round.submissions) ≡ Stopped
  pub later : (left : Sets) → left ≡ (delivered options.slots.number accounts 0 round.marks sets round.texts).sets → ReadsBack left → Later left

-- rounds one after the other, each over the data sets that the one before it left
abbrev pub GoOn : Options → List (List ℕ) → List Account → Sets → List OneRound → Type 0
GoOn options table accounts sets [] = Unit {0}
GoOn options table accounts sets (round ∷ rounds) = IsUnrefused options table accounts sets round (λ left. GoOn options table accounts left rounds)

-- for ever
abbrev pub GoesOn : Type 0
GoesOn = (options : Options) (table : List (List ℕ)) (accounts : List Account) (sets : Sets) (rounds : List OneRound)
    → SpellsAccounts table accounts → HaveDifferentNames accounts → IsStored sets → ArePrintable sets → AllByRecursion (λ round. AreAdmitted round.submissions round.texts) rounds
    → GoOn options table accounts sets rounds
