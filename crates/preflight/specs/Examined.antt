-- Which texts an account may hand in (own); and of any other, which line is the first that is wrong, and why.
use Rattle.std.specs.Prelude.{◌≡◌, ◌≤◌, ◌+◌, ◌-◌, ℕ, List, ◌++◌, length, take}
use Rattle.std.specs.List.{AllByRecursion}
use Rattle.deck_lines.specs.Commands.{account_of}
use Rattle.deck_lines.specs.declared.deck_error.DeckError.TheVariants.{Truncated}
use Rattle.deck_syntax.specs.Decks.{Asked, Commands, Enters, Gives, Drains, Ending, Stopped, Refused}
use Rattle.deck_syntax.specs.Sections.{Closed, stream_section}
use Rattle.deck_syntax.specs.Spelling.{SpellsStream}
use Rattle.preflight.specs.declared.why.Why.{Why}
use Rattle.preflight.specs.declared.why.Why.TheVariants.{Line, Foreign, Stops, Unfinished}

-- ---- texts that an account may hand in

-- what is asked is asked for this account
abbrev pub IsOwn : List ℕ → Asked → Type 0
IsOwn own (Commands command) = account_of command ≡ own
IsOwn own (Enters job) = job.account ≡ own
IsOwn own (Gives turn) = Unit {0}
IsOwn own Drains = Unit {0}

-- these lines are whole cards, and all of this account; they ask for this
pub record IsSubmission (own : List ℕ) (lines : List (List ℕ)) (asked : List Asked) : Type 0 where
  pub spelled : SpellsStream lines asked
  pub are_own : AllByRecursion (IsOwn own) asked

-- ---- the first line that is wrong

-- the lines before number n, and some behind them, are a text that the account may hand in
pub record BeginsGood (own : List ℕ) (n : ℕ) (ls : List (List ℕ)) : Type 0 where
  pub counted : 1 ≤ n
  pub rest : List (List ℕ)
  pub asked : List Asked
  pub good : IsSubmission own (take (n - 1) ls ++ rest) asked

-- the lines up to number n are there, and no text that begins with them is one that the account may hand in
pub record NeverGood (own : List ℕ) (n : ℕ) (ls : List (List ℕ)) : Type 0 where
  pub within : n ≤ length ls
  pub whatever_follows : (more : List (List ℕ)) (asked : List Asked) → IsSubmission own (take n ls ++ more) asked → ⊥

-- how a deck ends whose stream has these lines and no others
abbrev pub stream_ending : List (List ℕ) → Ending
stream_ending ls = (stream_section 1 Closed ls).ending

-- What is wrong with line n, by how a deck's stream of the lines up to it ends: it is refused there, or has come to its `$STOP`, or
-- wants more lines, and so is good but for the account. Behind the last line: these are no whole text.
abbrev pub IsWrong : List ℕ → ℕ → List (List ℕ) → Why → Type 0
IsWrong own n ls (Line code) = NeverGood own n ls × (stream_ending (take n ls) ≡ Refused n code)
IsWrong own n ls Stops = NeverGood own n ls × (stream_ending (take n ls) ≡ Stopped)
IsWrong own n ls Foreign = NeverGood own n ls × (stream_ending (take n ls) ≡ Refused (n + 1) Truncated)
IsWrong own n ls Unfinished = (n ≡ length ls + 1) × ((asked : List Asked) → IsSubmission own ls asked → ⊥)

-- line n is the first that is wrong, and this is wrong with it
pub record IsFirstWrong (own : List ℕ) (n : ℕ) (ls : List (List ℕ)) (why : Why) : Type 0 where
  pub begins : BeginsGood own n ls
  pub wrong : IsWrong own n ls why

-- ---- what is said of a text

-- it is admitted for what it asks, or refused at a line
pub data Verdict : Type 0 where
  Admits : List Asked → Verdict
  Refuses : ℕ → Why → Verdict

abbrev pub IsVerdict : List ℕ → List (List ℕ) → Verdict → Type 0
IsVerdict own ls (Admits asked) = IsSubmission own ls asked
IsVerdict own ls (Refuses n why) = IsFirstWrong own n ls why
