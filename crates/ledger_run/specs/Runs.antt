-- What holds of a site's disk between the acts of a run, and what a power cut leaves at any moment of one (own).
use Rattle.std.specs.Prelude.{◌≡◌, ◌⊎◌, ◌<◌, ◌^◌, ℕ, List, [], ◌∷◌, ◌++◌, length, map, take, Option, None}
use Rattle.ledger_disk.specs.declared.name.Name.TheVariants.{Answer}
use Rattle.ledger_disk.specs.declared.name.Folder.TheVariants.{Ledger as LedgerFolder, Boxes, Taken, Out}
use Rattle.ledger_disk.specs.Disks.{Disk, Files, Call, SyncFolder, Leaves, AreTrue, after, after_all, booted}
use Rattle.ledger_laws.specs.Commits.{Stands, IsLedger}
use Rattle.ledger_laws.specs.Answers.{AnswersFit}
use Rattle.ledger_laws.specs.Course.{folded, AreHonest}
use Rattle.ledger_run.specs.declared.ledger.Ledger.{Ledger}
use Rattle.ledger_run.specs.declared.ledger.Waiting.{Waiting}
use Rattle.ledger_run.specs.Meaning.{Step, machine_of, Event, State, start, Says, end_of, answer_among}
use Rattle.ledger_run.specs.Owing.{owed_as}
use Rattle.ledger_run.specs.declared.answers.Owed.{Owed}
use Rattle.ledger_run.specs.Senders.{Sender, Senders, seen_sender, senders_of}

-- a text that waits, with its number
abbrev pub waits_as : Waiting → ℕ × List ℕ
waits_as waiting = (waiting.number, waiting.text.items)

-- whose it is, and whose an answer is that is owed
abbrev pub waits_for : Waiting → ℕ × Sender
waits_for waiting = (waiting.number, seen_sender waiting.sender)

abbrev pub owed_to : Owed → ℕ × Sender
owed_to owed = (owed.number, seen_sender owed.sender)

-- the ledger in memory
pub record Seen : Type 0 where
  pub waiting : List (ℕ × List ℕ)
  pub owed : List (ℕ × List ℕ)
  pub next : ℕ
  pub commits : ℕ
  pub last : List ℕ
  pub senders : Senders

abbrev pub seen_ledger : Ledger → Seen
seen_ledger ledger = record {
  waiting = map waits_as ledger.waiting.items;
  owed = map owed_as ledger.owed.items;
  next = ledger.next;
  commits = ledger.commits;
  last = ledger.last.items;
  senders = record { waiting = map waits_for ledger.waiting.items; owed = map owed_to ledger.owed.items };
}

-- two lists of changes over which each text does the same, whatever is changed behind them: a checkpoint has fewer changes than the commits
abbrev pub AreAlike : Step → List (List ℕ) → List (List ℕ) → Type 0
AreAlike step one other = (more : List (List ℕ)) (text : List ℕ) → step text (one ++ more) ≡ step text (other ++ more)

-- what it and the machine have is what the commits come to; of the answers, those behind some that were given
pub record IsKept (step : Step) (seen : Seen) (behind : List (List ℕ)) (kept : State) : Type 0 where
  pub state : AreAlike step behind kept.state
  pub waiting : seen.waiting ≡ kept.waiting
  pub next : seen.next ≡ kept.next
  pub given : List (ℕ × List ℕ)
  pub answers : given ++ seen.owed ≡ kept.answers

-- what the commits come to
abbrev pub state_of : Step → List Event → State
state_of step events = folded (machine_of step) events start

-- the answers that they have
abbrev pub answer_in : Step → List Event → ℕ → Option (List ℕ)
answer_in step events = answer_among (state_of step events).answers

-- the ledger in memory is this one
pub record IsOf (seen : Seen) (behind : List (List ℕ)) (step : Step) (chain : List (List ℕ)) (events : List Event) : Type 0 where
  pub commits : seen.commits ≡ length chain
  pub last : seen.last ≡ end_of [] chain
  pub says : Says [] chain events
  pub kept : IsKept step seen behind (state_of step events)
  pub senders : seen.senders ≡ senders_of chain

-- Each text ran once, over what the texts before it left; the ledger is on the disk; an answer's name has nothing or that answer.
pub record Stood (step : Step) (chain : List (List ℕ)) (events : List Event) (disk : Disk) : Type 0 where
  pub stands : Stands chain disk
  pub honest : AreHonest (machine_of step) events start
  pub answers : AnswersFit (answer_in step events) disk

-- What is read after a power cut: a ledger that says so much at least, in which each text ran once, over what the texts before it
-- left; under each answer's name nothing or that answer.
pub record IsSafe (step : Step) (before : List (List ℕ)) (c : Files) : Type 0 where
  pub more : List (List ℕ)
  pub events : List Event
  pub ledger : IsLedger (before ++ more) c
  pub says : Says [] (before ++ more) events
  pub honest : AreHonest (machine_of step) events start
  pub answers : (m : ℕ) → (c (Answer m) ≡ None) ⊎ (c (Answer m) ≡ answer_in step events m)

-- at any moment between the one and the other
pub record AreSafe {D : Type 0} (calls : D → List Call) (step : Step) (before : List (List ℕ)) (first : Disk) (old new : D) : Type 0 where
  pub more : List Call
  pub grows : calls new ≡ calls old ++ more
  pub each : (k : ℕ) (c : Files) → Leaves (after_all (take k more) (after_all (calls old) first)) c → IsSafe step before c

-- the ledger in memory is the one on the disk
pub record IsOpen (seen : Seen) (behind : List (List ℕ)) (step : Step) (chain : List (List ℕ)) (disk : Disk) : Type 0 where
  pub events : List Event
  pub is : IsOf seen behind step chain events
  pub stood : Stood step chain events disk

-- and was carried on
pub record GoesOnFrom (seen : Seen) (behind : List (List ℕ)) (step : Step) (before : List (List ℕ)) (disk : Disk) : Type 0 where
  pub more : List (List ℕ)
  pub is : IsOpen seen behind step (before ++ more) disk

-- so it is from the one to the other, if the ledger in memory was the one on the disk
pub record SafeFrom {D : Type 0} (calls : D → List Call) (step : Step) (seen : Seen) (behind : List (List ℕ)) (old new : D) : Type 0 where
  pub each : (first : Disk) (chain : List (List ℕ)) → IsOpen seen behind step chain (after_all (calls old) first)
      → AreSafe calls step chain first old new

-- and is it again
pub record CarriesOn {D : Type 0} (calls : D → List Call) (step : Step) (seen : Seen) (behind : List (List ℕ)) (new_seen : Seen) (new_behind : List (List ℕ))
    (old new : D) : Type 0 where
  pub on : (first : Disk) (chain : List (List ℕ)) → IsOpen seen behind step chain (after_all (calls old) first)
      → GoesOnFrom new_seen new_behind step chain (after_all (calls new) first)

-- ---- opening

-- all names are brought to the disk before anything is decided by what is seen
abbrev pub settle_calls : List Call
settle_calls = SyncFolder LedgerFolder ∷ SyncFolder Boxes ∷ SyncFolder Taken ∷ SyncFolder Out ∷ []

-- what a run left that was ended at any moment, or a power cut: the ledger is seen, though its names may not be on the disk yet
pub record IsLeft (step : Step) (chain : List (List ℕ)) (events : List Event) (disk : Disk) : Type 0 where
  pub seen : Stands chain (after (SyncFolder LedgerFolder) disk)
  pub says : Says [] chain events
  pub honest : AreHonest (machine_of step) events start
  pub answers : AnswersFit (answer_in step events) disk

-- if the disk told the truth, the ledger in memory is the one that was left, and it is on the disk
pub record Opens {D : Type 0} (calls : D → List Call) (step : Step) (seen : Seen) (behind : List (List ℕ)) (old new : D) : Type 0 where
  pub opens : (first : Disk) (chain : List (List ℕ)) (events : List Event) → AreTrue (calls new) first → length chain < 2 ^ 64
      → IsLeft step chain events (after_all (calls old) first) → IsOpen seen behind step chain (after_all (calls new) first)

-- what a power cut leaves of a safe site is left for the next run
abbrev pub Restarts : Type 0
Restarts = (step : Step) (before : List (List ℕ)) (c : Files) (safe : IsSafe step before c) → IsLeft step (before ++ safe.more) safe.events (booted c)
