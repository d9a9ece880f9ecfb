-- What becomes of the first text that waits (own): it runs, it is broken off and nothing is done, or it is dropped.
use Rattle.std.specs.Prelude.{◌≡◌, ℕ, ◌+◌, List, [], Some}
use Rattle.ledger_disk.specs.Disks.{Call}
use Rattle.ledger_run.specs.declared.attempts.Attempt.{Attempt}
use Rattle.ledger_run.specs.declared.attempts.Attempt.TheVariants.{NoneWaits, Ran, BrokenOff}
use Rattle.ledger_run.specs.declared.event.Event.{Event as Made}
use Rattle.ledger_run.specs.Meaning.{event_of}
use Rattle.ledger_run.specs.Runs.{Seen}
use Rattle.ledger_run.specs.Following.{seen_event, event_sent, first_number, first_answered, after_event, with_commit}
use Rattle.ledger_run.specs.Senders.{sent_by}
use Rattle.ledger_text.specs.Records.{Said}

-- nothing was done, and the ledger in memory is what it was
pub record NothingDone {D : Type 0} (calls : D → List Call) (seen new_seen : Seen) (old new : D) : Type 0 where
  pub stays : new_seen ≡ seen
  pub no_call : calls new ≡ calls old

abbrev pub CameTo : {D : Type 0} → (D → List Call) → Attempt → Seen → Seen → D → D → Type 0
CameTo calls NoneWaits seen new_seen old new = new_seen.waiting ≡ []
CameTo calls Ran seen new_seen old new = new_seen.commits ≡ seen.commits + 1
CameTo calls (BrokenOff why) seen new_seen old new = NothingDone calls seen new_seen old new

-- one commit more says this, and the ledger in memory follows
pub record Recorded (said : Said) (change : List ℕ) (seen new_seen : Seen) : Type 0 where
  pub event : Made
  pub digest : List ℕ
  pub is : event_of said change ≡ Some (seen_event event)
  pub sent : event_sent event ≡ sent_by said
  pub ledger : new_seen ≡ with_commit digest (after_event event seen)

-- one commit more answers the first text that waits so
pub record FirstAnswered (reply : List ℕ) (seen new_seen : Seen) : Type 0 where
  pub number : ℕ
  pub first : first_number seen.waiting ≡ Some number
  pub digest : List ℕ
  pub ledger : new_seen ≡ with_commit digest (first_answered number reply seen)
