-- How one event follows on what a ledger comes to (own).
use Rattle.std.specs.Prelude.{◌≡◌, ◌<◌, ℕ, suc, ◌-◌, ◌^◌, Bool, true, false, ◌&&◌, ◌==◌, nat_le, nat_lt, List, [], ◌∷◌, ◌++◌, length, take, Option, None, Some}
use Rattle.ledger_disk.specs.Disks.{Disk, Call, AreTrue, after_all}
use Rattle.ledger_laws.specs.Course as course
use Rattle.ledger_laws.specs.Course.{behind_first}
use Rattle.ledger_run.specs.declared.event.Event.{Event as Made}
use Rattle.ledger_run.specs.declared.event.Event.TheVariants as code
use Rattle.ledger_run.specs.Meaning.{Step, Event, State, event_behind}
use Rattle.ledger_text.specs.Records as said
use Rattle.ledger_text.specs.Records.{Said}
use Rattle.ledger_text.specs.Text.{commit_of}
use Rattle.ledger_text.specs.Digests.{digest_of}
use Rattle.ledger_run.specs.Runs.{Seen, IsKept, IsOf, IsLeft, IsOpen}
use Rattle.ledger_run.specs.Senders.{Sender, Sent, Waits, Answered, First, Given, Nothing, sender_of, after_sent, sent_in}

-- what an event of the code says
abbrev pub seen_event : Made → Event
seen_event (code.Took file text) = course.Took file.number text.now
seen_event (code.Refused file reply) = course.Refused file.number reply.now
seen_event (code.Ran n printout change) = course.Ran n printout.now change.now
seen_event (code.Dropped n reply) = course.Dropped n reply.now
seen_event (code.Edited change) = course.Edited change.now
seen_event code.Gave = course.Noted
seen_event code.Noted = course.Noted

-- and of whom
abbrev pub event_sent : Made → Sent
event_sent (code.Took file text) = Waits file.number (sender_of file)
event_sent (code.Refused file reply) = Answered file.number (sender_of file)
event_sent (code.Ran n printout change) = First
event_sent (code.Dropped n reply) = First
event_sent (code.Edited change) = Nothing
event_sent code.Gave = Given
event_sent code.Noted = Nothing

-- the number of the first text that waits
abbrev pub first_number : List (ℕ × List ℕ) → Option ℕ
first_number [] = None
first_number (one ∷ waiting) = Some one.0

abbrev pub is_number : ℕ → Option ℕ → Bool
is_number n None = false
is_number n (Some first) = n == first

-- a number that no text has; there is one behind it
abbrev pub is_free : ℕ → ℕ → Bool
is_free next n = nat_le next n && nat_lt n (2 ^ 64 - 1)

-- whether it may be the next event
abbrev pub may_follow : ℕ → Option ℕ → Event → Bool
may_follow next first (course.Took n text) = is_free next n
may_follow next first (course.Refused n reply) = is_free next n
may_follow next first (course.Ran n printout change) = is_number n first
may_follow next first (course.Dropped n reply) = is_number n first
may_follow next first (course.Edited change) = true
may_follow next first course.Noted = true

-- a text's run came to this
abbrev pub IsTold : Step → Event → State → Type 0
IsTold step (course.Took n text) kept = Unit {0}
IsTold step (course.Refused n reply) kept = Unit {0}
IsTold step (course.Ran n printout change) kept =
    (text : List ℕ) (rest : List (ℕ × List ℕ)) → kept.waiting ≡ (n, text) ∷ rest → step text kept.state ≡ (printout, change)
IsTold step (course.Dropped n reply) kept = Unit {0}
IsTold step (course.Edited change) kept = Unit {0}
IsTold step course.Noted kept = Unit {0}

-- if it is an event, its text's run came to this
pub record Tells (step : Step) (found : Option Event) (seen : Seen) (behind : List (List ℕ)) : Type 0 where
  pub tells : (event : Event) → found ≡ Some event → (kept : State) → IsKept step seen behind kept → IsTold step event kept

-- whether a record says that a text ran
abbrev pub runs : Said → Bool
runs (said.Took n account uid name text) = false
runs (said.Refused n account uid name reply) = false
runs (said.Ran n printout) = true
runs (said.Audit n lines) = false
runs (said.Keep n set first records) = false
runs (said.Set n set head records) = false
runs (said.Gone n set) = false
runs (said.Dropped n reason reply) = false
runs (said.Gave first last) = false
runs (said.Tables tables) = false
runs (said.Checked count digest) = false
runs (said.Edit who act) = false

-- ---- what the ledger in memory and the machine have behind it

abbrev pub with_text : ℕ → Sender → List ℕ → Seen → Seen
with_text n sender text seen = record {
  waiting = seen.waiting ++ (n, text) ∷ [];
  owed = seen.owed;
  next = suc n;
  commits = seen.commits;
  last = seen.last;
  senders = after_sent (Waits n sender) seen.senders;
}

abbrev pub with_answer : ℕ → Sender → List ℕ → Seen → Seen
with_answer n sender reply seen = record {
  waiting = seen.waiting;
  owed = seen.owed ++ (n, reply) ∷ [];
  next = seen.next;
  commits = seen.commits;
  last = seen.last;
  senders = after_sent (Answered n sender) seen.senders;
}

abbrev pub with_next : ℕ → Seen → Seen
with_next n seen = record { waiting = seen.waiting; owed = seen.owed; next = suc n; commits = seen.commits; last = seen.last; senders = seen.senders }

-- the first text that waits, which has this number, is answered
abbrev pub first_answered : ℕ → List ℕ → Seen → Seen
first_answered n reply seen = record {
  waiting = behind_first seen.waiting;
  owed = seen.owed ++ (n, reply) ∷ [];
  next = seen.next;
  commits = seen.commits;
  last = seen.last;
  senders = after_sent First seen.senders;
}

abbrev pub without_owed : Seen → Seen
without_owed seen = record {
  waiting = seen.waiting;
  owed = [];
  next = seen.next;
  commits = seen.commits;
  last = seen.last;
  senders = after_sent Given seen.senders;
}

abbrev pub with_commit : List ℕ → Seen → Seen
with_commit digest seen = record {
  waiting = seen.waiting;
  owed = seen.owed;
  next = seen.next;
  commits = suc seen.commits;
  last = digest;
  senders = seen.senders;
}

abbrev pub after_event : Made → Seen → Seen
after_event (code.Took file text) seen = with_text file.number (sender_of file) text.now seen
after_event (code.Refused file reply) seen = with_answer file.number (sender_of file) reply.now (with_next file.number seen)
after_event (code.Ran n printout change) seen = first_answered n printout.now seen
after_event (code.Dropped n reply) seen = first_answered n reply.now seen
after_event (code.Edited change) seen = seen
after_event code.Gave seen = without_owed seen
after_event code.Noted seen = seen

abbrev pub changed_by : Made → List (List ℕ) → List (List ℕ)
changed_by (code.Took file text) behind = behind
changed_by (code.Refused file reply) behind = behind
changed_by (code.Ran n printout change) behind = behind ++ change.now ∷ []
changed_by (code.Dropped n reply) behind = behind
changed_by (code.Edited change) behind = behind ++ change.now ∷ []
changed_by code.Gave behind = behind
changed_by code.Noted behind = behind

-- ---- commits that are read

-- this commit stands behind those before it, and is followed
pub record Takes (text : List ℕ) (seen : Seen) (behind : List (List ℕ)) (new_seen : Seen) (new_behind : List (List ℕ)) : Type 0 where
  pub event : Made
  pub may : may_follow seen.next (first_number seen.waiting) (seen_event event) ≡ true
  pub is : event_behind seen.last (commit_of text) ≡ Some (seen_event event)
  pub sent : event_sent event ≡ sent_in (commit_of text)
  pub ledger : new_seen ≡ with_commit (digest_of text) (after_event event seen)
  pub machine : new_behind ≡ changed_by event behind

-- the ledger in memory is that of these commits
pub record IsOfChain (seen : Seen) (behind : List (List ℕ)) (step : Step) (chain : List (List ℕ)) : Type 0 where
  pub events : List Event
  pub is : IsOf seen behind step chain events

-- if it was that of some, it is now that of these behind them
pub record TakesAll (step : Step) (texts : List (List ℕ)) (seen : Seen) (behind : List (List ℕ)) (new_seen : Seen) (new_behind : List (List ℕ)) : Type 0 where
  pub all : (front : List (List ℕ)) → IsOfChain seen behind step front → IsOfChain new_seen new_behind step (front ++ texts)

-- ---- opening behind commits that are known

-- if what is known is what the first commits come to, and the disk told the truth, the ledger in memory is the one that was left
pub record OpensBehind {D : Type 0} (calls : D → List Call) (step : Step) (known : Seen) (known_behind : List (List ℕ)) (seen : Seen)
    (behind : List (List ℕ)) (old new : D) : Type 0 where
  pub opens : (first : Disk) (chain : List (List ℕ)) (events : List Event) → AreTrue (calls new) first → length chain < 2 ^ 64
      → IsLeft step chain events (after_all (calls old) first) → IsOfChain known known_behind step (take known.commits chain)
      → IsOpen seen behind step chain (after_all (calls new) first)
