-- What a ledger has in memory, by a text of it (own): a checkpoint has it so.
use Rattle.std.specs.Prelude.{◌≡◌, ℕ, List, map, Some}
use Rattle.ledger_index.specs.Course.{Kept, Course, course_of, course_text, IsSmallCourse}
use Rattle.ledger_run.specs.declared.ledger.Ledger.{Ledger}
use Rattle.ledger_run.specs.declared.ledger.Waiting.{Waiting}
use Rattle.ledger_run.specs.declared.answers.Owed.{Owed}
use Rattle.ledger_run.specs.Senders.{Sender, seen_sender}
use Rattle.ledger_run.specs.Runs.{Seen, seen_ledger}

abbrev pub kept_of : ℕ → Sender → List ℕ → Kept
kept_of n sender text = record { number = n; account = sender.account; uid = sender.uid; name = sender.name; text = text }

abbrev pub kept_waiting : Waiting → Kept
kept_waiting one = kept_of one.number (seen_sender one.sender) one.text.items

abbrev pub kept_owed : Owed → Kept
kept_owed one = kept_of one.number (seen_sender one.sender) one.bytes.items

abbrev pub course_by : Ledger → Course
course_by ledger = record { next = ledger.next; waiting = map kept_waiting ledger.waiting.items; owed = map kept_owed ledger.owed.items }

-- ---- the ledger in memory that it says

abbrev pub numbered : Kept → ℕ × List ℕ
numbered one = (one.number, one.text)

abbrev pub sent : Kept → ℕ × Sender
sent one = (one.number, record { account = one.account; uid = one.uid; name = one.name })

-- behind so many commits, of which the last has this digest
abbrev pub seen_by : Course → ℕ → List ℕ → Seen
seen_by course count last = record {
  waiting = map numbered course.waiting;
  owed = map numbered course.owed;
  next = course.next;
  commits = count;
  last = last;
  senders = record { waiting = map sent course.waiting; owed = map sent course.owed };
}

-- this ledger is the one that a text says
pub record IsKnown (text : List ℕ) (count : ℕ) (last : List ℕ) (ledger : Ledger) : Type 0 where
  pub read : course_of text ≡ Some (course_by ledger)
  pub behind : ledger.commits ≡ count
  pub ends : ledger.last.items ≡ last

-- what is known by the text that was written of a ledger is what it had
abbrev pub KnownAsItWas : Type 0
KnownAsItWas = (was now : Ledger) → IsSmallCourse (course_by was) → IsKnown (course_text (course_by was)) was.commits was.last.items now
    → seen_ledger now ≡ seen_ledger was
