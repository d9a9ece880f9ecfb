-- What the texts of a ledger's commits say (own). A commit has three fields: the digest of the commit before, a record, and what that
-- changes, as the machine writes it.
use Rattle.std.specs.Prelude.{◌≡◌, ℕ, List, [], ◌∷◌, ◌++◌, Option, None, Some, if◌then◌else◌, ◌==◌, bytes_eq}
use Rattle.std.specs.Option.{option_and_then}
use Rattle.ledger_text.specs.Text.{commit_of}
use Rattle.ledger_text.specs.Digests.{digest_of}
use Rattle.ledger_text.specs.Records as said
use Rattle.ledger_text.specs.Records.{Said, said_of}
use Rattle.ledger_laws.specs.Course as course
use Rattle.ledger_laws.specs.Course.{Machine, Record, Kept}

-- what a text prints and changes, by what those before it changed
abbrev pub Step : Type 0
Step = List ℕ → List (List ℕ) → List ℕ × List ℕ

-- so the state is what was changed so far
abbrev pub machine_of : Step → Machine (List ℕ) (List ℕ) (List (List ℕ)) (List ℕ)
machine_of step = record { step = step; change = λ change state. state ++ change ∷ [] }

abbrev pub Event : Type 0
Event = Record (List ℕ) (List ℕ) (List ℕ)

abbrev pub State : Type 0
State = Kept (List ℕ) (List ℕ) (List (List ℕ))

-- of a ledger without commits
abbrev pub start : State
start = record { state = []; waiting = []; answers = []; next = 0 }

-- the event of a record; what a text changed stands in the change of its commit, and in no commit of its own
abbrev pub event_of : Said → List ℕ → Option Event
event_of (said.Took n account uid name text) change = Some (course.Took n text)
event_of (said.Refused n account uid name reply) change = Some (course.Refused n reply)
event_of (said.Ran n printout) change = Some (course.Ran n printout change)
event_of (said.Dropped n reason reply) change = Some (course.Dropped n reply)
event_of (said.Edit who act) change = Some (course.Edited change)
event_of (said.Gave first last) change = Some course.Noted
event_of (said.Tables tables) change = Some course.Noted
event_of (said.Checked count digest) change = Some course.Noted
event_of (said.Audit n lines) change = None
event_of (said.Keep n set first records) change = None
event_of (said.Set n set head records) change = None
event_of (said.Gone n set) change = None

-- of a record with its time
abbrev pub timed_event : List ℕ → ℕ × Said → Option Event
timed_event change entry = event_of entry.1 change

-- of the fields of a record
abbrev pub event_in : List ℕ → Option (List (List ℕ)) → Option Event
event_in change fields = option_and_then (timed_event change) (option_and_then said_of fields)

-- of the fields of a commit behind one of this digest
abbrev pub event_behind : List ℕ → Option (List (List ℕ)) → Option Event
event_behind before (Some (named ∷ head ∷ change ∷ [])) = if bytes_eq named before then event_in change (commit_of head) else None
event_behind before fields = None

-- what the commits say, the first of them behind this digest
abbrev pub Says : List ℕ → List (List ℕ) → List Event → Type 0
Says before [] [] = Unit {0}
Says before (text ∷ chain) (event ∷ events) = (event_behind before (commit_of text) ≡ Some event) × Says (digest_of text) chain events
Says before [] (event ∷ events) = ⊥
Says before (text ∷ chain) [] = ⊥

-- the digest that the next commit names
abbrev pub end_of : List ℕ → List (List ℕ) → List ℕ
end_of before [] = before
end_of before (text ∷ chain) = end_of (digest_of text) chain

-- the answer to a number
abbrev pub answer_among : List (ℕ × List ℕ) → ℕ → Option (List ℕ)
answer_among [] m = None
answer_among (answer ∷ answers) m = if m == answer.0 then Some answer.1 else answer_among answers m
