-- Whose the texts are that wait, and those whose answers are owed (own): what the records of the commits say of their files.
use Rattle.std.specs.Prelude.{ℕ, List, [], ◌∷◌, ◌++◌, Option, None, Some}
use Rattle.std.specs.Option.{option_and_then}
use Rattle.ledger_text.specs.declared.record.Claimed.{Claimed}
use Rattle.ledger_text.specs.Records as said
use Rattle.ledger_text.specs.Records.{Said, said_of}
use Rattle.ledger_text.specs.Text.{commit_of}
use Rattle.ledger_laws.specs.Course.{behind_first}
use Rattle.ledger_run.specs.declared.sender.Sender as code

-- the account in whose box a file was, the user of the system who had it, and its name there
pub record Sender : Type 0 where
  pub account : List ℕ
  pub uid : ℕ
  pub name : List ℕ

abbrev pub seen_sender : code.Sender → Sender
seen_sender sender = record { account = sender.account.items; uid = sender.uid; name = sender.name.items }

abbrev pub sender_of : Claimed → Sender
sender_of file = record { account = file.account.now; uid = file.uid; name = file.name.now }

-- by their numbers
pub record Senders : Type 0 where
  pub waiting : List (ℕ × Sender)
  pub owed : List (ℕ × Sender)

abbrev pub no_senders : Senders
no_senders = record { waiting = []; owed = [] }

-- ---- what a record says of them

-- a text waits from here on; a file is answered; the first text that waits is; all answers so far are given
pub data Sent : Type 0 where
  Waits : ℕ → Sender → Sent
  Answered : ℕ → Sender → Sent
  First : Sent
  Given : Sent
  Nothing : Sent

abbrev pub sent_by : Said → Sent
sent_by (said.Took n account uid name text) = Waits n (record { account = account; uid = uid; name = name })
sent_by (said.Refused n account uid name reply) = Answered n (record { account = account; uid = uid; name = name })
sent_by (said.Ran n printout) = First
sent_by (said.Dropped n reason reply) = First
sent_by (said.Gave first last) = Given
sent_by (said.Audit n lines) = Nothing
sent_by (said.Keep n set first records) = Nothing
sent_by (said.Set n set head records) = Nothing
sent_by (said.Gone n set) = Nothing
sent_by (said.Tables tables) = Nothing
sent_by (said.Checked count digest) = Nothing
sent_by (said.Edit who act) = Nothing

abbrev pub first_of : {A : Type 0} → List A → List A
first_of [] = []
first_of (x ∷ xs) = x ∷ []

abbrev pub after_sent : Sent → Senders → Senders
after_sent (Waits n sender) senders = record { waiting = senders.waiting ++ (n, sender) ∷ []; owed = senders.owed }
after_sent (Answered n sender) senders = record { waiting = senders.waiting; owed = senders.owed ++ (n, sender) ∷ [] }
after_sent First senders = record { waiting = behind_first senders.waiting; owed = senders.owed ++ first_of senders.waiting }
after_sent Given senders = record { waiting = senders.waiting; owed = [] }
after_sent Nothing senders = senders

-- ---- what commits say

-- the fields of a record
abbrev pub sent_of : Option (ℕ × Said) → Sent
sent_of None = Nothing
sent_of (Some entry) = sent_by entry.1

abbrev pub sent_head : Option (List (List ℕ)) → Sent
sent_head fields = sent_of (option_and_then said_of fields)

-- the fields of a commit
abbrev pub sent_in : Option (List (List ℕ)) → Sent
sent_in (Some (named ∷ head ∷ change ∷ [])) = sent_head (commit_of head)
sent_in fields = Nothing

-- commits, one behind the other
abbrev pub senders_behind : List (List ℕ) → Senders → Senders
senders_behind [] senders = senders
senders_behind (text ∷ chain) senders = senders_behind chain (after_sent (sent_in (commit_of text)) senders)

abbrev pub senders_of : List (List ℕ) → Senders
senders_of chain = senders_behind chain no_senders
