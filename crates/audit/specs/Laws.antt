-- What holds of the audit's lines: each is the contract of a function in `laws`.
use Rattle.std.specs.Prelude.{◌≡◌, ℕ, ◌<◌, ◌^◌, ◌⊎◌, ◌↔◌, true, List, [], Option, None, Some, IfSome, IsSome}
use Rattle.mon_text.specs.Names.{IsName}
use Rattle.mon_acl.specs.declared.entries.Perms.{Perms}
use Rattle.mon_acl.specs.Entries.{is_qualified}
use Rattle.mon_access.specs.declared.account.Account.{Account}
use Rattle.mon_catalogue.specs.declared.data_set.DataSet.{DataSet}
use Rattle.interaction.specs.declared.answer.Answer.{Answer}
use Rattle.interaction.specs.declared.answer.Answer.TheVariants.{Got, Denied}
use Rattle.interaction.specs.declared.answer.Reason.{Reason}
use Rattle.interaction.specs.declared.answer.Reason.TheVariants.{By}
use Rattle.interaction.specs.declared.request.Act.TheVariants.{Write}
use Rattle.interaction.specs.declared.request.Request.{Request}
use Rattle.mon_guard.specs.Laws.{IsGranted}
use Rattle.mon_unit.specs.declared.tie.Target.{Target}
use Rattle.mon_unit.specs.declared.tie.Target.TheVariants.{Untied, Data, Spool, Set}
use Rattle.mon_unit.specs.declared.note.NoteAct.{NoteAct}
use Rattle.mon_unit.specs.Serving.{Reach, serve}
use Rattle.mon_unit.specs.Laws.{target_of}
use Rattle.audit.specs.declared.request.AuditedRequest.{AuditedRequest}
use Rattle.audit.specs.Grants.{granting_entry}
use Rattle.audit.specs.Requests.{request_line, permission, grant, asked_of}

-- there is an entry to name of a request on a data set exactly where the access check grants it
abbrev pub EntriesAreNamed : Type 0
EntriesAreNamed = (account : Account) (set : DataSet) (request : Perms) → IsGranted account set request ↔ IsSome (granting_entry account set request)

-- so for the entry that is named of an act on a data set: there is one exactly where the access check grants what the act asks of its list
abbrev pub GrantsAreNamed : Type 0
GrantsAreNamed = (account : Account) (act : NoteAct) (set : DataSet) (request : Perms)
    → permission act ≡ Some request → IsGranted account set request ↔ IsSome (grant account act set)

-- so each record that a job gets from a data set is told with the entry by which it was granted,
abbrev pub ReadsAreNamed : Type 0
ReadsAreNamed = (n : ℕ) (account : Account) (reach : Reach) (q : Request) (line : List ℕ)
    → (serve account reach q).0 ≡ Got line → (target_of reach.units q ≡ Data) ⊎ IsSome (asked_of n account reach q).grant

-- and so is each change of a data set
abbrev pub ChangesAreNamed : Type 0
ChangesAreNamed = (n : ℕ) (account : Account) (reach : Reach) (q : Request)
    → ((serve account reach q).1.sets ≡ reach.sets) ⊎ IsSome (asked_of n account reach q).grant

-- no record's text is in a line: neither one that is read nor one that is written
abbrev pub TextsAreLeftOut : Type 0
TextsAreLeftOut = (n : ℕ) (account : Account) (reach : Reach) (statement unit : ℕ) (line other : List ℕ) (asked : AuditedRequest) (answer : Answer)
    → (request_line asked (Got line) ≡ request_line asked (Got other))
    × (let write : List ℕ → Request = λ text. record { statement = statement; act = Write unit text } in
    request_line (asked_of n account reach (write line)) answer ≡ request_line (asked_of n account reach (write other)) answer)

-- a data set that is asked of has a name
abbrev pub IsNamed : Target → Type 0
IsNamed (Set name) = IsName name
IsNamed Untied = Unit {0}
IsNamed Data = Unit {0}
IsNamed Spool = Unit {0}

-- an entry that is named is one that a list may have
abbrev pub IsEntryNamed : Reason → Type 0
IsEntryNamed (By tag name) = is_qualified tag name ≡ true
IsEntryNamed reason = Unit {0}

-- and so it is with why something is denied
abbrev pub IsReasonNamed : Answer → Type 0
IsReasonNamed (Denied reason) = IsEntryNamed reason
IsReasonNamed answer = Unit {0}

-- what a line says has the form that names, numbers and entries of the machine have
pub record IsSound (asked : AuditedRequest) (answer : Answer) : Type 0 where
  pub account : IsName asked.account
  pub target : IsNamed asked.target
  pub number : asked.number < 2 ^ 64
  pub statement : asked.statement < 2 ^ 64
  pub unit : asked.unit < 2 ^ 64
  pub place : asked.place < 2 ^ 64
  pub grant : IfSome asked.grant IsEntryNamed
  pub reason : IsReasonNamed answer

-- an answer but for the text of a record
abbrev pub without_text : Answer → Answer
without_text (Got line) = Got []
without_text answer = answer

-- the entry that granted what was not denied
abbrev pub grantor : Option Reason → Answer → Option Reason
grantor grant (Denied reason) = None
grantor grant answer = grant

-- two lines say the same: all of it
pub record SaysTheSame (a : AuditedRequest) (x : Answer) (b : AuditedRequest) (y : Answer) : Type 0 where
  pub number : a.number ≡ b.number
  pub account : a.account ≡ b.account
  pub statement : a.statement ≡ b.statement
  pub act : a.act ≡ b.act
  pub unit : a.unit ≡ b.unit
  pub target : a.target ≡ b.target
  pub place : a.place ≡ b.place
  -- what came of it, and where it was denied, why
  pub outcome : without_text x ≡ without_text y
  -- and where it was not, by which entry
  pub by : grantor a.grant x ≡ grantor b.grant y

-- so a line is as good as what it says: no two requests have one line that differ in anything but records' texts
abbrev pub TellsApart : Type 0
TellsApart = (a b : AuditedRequest) (x y : Answer) → IsSound a x → IsSound b y → request_line a x ≡ request_line b y → SaysTheSame a x b y
