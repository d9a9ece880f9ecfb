-- WHAT AN AUDIT TELLS of what happens (own), line by line: who asks for what, of which data set and at which place, what came of it, by which entry
-- it was granted or why it is denied; which jobs begin, are refused and end, and how. It does not tell the characters of a record.
use Rattle.std.specs.Prelude.{ℕ, List, [], decimal, Option, None, Some, option_map, if◌then◌else◌}
use Rattle.mon_text.specs.Counts.{value_of}
use Rattle.mon_acl.specs.declared.entries.Tag.{Tag}
use Rattle.mon_acl.specs.declared.entries.Tag.TheVariants.{UserObj, User, GroupObj, Group, Mask, Other}
use Rattle.mon_acl.specs.declared.entries.Entry.{Entry}
use Rattle.mon_acl.specs.declared.refusals.AclError.{AclError}
use Rattle.mon_acl.specs.declared.refusals.AclError.TheVariants.{BadTag, BadQualifier, BadPerms, Missing, Twice, NoMask, TooMany}
use Rattle.interaction.specs.declared.answer.Reason.{Reason}
use Rattle.interaction.specs.declared.answer.Reason.TheVariants.{By, NoSet, NotOwner, NoUnit, InStream, SpoolUnit, Mode as WrongMode}
use Rattle.interaction.specs.declared.answer.Answer.{Answer}
use Rattle.interaction.specs.declared.answer.Answer.TheVariants.{Done, Got, EndOfFile, Denied, Full}
use Rattle.mon_catalogue.specs.declared.mode.Mode.{Mode}
use Rattle.deck_lines.specs.declared.unit_error.UnitError.{UnitError}
use Rattle.deck_lines.specs.declared.unit_error.UnitError.TheVariants.{UnitRange, UnitTwice}
use Rattle.sno_cards.specs.declared.refusal.SyntaxError.{SyntaxError}
use Rattle.mon_command.specs.declared.reply.Reply.{Reply}
use Rattle.mon_command.specs.declared.said.Said.{Said}
use Rattle.audit.specs.declared.request.AuditedRequest.{AuditedRequest}
use Rattle.sno_run.specs.declared.ending.Ending.{Ending}
use Rattle.load_refusal.specs.declared.load_error.LoadError.{LoadError}
use Rattle.audit.specs.declared.grants.Grant.{Grant}
use Rattle.audit.specs.declared.grants.Grant.TheVariants.{AsOwner, ByEntry}
use Rattle.audit.specs.Grants.{is_granted}
use Rattle.deck_lines.specs.declared.command.Command.{Command}
use Rattle.deck_lines.specs.Commands.{account_of}
use Rattle.mon_command.specs.declared.reply.Reply.TheVariants as reply
use Rattle.mon_command.specs.declared.said.Said.TheVariants.{Told as ToldReply, Records, Entries, Names}
use Rattle.sno_run.specs.declared.ending.Ending.TheVariants.{MatchLimit, Fault as Faults, Normal, StatementLimit, Memory}
use Rattle.load_refusal.specs.declared.load_error.LoadError.TheVariants.{NoSlot, NoAccount as LacksAccount, Cards, Syntax}
use Rattle.deck_lines.specs.declared.command.Command.TheVariants.{Create, Delete, SetAcl, ShowAcl, List as Listing, Catalog}

-- NUMBERS

-- a number as its decimal digits tell it: below 2 ^ 64, as each number of the machine is, it is the number itself (law `numbers_are_told`)
abbrev pub told_number : ℕ → ℕ
told_number n = value_of (decimal n)

-- A LINE

-- what a command asks for, and of which data set
pub data Order : Type 0 where
  Creates : List ℕ → Order
  Deletes : List ℕ → Order
  SetsList : List ℕ → Order
  ShowsList : List ℕ → Order
  Lists : List ℕ → Order
  ShowsNames : Order

-- a command: of which account, what was answered, and by what it was granted
pub record Ordering : Type 0 where
  pub account : List ℕ
  pub order : Order
  pub said : Said
  -- the mode of the data set that it has made
  pub mode : Option Mode
  -- the list that it has set
  pub list : Option (List Entry)
  pub grant : Option Grant

pub data Told : Type 0 where
  -- the job of this number, for this account, is loaded; or is not, and why
  Loads : ℕ → List ℕ → Told
  Refuses : ℕ → List ℕ → LoadError → Told
  -- a job asks, and is answered
  Asks : AuditedRequest → Answer → Told
  -- a job has ended, and after how many statements
  Ends : ℕ → List ℕ → Ending → ℕ → Told
  -- a command is answered
  Orders : Ordering → Told
  -- a CATALOG of this account shows a data set
  Shows : List ℕ → List ℕ → Option Grant → Told

-- WHY, AND BY WHAT

-- an entry's type where it has no name
abbrev pub unnamed : Tag → Tag
unnamed User = UserObj
unnamed Group = GroupObj
unnamed UserObj = UserObj
unnamed GroupObj = GroupObj
unnamed Mask = Mask
unnamed Other = Other

-- An entry is told as it is written: one of a user, or of a group, without a name is the owner's, or the owning group's. (No list has such an
-- entry of another type.)
abbrev pub told_reason : Reason → Reason
told_reason (By tag None) = By (unnamed tag) None
told_reason (By tag (Some name)) = By tag (Some name)
told_reason NoSet = NoSet
told_reason NotOwner = NotOwner
told_reason NoUnit = NoUnit
told_reason InStream = InStream
told_reason SpoolUnit = SpoolUnit
told_reason WrongMode = WrongMode

abbrev pub told_grant : Grant → Grant
told_grant AsOwner = AsOwner
told_grant (ByEntry reason) = ByEntry (told_reason reason)

-- OF JOBS

-- an answer but for the characters of a record
abbrev pub told_answer : Answer → Answer
told_answer Done = Done
told_answer (Got line) = Got []
told_answer EndOfFile = EndOfFile
told_answer (Denied reason) = Denied (told_reason reason)
told_answer Full = Full

-- the entry that granted what was not denied
abbrev pub told_by : Option Reason → Answer → Option Reason
told_by grant (Denied reason) = None
told_by grant Done = option_map told_reason grant
told_by grant (Got line) = option_map told_reason grant
told_by grant EndOfFile = option_map told_reason grant
told_by grant Full = option_map told_reason grant

abbrev pub told_request : AuditedRequest → Answer → AuditedRequest
told_request asked answer = record {
  number = told_number asked.number;
  account = asked.account;
  statement = told_number asked.statement;
  act = asked.act;
  unit = told_number asked.unit;
  target = asked.target;
  place = told_number asked.place;
  grant = told_by asked.grant answer;
}

abbrev pub told_unit : UnitError → UnitError
told_unit (UnitRange unit) = UnitRange (told_number unit)
told_unit (UnitTwice unit) = UnitTwice (told_number unit)

abbrev pub told_syntax : SyntaxError → SyntaxError
told_syntax error = record { code = error.code; place = record { card = told_number error.place.card; column = told_number error.place.column } }

abbrev pub told_refusal : LoadError → LoadError
told_refusal NoSlot = NoSlot
told_refusal LacksAccount = LacksAccount
told_refusal (Cards error) = Cards (told_unit error)
told_refusal (Syntax error) = Syntax (told_syntax error)

abbrev pub told_ending : Ending → Ending
told_ending (MatchLimit n) = MatchLimit (told_number n)
told_ending (Faults fault n) = Faults fault (told_number n)
told_ending Normal = Normal
told_ending StatementLimit = StatementLimit
told_ending Memory = Memory

-- OF COMMANDS

abbrev pub told_error : AclError → AclError
told_error (BadTag n) = BadTag (told_number n)
told_error (BadQualifier n) = BadQualifier (told_number n)
told_error (BadPerms n) = BadPerms (told_number n)
told_error (Missing tag) = Missing (unnamed tag)
told_error (Twice n) = Twice (told_number n)
told_error NoMask = NoMask
told_error (TooMany n) = TooMany (told_number n)

abbrev pub told_reply : Reply → Reply
told_reply (reply.BadList error) = reply.BadList (told_error error)
told_reply reply.Done = reply.Done
told_reply reply.NoAccount = reply.NoAccount
told_reply (reply.Denied reason) = reply.Denied (told_reason reason)
told_reply reply.NameTaken = reply.NameTaken
told_reply reply.CatalogueFull = reply.CatalogueFull

abbrev pub told_said : Said → Said
told_said (ToldReply reply) = ToldReply (told_reply reply)
told_said (Records n) = Records (told_number n)
told_said (Entries n) = Entries (told_number n)
told_said (Names n) = Names (told_number n)

abbrev pub told_order : Command → Order
told_order (Create account name mode) = Creates name
told_order (Delete account name) = Deletes name
told_order (SetAcl account name text) = SetsList name
told_order (ShowAcl account name) = ShowsList name
told_order (Listing account name) = Lists name
told_order (Catalog account) = ShowsNames

-- of a command that is done
abbrev pub if_told : {A : Type 0} → Said → Option A → Option A
if_told (ToldReply reply.Done) told = told
if_told said told = None

abbrev pub made_mode : Command → Option Mode
made_mode (Create account name mode) = Some mode
made_mode command = None

-- by what it was granted, where it was
abbrev pub last_told : Said → Option Grant → Option Grant
last_told said grant = if is_granted said then option_map told_grant grant else None

abbrev pub set_list : Command → Option (List Entry) → Option (List Entry)
set_list (SetAcl account name text) list = list
set_list (Create account name mode) list = None
set_list (Delete account name) list = None
set_list (ShowAcl account name) list = None
set_list (Listing account name) list = None
set_list (Catalog account) list = None

-- what the line of a command tells
abbrev pub told_command : Command → Said → Option (List Entry) → Option Grant → Told
told_command command said list grant = Orders (record {
  account = account_of command;
  order = told_order command;
  said = told_said said;
  mode = if_told said (made_mode command);
  list = if_told said (set_list command list);
  grant = last_told said grant;
})
