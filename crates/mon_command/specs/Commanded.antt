-- What a command is answered, and what the data sets are after it (own).
-- It is refused where its account is unknown. Else the guard does what is granted, or says why not.
use Rattle.std.specs.Prelude.{ℕ, List, ◌++◌, Result, Ok, Err}
use Rattle.mon_access.specs.declared.account.Account.{Account}
use Rattle.mon_access.specs.Accounts.{find_account}
use Rattle.mon_catalogue.specs.declared.catalogue.CreateError.{CreateError}
use Rattle.mon_catalogue.specs.declared.catalogue.CreateError.TheVariants as create
use Rattle.mon_catalogue.specs.Sets.{Sets}
use Rattle.interaction.specs.declared.answer.Reason.{Reason}
use Rattle.mon_guard.specs.declared.answer.AclAnswer.{AclAnswer}
use Rattle.mon_guard.specs.declared.answer.AclAnswer.TheVariants as acl
use Rattle.mon_guard.specs.Views.{AclPart, NamePart, records_lent, acl_lent, names_lent}
use Rattle.mon_guard.specs.Owning.{removed, acl_set, created}
use Rattle.deck_lines.specs.declared.command.Command.{Command}
use Rattle.deck_lines.specs.declared.command.Command.TheVariants.{Create, Delete, SetAcl, ShowAcl, List as Listing, Catalog}
use Rattle.mon_command.specs.declared.reply.Reply.{Reply}
use Rattle.mon_command.specs.declared.reply.Reply.TheVariants.{Done, NoAccount, Denied, NameTaken, CatalogueFull, BadList}
use Rattle.mon_command.specs.Commands.{heading}
use Rattle.deck_lines.specs.Commands.{account_of}
use Rattle.mon_command.specs.Printouts.{records_text, acl_text, names_text}
use Rattle.mon_command.specs.Replies.{reply_line}
use Rattle.std.specs.Option.{option_map_or}

-- what is printed below the command's own line
pub data Answer : Type 0 where
  -- one line: done, denied or refused
  Told : Reply → Answer
  -- these records
  Records : List (List ℕ) → Answer
  -- this owner, this group and this permission list
  Shown : AclPart → Answer
  -- these names
  Names : List NamePart → Answer

-- an answer, and the data sets after it
pub record Served : Type 0 where
  pub answer : Answer
  pub sets : Sets

-- an act is told by one line, and leaves these data sets
abbrev pub told_by : {A : Type 0} → (A → Reply) → A × Sets → Served
told_by reply outcome = record { answer = Told (reply outcome.0); sets = outcome.1 }

abbrev pub creation_reply : Result (Unit {0}) CreateError → Reply
creation_reply made = elim made [ Ok _ ↦ Done | Err create.NameTaken ↦ NameTaken | Err create.CatalogueFull ↦ CatalogueFull ]

abbrev pub removal_reply : Result (Unit {0}) Reason → Reply
removal_reply removed = elim removed [ Ok _ ↦ Done | Err reason ↦ Denied reason ]

abbrev pub acl_reply : AclAnswer → Reply
acl_reply set = elim set [ acl.Done ↦ Done | acl.Denied reason ↦ Denied reason | acl.BadList error ↦ BadList error ]

-- what the guard lends is shown, or it is told why it is denied; the data sets stay
abbrev pub shown_as : {A : Type 0} → (A → Answer) → Result A Reason → Answer
shown_as show answer = elim answer [ Ok lent ↦ show lent | Err reason ↦ Told (Denied reason) ]

-- what a known account is answered
abbrev pub served : Account → Command → Sets → Served
served account (Create _ name mode) sets = told_by creation_reply (created account sets name mode)
served account (Delete _ name) sets = told_by removal_reply (removed account sets name)
served account (SetAcl _ name text) sets = told_by acl_reply (acl_set account sets name text)
served account (ShowAcl _ name) sets = record { answer = shown_as Shown (acl_lent account sets name); sets = sets }
served account (Listing _ name) sets = record { answer = shown_as Records (records_lent account sets name); sets = sets }
served account (Catalog _) sets = record { answer = Names (names_lent account sets); sets = sets }

-- what a command is answered, and the data sets after it
abbrev pub answered : List Account → Sets → Command → Served
answered accounts sets command =
    option_map_or (λ account. served account command sets) (find_account accounts (account_of command))
    (record { answer = Told NoAccount; sets = sets })

-- what is printed below the command's own line
abbrev pub answer_text : Answer → List ℕ
answer_text (Told reply) = reply_line reply
answer_text (Records records) = records_text records
answer_text (Shown list) = acl_text list
answer_text (Names names) = names_text names

abbrev pub printed : Command → Answer → List ℕ
printed command answer = heading command ++ answer_text answer

-- the printout of a command, and the data sets after it
pub record Commanded : Type 0 where
  pub printout : List ℕ
  pub sets : Sets

abbrev pub commanded : List Account → Sets → Command → Commanded
commanded accounts sets command = let s = answered accounts sets command in record { printout = printed command s.answer; sets = s.sets }
