-- What holds of the audit of a history.
use Rattle.std.specs.Prelude.{◌≡◌, ℕ, ◌⊎◌, List, Option, Some, IsSome, Contains}
use Rattle.std.specs.List.{AllByRecursion}
use Rattle.interaction.specs.declared.answer.Answer.TheVariants.{Got}
use Rattle.mon_acl.specs.Permissions.{to_execute}
use Rattle.mon_access.specs.declared.account.Account.{Account}
use Rattle.mon_catalogue.specs.declared.data_set.DataSet.{DataSet}
use Rattle.mon_catalogue.specs.Sets.{Sets}
use Rattle.mon_guard.specs.Views.{AclPart, names_shown}
use Rattle.deck_lines.specs.declared.command.Command.{Command}
use Rattle.deck_lines.specs.declared.command.Command.TheVariants.{Create, Delete, SetAcl, ShowAcl, List as Listing, Catalog}
use Rattle.mon_command.specs.declared.reply.Reply.TheVariants as reply
use Rattle.mon_command.specs.Commanded as commands
use Rattle.mon_command.specs.Commanded.{Told, Records, Shown}
use Rattle.mon_unit.specs.declared.tie.Target.TheVariants.{Data}
use Rattle.mon_unit.specs.Serving.{serve}
use Rattle.mon_unit.specs.Laws.{target_of}
use Rattle.audit.specs.declared.request.AuditedRequest.{AuditedRequest as Line}
use Rattle.audit.specs.Requests.{asked_of}
use Rattle.audit.specs.declared.grants.Grant.TheVariants.{AsOwner}
use Rattle.audit.specs.Grants.{by_entry, known_grant}
use Rattle.scheduler.specs.Exchanged.{Exchanged}
use Rattle.mon_monitor.specs.History.{Entry, Entered, Refused, Asked, Ended, Ordered}
use Rattle.mon_monitor.specs.Headline.{IsRight}

-- what the line of a request says
abbrev pub line_of : Exchanged → Line
line_of e = asked_of e.number e.account e.reach e.request

-- A request whose line names the entry that granted it, if it got a record of a data set, or changed a data set.
pub record NamesItsGrant (e : Exchanged) : Type 0 where
  pub got : (line : List ℕ) → e.answer ≡ Got line → (target_of e.reach.units e.request ≡ Data) ⊎ IsSome (line_of e).grant
  pub changed : ((serve e.account e.reach e.request).1.sets ≡ e.reach.sets) ⊎ IsSome (line_of e).grant

-- A command of this account, if it is known, whose lines name by what it was granted: the one of LIST and SHOWACL, if records or a list were
-- shown, and of DELETE and SETACL, if a data set was changed, which only its owner may; and of CATALOG that of each data set that was shown.
abbrev pub NamesGrants : Option Account → Sets → Command → commands.Answer → Type 0
NamesGrants known sets (Listing by name) answer = (records : List (List ℕ)) → answer ≡ Records records → IsSome (known_grant known sets (Listing by name))
NamesGrants known sets (ShowAcl by name) answer = (list : AclPart) → answer ≡ Shown list → IsSome (known_grant known sets (ShowAcl by name))
NamesGrants known sets (Delete by name) answer = answer ≡ Told reply.Done → known_grant known sets (Delete by name) ≡ Some AsOwner
NamesGrants known sets (SetAcl by name text) answer = answer ≡ Told reply.Done → known_grant known sets (SetAcl by name text) ≡ Some AsOwner
NamesGrants known sets (Catalog by) answer = (account : Account) (named : List ℕ × DataSet)
    → known ≡ Some account → Contains (names_shown account sets) named → IsSome (by_entry account named.1 to_execute)
NamesGrants known sets (Create by name mode) answer = Unit {0}

abbrev pub IsNamed : Entry → Type 0
IsNamed (Asked e) = NamesItsGrant e
IsNamed (Entered deck) = Unit {0}
IsNamed (Refused deck refusal) = Unit {0}
IsNamed (Ended end) = Unit {0}
IsNamed (Ordered known sets command answer) = NamesGrants known sets command answer

-- Of entries that are right, as those of each history are (law `history_tells` of mon_monitor): no record is got and no data set changed by a
-- job, and nothing shown to a command or changed by one that stood before it, but a line of the audit names by what that was granted: the
-- entry of the set's list, or that the account is its owner.
abbrev pub AccessesAreNamed : Type 0
AccessesAreNamed = (accounts : List Account) (entries : List Entry) → AllByRecursion (IsRight accounts) entries → AllByRecursion IsNamed entries
