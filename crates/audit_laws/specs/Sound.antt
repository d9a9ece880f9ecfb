-- What stands in the lines of an audit has the form that names and entries have (own): so it is in each history of a deck (law `histories_are_sound`).
use Rattle.std.specs.Prelude.{◌≡◌, ℕ, true, List, All, None, Some, Ok}
use Rattle.std.specs.List.{AllByRecursion}
use Rattle.mon_text.specs.Names.{IsName}
use Rattle.mon_acl.specs.declared.entries.Entry.{Entry as ListEntry}
use Rattle.mon_acl.specs.Entries.{is_qualified, IsEntry, IsAcl}
use Rattle.acl_text.specs.declared.text.AclText.{AclText}
use Rattle.acl_text.specs.Forms.{list_of_text}
use Rattle.mon_catalogue.specs.declared.data_set.DataSet.{DataSet}
use Rattle.mon_catalogue.specs.Sets.{Sets}
use Rattle.interaction.specs.declared.answer.Reason.{Reason}
use Rattle.interaction.specs.declared.answer.Reason.TheVariants.{By}
use Rattle.interaction.specs.declared.answer.Answer.{Answer}
use Rattle.interaction.specs.declared.answer.Answer.TheVariants.{Denied}
use Rattle.deck_lines.specs.declared.command.Command.{Command}
use Rattle.deck_lines.specs.declared.command.Command.TheVariants.{Create, Delete, SetAcl, ShowAcl, List as Listing, Catalog}
use Rattle.mon_command.specs.declared.reply.Reply.{Reply}
use Rattle.mon_command.specs.declared.reply.Reply.TheVariants as reply
use Rattle.mon_command.specs.declared.said.Said.{Said}
use Rattle.mon_command.specs.declared.said.Said.TheVariants.{Told, Records, Entries, Names}
use Rattle.mon_command.specs.Saying.{said_of}
use Rattle.mon_unit.specs.Laws.{target_of}
use Rattle.audit.specs.Laws.{IsNamed}
use Rattle.scheduler.specs.Exchanged.{Exchanged}
use Rattle.mon_monitor.specs.History.{Entry, Entered, Refused, Asked, Ended, Ordered}

-- an entry of a list that is named has a name that it may have, or none
abbrev pub IsEntryNamed : Reason → Type 0
IsEntryNamed (By tag None) = Unit {0}
IsEntryNamed (By tag (Some name)) = is_qualified tag (Some name) ≡ true
IsEntryNamed reason = Unit {0}

-- and so it is with why something is denied
abbrev pub IsReasonNamed : Answer → Type 0
IsReasonNamed (Denied reason) = IsEntryNamed reason
IsReasonNamed answer = Unit {0}

abbrev pub IsReplyNamed : Reply → Type 0
IsReplyNamed (reply.Denied reason) = IsEntryNamed reason
IsReplyNamed reply.Done = Unit {0}
IsReplyNamed reply.NoAccount = Unit {0}
IsReplyNamed reply.NameTaken = Unit {0}
IsReplyNamed reply.CatalogueFull = Unit {0}
IsReplyNamed (reply.BadList error) = Unit {0}

abbrev pub IsSaidNamed : Said → Type 0
IsSaidNamed (Told reply) = IsReplyNamed reply
IsSaidNamed (Records n) = Unit {0}
IsSaidNamed (Entries n) = Unit {0}
IsSaidNamed (Names n) = Unit {0}

-- a data set has a name, and its list entries that a list may have
abbrev pub IsWellNamed : List ℕ × DataSet → Type 0
IsWellNamed named = IsName named.0 × All IsEntry named.1.acl

abbrev pub AreWellNamed : Sets → Type 0
AreWellNamed sets = AllByRecursion IsWellNamed sets

-- what a command names
abbrev pub AreNamed : Command → Type 0
AreNamed (Create account name mode) = IsName account × IsName name
AreNamed (Delete account name) = IsName account × IsName name
AreNamed (SetAcl account name text) = IsName account × IsName name
AreNamed (ShowAcl account name) = IsName account × IsName name
AreNamed (Listing account name) = IsName account × IsName name
AreNamed (Catalog account) = IsName account

pub record IsSoundExchange (e : Exchanged) : Type 0 where
  pub account : IsName e.account.name
  pub target : IsNamed (target_of e.reach.units e.request)
  pub sets : AreWellNamed e.reach.sets
  pub reason : IsReasonNamed e.answer

abbrev pub IsSound : Entry → Type 0
IsSound (Entered deck) = IsName deck.account
IsSound (Refused deck refusal) = IsName deck.account
IsSound (Asked e) = IsSoundExchange e
IsSound (Ended end) = IsName end.account
IsSound (Ordered known sets command answer) = AreNamed command × (AreWellNamed sets × IsSaidNamed (said_of answer))

-- a list that a text spells is one that a data set may have
abbrev pub ListsAreSpelled : Type 0
ListsAreSpelled = (text : AclText) (es : List ListEntry) → list_of_text text ≡ Ok es → IsAcl es
