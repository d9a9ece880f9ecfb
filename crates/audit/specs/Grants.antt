-- By what a command is granted what it does or shows (own): by being the data set's owner, where only he may; or by an entry of its list.
use Rattle.std.specs.Prelude.{ℕ, Bool, true, false, List, [], codes, Option, None, Some, option_map, slice_get, if◌then◌else◌}
use Rattle.std.specs.Option.{option_and_then}
use Rattle.mon_acl.specs.declared.entries.Perms.{Perms}
use Rattle.mon_acl.specs.Permissions.{to_read, to_execute}
use Rattle.mon_access.specs.declared.account.Account.{Account}
use Rattle.mon_access.specs.Matches.{is_owner}
use Rattle.mon_access.specs.Granting.{granting}
use Rattle.mon_catalogue.specs.declared.data_set.DataSet.{DataSet}
use Rattle.mon_catalogue.specs.Sets.{Sets, find_set}
use Rattle.interaction.specs.declared.answer.Reason.{Reason}
use Rattle.interaction.specs.declared.answer.Reason.TheVariants.{By}
use Rattle.deck_lines.specs.declared.command.Command.{Command}
use Rattle.deck_lines.specs.declared.command.Command.TheVariants.{Delete, SetAcl, ShowAcl, List as Listing}
use Rattle.mon_command.specs.declared.reply.Reply.{Reply}
use Rattle.mon_command.specs.declared.reply.Reply.TheVariants.{Done}
use Rattle.mon_command.specs.declared.said.Said.{Said}
use Rattle.mon_command.specs.declared.said.Said.TheVariants.{Told}
use Rattle.mon_command.specs.Printouts.{word}
use Rattle.mon_command.specs.Replies.{reason_text}
use Rattle.audit.specs.declared.grants.Grant.{Grant}
use Rattle.audit.specs.declared.grants.Grant.TheVariants.{AsOwner, ByEntry}

-- the entry of a data set's list that grants a request, if one does
abbrev pub granting_entry : Account → DataSet → Perms → Option Reason
granting_entry account set request =
    option_map (λ e. By e.tag e.name) (option_and_then (slice_get set.acl) (granting account set.owner set.group set.acl request))

abbrev pub by_entry : Account → DataSet → Perms → Option Grant
by_entry account set request = option_map ByEntry (granting_entry account set request)

-- what only the owner of a data set may do
abbrev pub by_owner : Account → DataSet → Option Grant
by_owner account set = if is_owner account set.owner then Some AsOwner else None

-- its list is for the owner to see, and for others where x is granted
abbrev pub to_see_list : Account → DataSet → Option Grant
to_see_list account set = if is_owner account set.owner then Some AsOwner else by_entry account set to_execute

-- by what a command about one data set is granted to an account, as the sets stand before it
abbrev pub command_grant : Account → Sets → Command → Option Grant
command_grant account sets (Delete by name) = option_and_then (by_owner account) (find_set name sets)
command_grant account sets (SetAcl by name text) = option_and_then (by_owner account) (find_set name sets)
command_grant account sets (ShowAcl by name) = option_and_then (to_see_list account) (find_set name sets)
command_grant account sets (Listing by name) = option_and_then (λ set. by_entry account set to_read) (find_set name sets)
command_grant account sets command = None

-- THE WORDS

abbrev pub granted_words : Option Grant → List ℕ
granted_words grant = elim grant [ None ↦ [] | Some AsOwner ↦ codes " BY owner" | Some (ByEntry reason) ↦ word (reason_text reason) ]

-- what stands last of a command that is done, or shows something
abbrev pub last_words : Said → Option Grant → List ℕ
last_words (Told Done) grant = granted_words grant
last_words (Told reply) grant = []
last_words said grant = granted_words grant

-- NAMES OF THEIR OWN, for the code and for laws

-- by what a command is granted to its account, if that is known
abbrev pub known_grant : Option Account → Sets → Command → Option Grant
known_grant known sets command = option_and_then (λ account. command_grant account sets command) known

abbrev pub is_done : Reply → Bool
is_done Done = true
is_done reply = false

-- a command is done, or shows something
abbrev pub is_granted : Said → Bool
is_granted (Told reply) = is_done reply
is_granted said = true
