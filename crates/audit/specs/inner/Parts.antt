-- Parts of what the audit says by names of their own: for the code and for proofs.
use Rattle.std.specs.Prelude.{ℕ, List, [], ◌∷◌, ◌++◌, codes, Option, Some, slice_get}
use Rattle.std.specs.Option.{option_map_or}
use Rattle.mon_command.specs.declared.reply.Reply.{Reply}
use Rattle.mon_command.specs.declared.reply.Reply.TheVariants.{Done, NoAccount, Denied, NameTaken, CatalogueFull, BadList}
use Rattle.interaction.specs.declared.answer.Reason.{Reason}
use Rattle.mon_command.specs.Printouts.{word}
use Rattle.mon_command.specs.Replies.{reason_text}
use Rattle.acl_text.specs.Printing.{short_form}
use Rattle.mon_access.specs.declared.account.Account.{Account}
use Rattle.mon_catalogue.specs.Sets.{Sets, find_set}
use Rattle.deck_lines.specs.declared.command.Command.{Command}
use Rattle.deck_lines.specs.declared.command.Command.TheVariants.{Delete, SetAcl}
use Rattle.mon_command.specs.declared.said.Said.{Said}
use Rattle.audit.specs.declared.grants.Grant.{Grant}
use Rattle.audit.specs.declared.grants.Grant.TheVariants.{AsOwner}
use Rattle.audit.specs.Words.{command_line}
use Rattle.audit.specs.Grants.{known_grant}
use Rattle.audit.specs.Catalogs.{shown_lines}
use Rattle.audit.specs.Commands.{said_line}

abbrev pub if_reply_done : Reply → List ℕ → List ℕ
if_reply_done Done words = words
if_reply_done NoAccount words = []
if_reply_done (Denied reason) words = []
if_reply_done NameTaken words = []
if_reply_done CatalogueFull words = []
if_reply_done (BadList error) words = []

-- the entry that granted it, if it was one that did
abbrev pub grant_words : Option Reason → List ℕ
grant_words grant = option_map_or (λ reason. word (reason_text reason)) grant []

-- Where a command is done, the list that it set stands in the data sets as it has left them,
abbrev pub listed : Command → Sets → List ℕ
listed (SetAcl account name text) sets = option_map_or (λ set. word (short_form set.acl)) (find_set name sets) []
listed _ sets = []

-- and by what it was granted they tell, too: what only the owner may do needs no look at them, and the others leave them as they are.
abbrev pub grant_after : Option Account → Sets → Command → Option Grant
grant_after known sets (Delete account name) = Some AsOwner
grant_after known sets (SetAcl account name text) = Some AsOwner
grant_after known sets command = known_grant known sets command

-- so all of its lines are told by them
abbrev pub lines_after : Option Account → Sets → Command → Said → List ℕ
lines_after known sets command said = said_line command said (listed command sets) (grant_after known sets command) ++ shown_lines known sets command

-- the line of a data set of this name whose list has an entry that grants x
abbrev pub entry_line : List ℕ → List ℕ → Reason → List ℕ
entry_line by name reason = command_line by (codes " CATALOG SHOWN" ++ word name ++ word (reason_text reason))

-- the data set at an index, where there is one
abbrev pub set_at_index : Sets → ℕ → Sets
set_at_index sets index = option_map_or (λ named. named ∷ []) (slice_get sets index) []
