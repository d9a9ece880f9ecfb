-- What the audit says of the data sets that a CATALOG shows (own): each has a line of its own, in their order, and the entry of its list that
-- grants x.
use Rattle.std.specs.Prelude.{ℕ, List, [], ◌++◌, codes, Option}
use Rattle.std.specs.List.{flat_map}
use Rattle.std.specs.Option.{option_map_or}
use Rattle.mon_acl.specs.Permissions.{to_execute}
use Rattle.mon_access.specs.declared.account.Account.{Account}
use Rattle.mon_catalogue.specs.declared.data_set.DataSet.{DataSet}
use Rattle.mon_catalogue.specs.Sets.{Sets}
use Rattle.mon_guard.specs.Views.{names_shown}
use Rattle.deck_lines.specs.declared.command.Command.{Command}
use Rattle.deck_lines.specs.declared.command.Command.TheVariants.{Catalog}
use Rattle.mon_command.specs.Printouts.{word}
use Rattle.audit.specs.Words.{command_line}
use Rattle.audit.specs.Grants.{by_entry, granted_words}

-- of one data set
abbrev pub shown_line : List ℕ → Account → List ℕ × DataSet → List ℕ
shown_line by account named =
    command_line by (codes " CATALOG SHOWN" ++ word named.0 ++ granted_words (by_entry account named.1 to_execute))

-- of all whose names are shown to the account that gives the command, if that is known
abbrev pub shown_lines : Option Account → Sets → Command → List ℕ
shown_lines known sets (Catalog by) = option_map_or (λ account. flat_map (shown_line by account) (names_shown account sets)) known []
shown_lines known sets command = []
