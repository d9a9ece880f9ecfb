-- What the audit says of a command (own): who gives it, which, of which data set, what was answered, and by what it was granted; a new list
-- stands in the line whole. Behind the line of a CATALOG stand those of the data sets that it shows.
use Rattle.std.specs.Prelude.{ℕ, List, [], ◌++◌, length, codes, Option, Ok, Err}
use Rattle.std.specs.Option.{option_and_then}
use Rattle.acl_text.specs.Forms.{list_of_text}
use Rattle.acl_text.specs.Printing.{short_form}
use Rattle.mon_catalogue.specs.Modes.{mode_word}
use Rattle.mon_access.specs.declared.account.Account.{Account}
use Rattle.mon_catalogue.specs.Sets.{Sets}
use Rattle.deck_lines.specs.declared.command.Command.{Command}
use Rattle.deck_lines.specs.declared.command.Command.TheVariants.{Create, Delete, SetAcl, ShowAcl, List as Listing, Catalog}
use Rattle.deck_lines.specs.Commands.{account_of}
use Rattle.mon_command.specs.declared.reply.Reply.TheVariants.{Done}
use Rattle.mon_command.specs.Commanded.{Answer, Told, Records, Shown, Names}
use Rattle.mon_command.specs.Printouts.{word, number}
use Rattle.mon_command.specs.Replies.{reply_text}
use Rattle.audit.specs.declared.grants.Grant.{Grant}
use Rattle.audit.specs.Words.{command_line}
use Rattle.audit.specs.Grants.{command_grant, granted_words}
use Rattle.audit.specs.Catalogs.{shown_lines}

-- the card's word, and the data set's name
abbrev pub card_words : Command → List ℕ
card_words (Create account name mode) = codes " CREATE" ++ word name
card_words (Delete account name) = codes " DELETE" ++ word name
card_words (SetAcl account name text) = codes " SETACL" ++ word name
card_words (ShowAcl account name) = codes " SHOWACL" ++ word name
card_words (Listing account name) = codes " LIST" ++ word name
card_words (Catalog account) = codes " CATALOG"

-- of a command that is done, what a new data set is, or the list that is set, as its text spells it
abbrev pub made_words : Command → List ℕ
made_words (Create account name mode) = word (mode_word mode)
made_words (SetAcl account name text) = elim (list_of_text text) [ Ok list ↦ word (short_form list) | Err refusal ↦ [] ]
made_words _ = []

-- the reply; or how many records were shown, how many entries of a list, how many names. What is done or shown was granted.
abbrev pub outcome_words : Command → Option Grant → Answer → List ℕ
outcome_words command grant (Told Done) = codes " DONE" ++ made_words command ++ granted_words grant
outcome_words command grant (Told reply) = word (reply_text reply)
outcome_words command grant (Records records) = codes " RECORDS" ++ number (length records) ++ granted_words grant
outcome_words command grant (Shown list) = codes " ENTRIES" ++ number (length list.acl) ++ granted_words grant
outcome_words command grant (Names names) = codes " NAMES" ++ number (length names) ++ granted_words grant

-- all that is said of a command of this account, if it is known, that was answered so over these data sets
abbrev pub ordered_lines : Option Account → Sets → Command → Answer → List ℕ
ordered_lines known sets command answer =
    command_line (account_of command) (card_words command ++ outcome_words command (option_and_then (λ a. command_grant a sets command) known) answer)
    ++ shown_lines known sets command
