-- The line of a command as it is told by what was said to it, without what it was shown: for the code, and for laws.
use Rattle.std.specs.Prelude.{ℕ, List, [], ◌++◌, codes, Option, Ok, Err}
use Rattle.acl_text.specs.Forms.{list_of_text}
use Rattle.acl_text.specs.Printing.{short_form}
use Rattle.mon_catalogue.specs.Modes.{mode_word}
use Rattle.mon_access.specs.declared.account.Account.{Account}
use Rattle.mon_catalogue.specs.Sets.{Sets}
use Rattle.deck_lines.specs.declared.command.Command.{Command}
use Rattle.deck_lines.specs.declared.command.Command.TheVariants.{Create, SetAcl}
use Rattle.mon_command.specs.declared.reply.Reply.TheVariants.{Done}
use Rattle.mon_command.specs.declared.said.Said.{Said}
use Rattle.mon_command.specs.declared.said.Said.TheVariants.{Told, Records, Entries, Names}
use Rattle.deck_lines.specs.Commands.{account_of}
use Rattle.mon_command.specs.Printouts.{word, number}
use Rattle.mon_command.specs.Replies.{reply_text}
use Rattle.audit.specs.declared.grants.Grant.{Grant}
use Rattle.audit.specs.Words.{command_line}
pub use Rattle.audit.specs.Ordered.{card_words}
use Rattle.audit.specs.Grants.{known_grant, last_words}
use Rattle.audit.specs.Catalogs.{shown_lines}

-- the reply; or how many records were shown, how many entries of a list, how many names
abbrev pub said_words : Said → List ℕ
said_words (Told reply) = word (reply_text reply)
said_words (Records n) = codes " RECORDS" ++ number n
said_words (Entries n) = codes " ENTRIES" ++ number n
said_words (Names n) = codes " NAMES" ++ number n

-- of a command that is done, what a new data set is, or what the list is now
abbrev pub done_words : Command → List ℕ → List ℕ
done_words (Create account name mode) list = word (mode_word mode)
done_words (SetAcl account name text) list = list
done_words _ list = []

abbrev pub if_done : Said → List ℕ → List ℕ
if_done (Told Done) words = words
if_done _ words = []

-- the line of a command that this was said to, with the words of the list that it has set, and by what it was granted
abbrev pub said_line : Command → Said → List ℕ → Option Grant → List ℕ
said_line command said list grant =
    command_line (account_of command) (card_words command ++ said_words said ++ if_done said (done_words command list) ++ last_words said grant)

-- the list that a command is to set, where its text spells one
abbrev pub spelled : Command → List ℕ
spelled (SetAcl account name text) = elim (list_of_text text) [ Ok list ↦ word (short_form list) | Err refusal ↦ [] ]
spelled _ = []

-- the lines of a command to which this was said
abbrev pub said_lines : Option Account → Sets → Command → Said → List ℕ
said_lines known sets command said = said_line command said (spelled command) (known_grant known sets command) ++ shown_lines known sets command
