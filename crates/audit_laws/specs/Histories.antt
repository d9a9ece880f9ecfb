-- WHAT THE AUDIT OF A DECK TELLS OF ITS HISTORY (own): of each entry what its line says; of a CATALOG also which data sets it showed.
use Rattle.std.specs.Prelude.{List, [], ◌∷◌, map, option_map, Option, None}
use Rattle.std.specs.Option.{option_map_or}
use Rattle.std.specs.Result.{result_ok}
use Rattle.mon_acl.specs.Permissions.{to_execute}
use Rattle.mon_acl.specs.declared.entries.Entry.{Entry as ListEntry}
use Rattle.acl_text.specs.Forms.{list_of_text}
use Rattle.mon_access.specs.declared.account.Account.{Account}
use Rattle.mon_catalogue.specs.Sets.{Sets}
use Rattle.mon_guard.specs.Views.{names_shown}
use Rattle.deck_lines.specs.declared.command.Command.{Command}
use Rattle.deck_lines.specs.declared.command.Command.TheVariants.{Create, Delete, SetAcl, ShowAcl, List as Listing, Catalog}
use Rattle.mon_command.specs.Saying.{said_of}
use Rattle.audit.specs.Grants.{by_entry, known_grant}
use Rattle.audit.specs.Requests.{asked_of}
use Rattle.mon_monitor.specs.History.{Entry, Entered, Refused, Asked, Ended, Ordered}
use Rattle.audit_laws.specs.Telling.{Told, Loads, Refuses, Asks, Ends, Shows}
use Rattle.audit_laws.specs.Telling.{told_number, told_refusal, told_request, told_answer, told_ending, told_grant, told_command}

-- the list that a command is to set, where its text spells one
abbrev pub list_of : Command → Option (List ListEntry)
list_of (SetAcl account name text) = result_ok (list_of_text text)
list_of (Create account name mode) = None
list_of (Delete account name) = None
list_of (ShowAcl account name) = None
list_of (Listing account name) = None
list_of (Catalog account) = None

-- the data sets that a command shows, each with the entry of its list that grants x
abbrev pub told_shown : Option Account → Sets → Command → List Told
told_shown known sets (Catalog by) =
    option_map_or (λ account. map (λ named. Shows by named.0 (option_map told_grant (by_entry account named.1 to_execute))) (names_shown account sets)) known []
told_shown known sets (Create account name mode) = []
told_shown known sets (Delete account name) = []
told_shown known sets (SetAcl account name text) = []
told_shown known sets (ShowAcl account name) = []
told_shown known sets (Listing account name) = []

-- what is told of an entry, line by line
abbrev pub told_of : Entry → List Told
told_of (Entered deck) = Loads (told_number deck.number) deck.account ∷ []
told_of (Refused deck refusal) = Refuses (told_number deck.number) deck.account (told_refusal refusal) ∷ []
told_of (Asked e) = Asks (told_request (asked_of e.number e.account e.reach e.request) e.answer) (told_answer e.answer) ∷ []
told_of (Ended end) = Ends (told_number end.number) end.account (told_ending end.ending) (told_number end.statements) ∷ []
told_of (Ordered known sets command answer) =
    told_command command (said_of answer) (list_of command) (known_grant known sets command) ∷ told_shown known sets command
