-- What holds of every command, whatever the account table, the data sets and the command are.
-- Each is the contract of a function in `laws`. Who may do what is said by the laws of the guard.
use Rattle.std.specs.Prelude.{◌≡◌, ◌≢◌, ◌↔◌, ℕ, List, ◌∷◌, ◌++◌, Some, None}
use Rattle.mon_access.specs.declared.account.Account.{Account}
use Rattle.mon_access.specs.Accounts.{find_account}
use Rattle.mon_catalogue.specs.declared.data_set.DataSet.{DataSet}
use Rattle.mon_catalogue.specs.Sets.{Sets, find_set}
use Rattle.interaction.specs.declared.answer.Reason.{Reason}
use Rattle.mon_guard.specs.Views.{AclPart, names_lent}
use Rattle.mon_guard.specs.Laws.{MaySeeName, AreForReading, IsForSeeing, Creates, Removes, SetsList, WhyNotOwner, WhyNotSeeList, WhyNotRead}
use Rattle.deck_lines.specs.declared.command.Command.{Command}
use Rattle.deck_lines.specs.declared.command.Command.TheVariants.{Create, Delete, SetAcl, ShowAcl, List as Listing, Catalog}
use Rattle.mon_command.specs.declared.reply.Reply.{Reply}
use Rattle.mon_command.specs.declared.reply.Reply.TheVariants.{Done, NoAccount, Denied}
use Rattle.mon_command.specs.Commands.{heading}
use Rattle.deck_lines.specs.Commands.{account_of}
use Rattle.mon_command.specs.Replies.{reply_line}
use Rattle.mon_command.specs.Commanded.{Told, Records, Shown, Names, Served, answered, commanded}

-- the account of the command is known, and is this one
abbrev pub IsKnown : List Account → Command → Account → Type 0
IsKnown accounts command account = find_account accounts (account_of command) ≡ Some account

-- the command asks for a change that its account may make, and these are the data sets after it
abbrev pub Changes : Account → Command → Sets → Sets → Type 0
Changes account (Create _ name mode) sets after = Creates account sets name mode after
Changes account (Delete _ name) sets after = Removes account sets name after
Changes account (SetAcl _ name text) sets after = SetsList account sets name text after
Changes account (ShowAcl _ _) sets after = ⊥
Changes account (Listing _ _) sets after = ⊥
Changes account (Catalog _) sets after = ⊥

-- it is done, and these are the data sets after it
abbrev pub done : Sets → Served
done after = record { answer = Told Done; sets = after }

-- The data sets change exactly where a change is asked and granted: then it is told that it is done. What is told anything
-- else, or shows something, changes nothing.
pub record ChangesExactly (accounts : List Account) (sets : Sets) (command : Command) : Type 0 where
  pub changed : (account : Account) (after : Sets) → IsKnown accounts command account
      → (answered accounts sets command ≡ done after) ↔ Changes account command sets after
  pub kept : (answered accounts sets command).answer ≢ Told Done → (answered accounts sets command).sets ≡ sets
  pub unknown : find_account accounts (account_of command) ≡ None
      → answered accounts sets command ≡ record { answer = Told NoAccount; sets = sets }

abbrev pub ChangesWhereGranted : Type 0
ChangesWhereGranted = (accounts : List Account) (sets : Sets) (command : Command) → ChangesExactly accounts sets command

-- the name of the data set that a command is about
abbrev pub IsNamed : Command → List ℕ → Type 0
IsNamed (Create _ name mode) other = other ≡ name
IsNamed (Delete _ name) other = other ≡ name
IsNamed (SetAcl _ name text) other = other ≡ name
IsNamed (ShowAcl _ name) other = other ≡ name
IsNamed (Listing _ name) other = other ≡ name
IsNamed (Catalog _) other = ⊥

-- and then only the data set that the command names: each other one is as before
abbrev pub OtherSetsStay : Type 0
OtherSetsStay = (accounts : List Account) (sets : Sets) (command : Command) (other : List ℕ) → (¬ IsNamed command other)
    → find_set other (answered accounts sets command).sets ≡ find_set other sets

-- a command that is refused or denied is told so in one line, and shows no record, list or name
abbrev pub RefusalsShowNothing : Type 0
RefusalsShowNothing = (accounts : List Account) (sets : Sets) (command : Command) (reply : Reply)
    → (answered accounts sets command).answer ≡ Told reply
    → (commanded accounts sets command).printout ≡ heading command ++ reply_line reply

-- A data set's records are shown exactly to whom they are for, and so are lists and names.
pub record ShowsExactly (accounts : List Account) (sets : Sets) (account : Account) (by name : List ℕ) : Type 0 where
  pub records : (records : List (List ℕ)) → ((answered accounts sets (Listing by name)).answer ≡ Records records)
      ↔ AreForReading account sets name records
  pub list : (list : AclPart) → ((answered accounts sets (ShowAcl by name)).answer ≡ Shown list)
      ↔ IsForSeeing account sets name list
  pub names : (answered accounts sets (Catalog by)).answer ≡ Names (names_lent account sets)

abbrev pub ShowsWhereGranted : Type 0
ShowsWhereGranted = (accounts : List Account) (sets : Sets) (account : Account) (by name : List ℕ)
    → find_account accounts by ≡ Some account → ShowsExactly accounts sets account by name

-- What an account may not see has no effect: what `$CATALOG` prints depends on the names, owners, groups and numbers of
-- records of the data sets that x is granted on, and on nothing else. A data set that it is not granted on may stand
-- anywhere, hold anything, or not be there.
pub record HidesTheRest (accounts : List Account) (by : List ℕ) (account : Account) : Type 0 where
  pub alike : (sets others : Sets) → names_lent account sets ≡ names_lent account others
      → (commanded accounts sets (Catalog by)).printout ≡ (commanded accounts others (Catalog by)).printout
  pub left_out : (before after : Sets) (hidden : List ℕ × DataSet) → (¬ MaySeeName account hidden.1)
      → (commanded accounts (before ++ hidden ∷ after) (Catalog by)).printout ≡ (commanded accounts (before ++ after) (Catalog by)).printout

abbrev pub HiddenSetsHaveNoEffect : Type 0
HiddenSetsHaveNoEffect = (accounts : List Account) (by : List ℕ) (account : Account)
    → find_account accounts by ≡ Some account → HidesTheRest accounts by account

-- why a command of this account is denied: what is missing, or the entry that decides by the access check
abbrev pub IsWhy : Account → Command → Sets → Reason → Type 0
IsWhy account (Create _ name mode) sets reason = ⊥
IsWhy account (Delete _ name) sets reason = WhyNotOwner account sets name reason
IsWhy account (SetAcl _ name text) sets reason = WhyNotOwner account sets name reason
IsWhy account (ShowAcl _ name) sets reason = WhyNotSeeList account sets name reason
IsWhy account (Listing _ name) sets reason = WhyNotRead account sets name reason
IsWhy account (Catalog _) sets reason = ⊥

-- Every denial names what is missing or the entry that decides, and where something is missing or decides there is that denial.
abbrev pub DenialsSayWhy : Type 0
DenialsSayWhy = (accounts : List Account) (sets : Sets) (command : Command) (account : Account) (reason : Reason)
    → IsKnown accounts command account
    → ((answered accounts sets command).answer ≡ Told (Denied reason)) ↔ IsWhy account command sets reason
