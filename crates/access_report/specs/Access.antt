-- Who may do what (own): for each data set and each account what the access check answers, and of what it denies, the entry.
use Rattle.std.specs.Prelude.{ℕ, Bool, true, List, [], ◌∷◌, ◌++◌, length, Option, None, Some, slice_get, bytes_eq, codes, decimal, if◌then◌else◌}
use Rattle.std.specs.List.{flat_map}
use Rattle.std.specs.Option.{option_map_or}
use Rattle.mon_acl.specs.declared.entries.Entry.{Entry}
use Rattle.acl_text.specs.Printing.{entry_head, short_form}
use Rattle.mon_access.specs.declared.account.Account.{Account}
use Rattle.mon_access.specs.declared.access.Decision.{Decision}
use Rattle.mon_access.specs.declared.access.Decision.TheVariants.{Granted, Denied}
use Rattle.mon_access.specs.declared.access.Decider.{Decider}
use Rattle.mon_access.specs.declared.access.Decider.TheVariants.{UserObj, User, Group, Mask, Other}
use Rattle.mon_access.specs.declared.compiled.CompiledAcl.{CompiledAcl}
use Rattle.mon_access.specs.Compiling.{compiled}
use Rattle.mon_catalogue.specs.declared.data_set.DataSet.{DataSet}
use Rattle.mon_catalogue.specs.Modes.{mode_word}
use Rattle.mon_catalogue.specs.Sets.{Sets}
use Rattle.access_report.specs.declared.question.Form.{Form}
use Rattle.access_report.specs.declared.question.Form.TheVariants.{Page, Csv}
use Rattle.access_report.specs.declared.question.Question.{Question}

-- what the access check answers for an account on a data set, for each permission by itself
abbrev pub answered : DataSet → Account → CompiledAcl
answered set account = compiled account set.owner set.group set.acl

-- the entry of a list that decided a denial, without its permissions, as `user:lisa:`
abbrev pub decider_text : List Entry → Decider → List ℕ
decider_text acl UserObj = codes "user::"
decider_text acl (User index) = option_map_or entry_head (slice_get acl index) []
decider_text acl (Group index) = option_map_or entry_head (slice_get acl index) []
decider_text acl Mask = codes "mask::"
decider_text acl Other = codes "other::"

-- the letter of a permission that is granted; `-` for one that is denied
abbrev pub place : ℕ → Decision → ℕ
place letter Granted = letter
place letter (Denied decider) = 45

-- ` r-x`
abbrev pub places : CompiledAcl → List ℕ
places ready = 32 ∷ place 114 ready.read ∷ place 119 ready.write ∷ place 120 ready.execute ∷ []

-- ` w BY mask::`, of a permission that is denied
abbrev pub denial : ℕ → List Entry → Decision → List ℕ
denial letter acl Granted = []
denial letter acl (Denied decider) = (32 ∷ letter ∷ codes " BY ") ++ decider_text acl decider

abbrev pub denials : List Entry → CompiledAcl → List ℕ
denials acl ready = denial 114 acl ready.read ++ denial 119 acl ready.write ++ denial 120 acl ready.execute

-- ` lisa r-- w BY mask:: x BY user:lisa:`
abbrev pub answer_line : List ℕ → List Entry → CompiledAcl → List ℕ
answer_line account acl ready = codes " " ++ account ++ places ready ++ denials acl ready ++ codes "\n"

-- `granted,`, or `denied,mask::`
abbrev pub csv_answer : List Entry → Decision → List ℕ
csv_answer acl Granted = codes "granted,"
csv_answer acl (Denied decider) = codes "denied," ++ decider_text acl decider

-- `lisa,PAYROLL,w,denied,mask::`
abbrev pub csv_line : List ℕ → List ℕ → ℕ → List Entry → Decision → List ℕ
csv_line set account letter acl decision =
    account ++ codes "," ++ set ++ (44 ∷ letter ∷ 44 ∷ []) ++ csv_answer acl decision ++ codes "\n"

abbrev pub csv_lines : List ℕ → List ℕ → List Entry → CompiledAcl → List ℕ
csv_lines set account acl ready =
    csv_line set account 114 acl ready.read ++ csv_line set account 119 acl ready.write ++ csv_line set account 120 acl ready.execute

-- what is told of an account on a data set: a line, or a line a permission
abbrev pub account_answer : Form → List ℕ × DataSet → Account → List ℕ
account_answer Page named account = answer_line account.name named.1.acl (answered named.1 account)
account_answer Csv named account = csv_lines named.0 account.name named.1.acl (answered named.1 account)

-- ` GROUP admin MODE SEQ RECORDS 3`
abbrev pub rest_of_heading : DataSet → List ℕ
rest_of_heading set =
    codes " GROUP " ++ set.group ++ codes " MODE " ++ mode_word set.mode ++ codes " RECORDS " ++ decimal (length set.records)

-- a data set's owner, group, mode and number of records, and its permission list
abbrev pub set_heading : List ℕ → DataSet → List ℕ
set_heading name set =
    codes "SET " ++ name ++ codes " OWNER " ++ set.owner ++ rest_of_heading set ++ codes "\nLIST " ++ short_form set.acl ++ codes "\n"

abbrev pub heading : Form → List ℕ × DataSet → List ℕ
heading Page named = set_heading named.0 named.1
heading Csv named = []

-- a name is asked about: it is the one that is named, or none is
abbrev pub is_asked : Option (List ℕ) → List ℕ → Bool
is_asked None name = true
is_asked (Some one) name = bytes_eq one name

abbrev pub account_part : Question → List ℕ × DataSet → Account → List ℕ
account_part question named account = if is_asked question.account account.name then account_answer question.form named account else []

-- what is told of a data set: its heading, and then of each account that is asked about, in the order of the table
abbrev pub set_answers : Question → List Account → List ℕ × DataSet → List ℕ
set_answers question accounts named = heading question.form named ++ flat_map (account_part question named) accounts

abbrev pub set_part : Question → List Account → List ℕ × DataSet → List ℕ
set_part question accounts named = if is_asked question.set named.0 then set_answers question accounts named else []

-- the names of the fields
abbrev pub title : Form → List ℕ
title Page = []
title Csv = codes "account,set,permission,answer,entry\n"

-- who may do what: of each data set that is asked about, in the order of the catalogue, and of each such account
abbrev pub access_text : Question → List Account → Sets → List ℕ
access_text question accounts sets = title question.form ++ flat_map (set_part question accounts) sets
