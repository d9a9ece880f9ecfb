-- What is said of a command is said of its answer: the list that it has set stands in the data sets as it leaves them.
use Rattle.std.proofs.Common.{◌≡◌, ℕ, Bool, true, false, List, [], ◌∷◌, ◌++◌, length, codes, Option, None, Some, Result, Ok, Err, refl, ap, sym, ◌∙◌, append_assoc, if◌then◌else◌}
use Rattle.std.specs.{Prelude.{option_map}, Option.{option_map_or, option_and_then}}
use Rattle.mon_acl.specs.declared.{entries.Entry.{Entry}, refusals.AclError.{AclError}}
use Rattle.acl_text.specs.{declared.text.AclText.{AclText}, Forms.{list_of_text}, Printing.{short_form}}
use Rattle.mon_access.specs.{declared.account.Account.{Account}, Matches.{is_owner}, Accounts.{find_account}}
use Rattle.mon_catalogue.{specs.declared.data_set.DataSet.{DataSet}, specs.Sets.{Sets, find_set}, proofs.Changed.{named_set_changes}}
use Rattle.interaction.specs.declared.answer.Reason.{Reason, TheVariants.{NoSet, NotOwner}}
use Rattle.mon_guard.specs.{declared.answer.AclAnswer.{AclAnswer}, Owning.{owner_denial}, inner.Parts.{given, acl_set_unless}}
use Rattle.mon_guard.proofs.Shorthand.{owner_denial_of, removed_unless}
use Rattle.deck_lines.specs.{declared.command.Command.{Command}, Commands.{account_of}}
use Rattle.deck_lines.specs.declared.command.Command.TheVariants.{Create, Delete, SetAcl, ShowAcl, List as Listing, Catalog}
use Rattle.mon_command.specs.{declared.reply.Reply.TheVariants.{Done, NoAccount, Denied, NameTaken, CatalogueFull, BadList}, Commanded.{Answer, Served, Told, Records, Shown, Names, told_by, removal_reply, acl_reply, served, answered}}
use Rattle.mon_command.specs.{Saying.{said_of}, Printouts.{word, number}, Replies.{reply_text}, declared.said.Said.{Said}}
use Rattle.mon_command.specs.declared.said.Said.TheVariants as said
use Rattle.audit.specs.{declared.grants.Grant.{Grant}, declared.grants.Grant.TheVariants.{AsOwner}, Grants.{by_owner}, Commands.{said_words, done_words, if_done, said_line, said_lines, spelled}}
use Rattle.audit.specs.{Grants.{granted_words, known_grant, last_words}, Catalogs.{shown_lines}, Words.{command_line}}
use Rattle.audit.specs.Ordered.{card_words, made_words, outcome_words, ordered_lines}
use Rattle.audit.specs.inner.Parts.{lines_after}

abbrev list_words : Result (List Entry) AclError → List ℕ
list_words read = elim read [ Ok list ↦ word (short_form list) | Err refusal ↦ [] ]

-- what is said of a command of a known account, over the data sets as it leaves them
abbrev pub line_after : Account → Command → Served → List ℕ
line_after account command s = lines_after (Some account) s.sets command (said_of s.answer)

-- whatever list a data set had, it has the one that it is given
abbrev relisted : List Entry → DataSet → DataSet
relisted list set = record set { acl = list }

-- WHAT IS TOLD OF AN ANSWER is told by what was said

made_is : (command : Command) → made_words command ≡ done_words command (spelled command)
made_is (Create by name mode) = refl
made_is (Delete by name) = refl
made_is (SetAcl by name text) = refl
made_is (ShowAcl by name) = refl
made_is (Listing by name) = refl
made_is (Catalog by) = refl

none_more : (words : List ℕ) → words ≡ words ++ [] ++ []
none_more [] = refl
none_more (c ∷ cs) = ap (λ (rest : List ℕ). c ∷ rest) (none_more cs)

none_between : (words more : List ℕ) → words ++ more ≡ words ++ [] ++ more
none_between [] more = refl
none_between (c ∷ cs) more = ap (λ (rest : List ℕ). c ∷ rest) (none_between cs more)

abbrev words_said : Command → Option Grant → Said → List ℕ
words_said command grant said = said_words said ++ if_done said (done_words command (spelled command)) ++ last_words said grant

outcome_is : (command : Command) (grant : Option Grant) (answer : Answer) → outcome_words command grant answer ≡ words_said command grant (said_of answer)
outcome_is command grant (Told Done) = ap (λ (made : List ℕ). word (reply_text Done) ++ made ++ granted_words grant) (made_is command)
outcome_is command grant (Told NoAccount) = none_more (word (reply_text NoAccount))
outcome_is command grant (Told (Denied reason)) = none_more (word (reply_text (Denied reason)))
outcome_is command grant (Told NameTaken) = none_more (word (reply_text NameTaken))
outcome_is command grant (Told CatalogueFull) = none_more (word (reply_text CatalogueFull))
outcome_is command grant (Told (BadList error)) = none_more (word (reply_text (BadList error)))
outcome_is command grant (Records records) = none_between (codes " RECORDS" ++ number (length records)) (granted_words grant)
outcome_is command grant (Shown list) = none_between (codes " ENTRIES" ++ number (length list.acl)) (granted_words grant)
outcome_is command grant (Names names) = none_between (codes " NAMES" ++ number (length names)) (granted_words grant)

said_line_is : (command : Command) (grant : Option Grant) (said : Said)
    → command_line (account_of command) (card_words command ++ words_said command grant said) ≡ said_line command said (spelled command) grant
said_line_is command grant said =
    let card = card_words command in
    let told = said_words said in
    let made = if_done said (done_words command (spelled command)) in
    let last = last_words said grant in
    ap (λ (words : List ℕ). command_line (account_of command) words)
    (sym (append_assoc card (told ++ made) last) ∙ ap (λ (words : List ℕ). words ++ last) (sym (append_assoc card told made)))

line_is : (command : Command) (grant : Option Grant) (answer : Answer)
    → command_line (account_of command) (card_words command ++ outcome_words command grant answer) ≡ said_line command (said_of answer) (spelled command) grant
line_is command grant answer =
    ap (λ (words : List ℕ). command_line (account_of command) (card_words command ++ words)) (outcome_is command grant answer) ∙ said_line_is command grant (said_of answer)

pub as_said : (known : Option Account) (sets : Sets) (command : Command) (answer : Answer)
    → ordered_lines known sets command answer ≡ said_lines known sets command (said_of answer)
as_said known sets command answer = ap (λ (line : List ℕ). line ++ shown_lines known sets command) (line_is command (known_grant known sets command) answer)

list_given : (list : List Entry) (account : Account) (o : Option DataSet) → owner_denial_of account o ≡ None
    → option_map_or (λ set. word (short_form set.acl)) (option_map (relisted list) o) [] ≡ word (short_form list)
list_given list account None h = absurd (let no : Some NoSet ≡ None = h in cc)
list_given list account (Some set) h = refl

-- what only the owner may do is done by him
abbrev owned : Account → Option DataSet → Option Grant
owned account o = option_and_then (by_owner account) o

module _ (by : List ℕ) (account : Account) (sets : Sets) (name : List ℕ) (text : AclText) where
  abbrev sets_list : Command
  sets_list = SetAcl by name text

  -- what is said where the text is to spell this
  abbrev line_for : Result (List Entry) AclError → AclAnswer × Sets → List ℕ
  line_for list outcome = said_line sets_list (said_of (told_by acl_reply outcome).answer) (list_words list) (Some AsOwner) ++ []

  given_is : (list : Result (List Entry) AclError) → owner_denial account sets name ≡ None
      → line_after account sets_list (told_by acl_reply (given list sets name)) ≡ line_for list (given list sets name)
  given_is (Err error) allowed = refl
  given_is (Ok list) allowed =
      ap (λ (words : List ℕ). said_line sets_list (said.Told Done) words (Some AsOwner) ++ [])
      (ap (λ (o : Option DataSet). option_map_or (λ set. word (short_form set.acl)) o []) (named_set_changes name sets (relisted list)).1
      ∙ list_given list account (find_set name sets) allowed)

  set_is : (denial : Option Reason) → owner_denial account sets name ≡ denial
      → line_after account sets_list (told_by acl_reply (acl_set_unless denial sets name text)) ≡ line_for (list_of_text text) (acl_set_unless denial sets name text)
  set_is (Some reason) is = refl
  set_is None is = given_is (list_of_text text) is

  -- what is said of who is the owner, or is not
  abbrev set_line : Option DataSet → Option Grant → List ℕ
  set_line o grant =
      said_line sets_list (said_of (told_by acl_reply (acl_set_unless (owner_denial_of account o) sets name text)).answer) (list_words (list_of_text text)) grant ++ []

  -- of an owner, if this is true
  abbrev set_line_if : Bool → Option Grant → List ℕ
  set_line_if b grant =
      said_line sets_list (said_of (told_by acl_reply (acl_set_unless (if b then None else Some NotOwner) sets name text)).answer) (list_words (list_of_text text)) grant ++ []

  set_if : (b : Bool) → set_line_if b (Some AsOwner) ≡ set_line_if b (if b then Some AsOwner else None)
  set_if true = refl
  set_if false = refl

  set_owned : (o : Option DataSet) → set_line o (Some AsOwner) ≡ set_line o (owned account o)
  set_owned None = refl
  set_owned (Some set) = set_if (is_owner account set.owner)

module _ (by : List ℕ) (account : Account) (sets : Sets) (name : List ℕ) where
  abbrev removes : Command
  removes = Delete by name

  abbrev removed_line : Option DataSet → Option Grant → List ℕ
  removed_line o grant = said_line removes (said_of (told_by removal_reply (removed_unless (owner_denial_of account o) sets name)).answer) [] grant ++ []

  abbrev removed_line_if : Bool → Option Grant → List ℕ
  removed_line_if b grant = said_line removes (said_of (told_by removal_reply (removed_unless (if b then None else Some NotOwner) sets name)).answer) [] grant ++ []

  removed_if : (b : Bool) → removed_line_if b (Some AsOwner) ≡ removed_line_if b (if b then Some AsOwner else None)
  removed_if true = refl
  removed_if false = refl

  removed_owned : (o : Option DataSet) → removed_line o (Some AsOwner) ≡ removed_line o (owned account o)
  removed_owned None = refl
  removed_owned (Some set) = removed_if (is_owner account set.owner)

known_is : (account : Account) (sets : Sets) (command : Command)
    → line_after account command (served account command sets) ≡ said_lines (Some account) sets command (said_of (served account command sets).answer)
known_is account sets (Create by name mode) = refl
known_is account sets (Delete by name) = removed_owned by account sets name (find_set name sets)
known_is account sets (SetAcl by name text) =
    set_is by account sets name text (owner_denial account sets name) refl ∙ set_owned by account sets name text (find_set name sets)
known_is account sets (ShowAcl by name) = refl
known_is account sets (Listing by name) = refl
known_is account sets (Catalog by) = refl

-- what is answered where the account is known, or is none
abbrev answered_of : Sets → Command → Option Account → Served
answered_of sets command known = option_map_or (λ account. served account command sets) known (record { answer = Told NoAccount; sets = sets })

answered_is : (sets : Sets) (command : Command) (known : Option Account)
    → lines_after known (answered_of sets command known).sets command (said_of (answered_of sets command known).answer)
    ≡ said_lines known sets command (said_of (answered_of sets command known).answer)
answered_is sets command None = refl
answered_is sets command (Some account) = known_is account sets command

pub ordered_is : (accounts : List Account) (sets : Sets) (command : Command)
    → (let known = find_account accounts (account_of command) in
    let s = answered accounts sets command in
    lines_after known s.sets command (said_of s.answer) ≡ ordered_lines known sets command s.answer)
ordered_is accounts sets command =
    let known = find_account accounts (account_of command) in
    answered_is sets command known ∙ sym (as_said known sets command (answered_of sets command known).answer)
