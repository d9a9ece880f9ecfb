-- What holds of the guard, whatever the account, the sets, the names and the texts: each is the contract of a function
-- in `laws`.
use Rattle.std.specs.Prelude.{◌≡◌, ◌≢◌, ℕ, ◌<◌, ◌⊎◌, ◌↔◌, List, [], ◌∷◌, ◌++◌, length, Some, None, Ok, Err, Any, Contains}
use Rattle.mon_acl.specs.declared.entries.Perms.{Perms}
use Rattle.mon_acl.specs.declared.entries.Entry.{Entry}
use Rattle.acl_text.specs.declared.text.AclText.{AclText}
use Rattle.mon_acl.specs.Entries.{IsValidAcl}
use Rattle.acl_text.specs.Forms.{list_of_text}
use Rattle.mon_access.specs.declared.account.Account.{Account}
use Rattle.mon_access.specs.declared.access.Decision.TheVariants.{Granted, Denied}
use Rattle.mon_access.specs.declared.access.Decider.{Decider}
use Rattle.mon_access.specs.FourCases.{Lacks}
use Rattle.mon_catalogue.specs.declared.mode.Mode.{Mode}
use Rattle.mon_catalogue.specs.declared.mode.Mode.TheVariants.{Seq, Append}
use Rattle.mon_catalogue.specs.declared.data_set.DataSet.{DataSet}
use Rattle.mon_catalogue.specs.Sets.{Sets, find_set}
use Rattle.mon_catalogue.specs.Changes.{without_set, with_acl}
use Rattle.interaction.specs.declared.answer.Reason.{Reason}
use Rattle.interaction.specs.declared.answer.Reason.TheVariants.{By, NoSet, NotOwner, NoUnit, InStream, SpoolUnit, Mode as WrongMode}
use Rattle.mon_guard.specs.declared.answer.AclAnswer.TheVariants as acl
use Rattle.mon_guard.specs.Deciding.{decision_on, to_read, to_execute}
use Rattle.mon_guard.specs.Reasons.{reason_of}
use Rattle.mon_guard.specs.Views.{AclPart, acl_part, records_lent, acl_lent, names_shown, names_lent}
use Rattle.mon_guard.specs.Owning.{owner_denial, removed, acl_set, new_set, created}
use Rattle.mon_guard.specs.Acting.{Act, Read, Write, End, asks, done, acted, only_answered, changed}
use Rattle.interaction.specs.declared.answer.Answer.TheVariants as answer

-- there is a data set of this name, and it is this one
abbrev pub IsThere : List ℕ → Sets → DataSet → Type 0
IsThere name sets set = find_set name sets ≡ Some set

-- the data set is the account's
abbrev pub Owns : Account → DataSet → Type 0
Owns account set = account.name ≡ set.owner

-- the access check grants the account this request on the data set
abbrev pub IsGranted : Account → DataSet → Perms → Type 0
IsGranted account set request = decision_on account set request ≡ Granted

-- Who may: the records are for whom r is granted; the list is for the owner and for whom x is granted; and the name is
-- for whom x is granted.
abbrev pub MayRead : Account → DataSet → Type 0
MayRead account set = IsGranted account set to_read

abbrev pub MaySeeList : Account → DataSet → Type 0
MaySeeList account set = Owns account set ⊎ IsGranted account set to_execute

abbrev pub MaySeeName : Account → DataSet → Type 0
MaySeeName account set = IsGranted account set to_execute

-- these are the records of the data set of this name, and the account may read them
abbrev pub AreForReading : Account → Sets → List ℕ → List (List ℕ) → Type 0
AreForReading account sets name records =
    (set : DataSet) × IsThere name sets set × MayRead account set × (records ≡ set.records)

-- this is the list of the data set of this name, with its owner and its group, and the account may see it
abbrev pub IsForSeeing : Account → Sets → List ℕ → AclPart → Type 0
IsForSeeing account sets name list =
    (set : DataSet) × IsThere name sets set × MaySeeList account set × (list ≡ acl_part set)

-- Exactly what is granted is lent, and of the data set that was named.
pub record LendsExactly (account : Account) (sets : Sets) (name : List ℕ) : Type 0 where
  pub records : (records : List (List ℕ)) → (records_lent account sets name ≡ Ok records) ↔ AreForReading account sets name records
  pub list : (list : AclPart) → (acl_lent account sets name ≡ Ok list) ↔ IsForSeeing account sets name list
  pub names : (named : List ℕ × DataSet) → Contains (names_shown account sets) named
      ↔ (Contains sets named × MaySeeName account named.1)

abbrev pub LendsWhereGranted : Type 0
LendsWhereGranted = (account : Account) (sets : Sets) (name : List ℕ) → LendsExactly account sets name

-- a data set that is hidden from the account may stand anywhere, hold anything, or not be there: the names are the same
abbrev pub HiddenSetsLeaveNoTrace : Type 0
HiddenSetsLeaveNoTrace = (account : Account) (before after : Sets) (hidden : List ℕ × DataSet) → (¬ MaySeeName account hidden.1)
    → names_lent account (before ++ hidden ∷ after) ≡ names_lent account (before ++ after)

-- there is no data set of this name
abbrev pub LacksSet : List ℕ → Sets → Reason → Type 0
LacksSet name sets reason = (find_set name sets ≡ None) × (reason ≡ NoSet)

-- this entry decides that the request is denied
abbrev pub DecidedBy : Account → DataSet → Perms → Reason → Type 0
DecidedBy account set request reason =
    (decider : Decider) × (decision_on account set request ≡ Denied decider) × (reason ≡ reason_of set.acl decider)

-- Why not: what is missing, or the entry that decides by the access check.
abbrev pub WhyNotRead : Account → Sets → List ℕ → Reason → Type 0
WhyNotRead account sets name reason =
    LacksSet name sets reason ⊎ ((set : DataSet) × IsThere name sets set × DecidedBy account set to_read reason)

abbrev pub WhyNotSeeList : Account → Sets → List ℕ → Reason → Type 0
WhyNotSeeList account sets name reason =
    LacksSet name sets reason
    ⊎ ((set : DataSet) × IsThere name sets set × (¬ Owns account set) × DecidedBy account set to_execute reason)

abbrev pub WhyNotOwner : Account → Sets → List ℕ → Reason → Type 0
WhyNotOwner account sets name reason =
    LacksSet name sets reason ⊎ ((set : DataSet) × IsThere name sets set × (¬ Owns account set) × (reason ≡ NotOwner))

-- Every denial says why, and where something is missing or decides there is that denial.
pub record DeniesExactly (account : Account) (sets : Sets) (name : List ℕ) (reason : Reason) : Type 0 where
  pub records : (records_lent account sets name ≡ Err reason) ↔ WhyNotRead account sets name reason
  pub list : (acl_lent account sets name ≡ Err reason) ↔ WhyNotSeeList account sets name reason
  pub owner : (owner_denial account sets name ≡ Some reason) ↔ WhyNotOwner account sets name reason

abbrev pub DenialsSayWhy : Type 0
DenialsSayWhy = (account : Account) (sets : Sets) (name : List ℕ) (reason : Reason) → DeniesExactly account sets name reason

-- an entry of the list has this type and qualifier and lacks a part of the request; no other reason names an entry
abbrev pub NamesLackingEntry : List Entry → Perms → Reason → Type 0
NamesLackingEntry entries request (By tag name) = Any (λ e. (e.tag ≡ tag) × (e.name ≡ name) × Lacks e request) entries
NamesLackingEntry entries request NoSet = ⊥
NamesLackingEntry entries request NotOwner = ⊥
NamesLackingEntry entries request NoUnit = ⊥
NamesLackingEntry entries request InStream = ⊥
NamesLackingEntry entries request SpoolUnit = ⊥
NamesLackingEntry entries request WrongMode = ⊥

-- every denial by the access check names an entry of the set's list that lacks a part of the request
abbrev pub DenialsNameAnEntry : Type 0
DenialsNameAnEntry = (account : Account) (set : DataSet) (request : Perms) (decider : Decider) → IsValidAcl set.acl
    → decision_on account set request ≡ Denied decider
    → NamesLackingEntry set.acl request (reason_of set.acl decider)

-- there is a data set of this name, and it is the account's
abbrev pub OwnsNamed : Account → Sets → List ℕ → Type 0
OwnsNamed account sets name = (set : DataSet) × IsThere name sets set × Owns account set

-- Which sets an act leaves behind it, and who may do it: the owner removes a set,
abbrev pub Removes : Account → Sets → List ℕ → Sets → Type 0
Removes account sets name after = OwnsNamed account sets name × (after ≡ without_set name sets)

-- the owner gives a set the list that a text spells,
abbrev pub SetsList : Account → Sets → List ℕ → AclText → Sets → Type 0
SetsList account sets name text after =
    OwnsNamed account sets name × ((list : List Entry) × (list_of_text text ≡ Ok list) × (after ≡ with_acl name list sets))

-- and whoever creates a set owns it; its name must be free, and there must be room
abbrev pub Creates : Account → Sets → List ℕ → Mode → Sets → Type 0
Creates account sets name mode after =
    (find_set name sets ≡ None) × (length sets < 1000) × (after ≡ sets ++ (name, new_set account mode) ∷ [])

-- An act is done exactly where it may be, and leaves just these sets; where it is not done the sets stay.
pub record HappensExactly {A : Type 0} (done : A) (sets : Sets) (outcome : A × Sets) (Leaves : Sets → Type 0) : Type 0 where
  pub done_where : (after : Sets) → (outcome ≡ (done, after)) ↔ Leaves after
  pub kept : (outcome.0 ≢ done) → outcome.1 ≡ sets

abbrev pub OwnersRemove : Type 0
OwnersRemove = (account : Account) (sets : Sets) (name : List ℕ)
    → HappensExactly (Ok tt) sets (removed account sets name) (Removes account sets name)

abbrev pub OwnersSetLists : Type 0
OwnersSetLists = (account : Account) (sets : Sets) (name : List ℕ) (text : AclText)
    → HappensExactly acl.Done sets (acl_set account sets name text) (SetsList account sets name text)

abbrev pub MakersOwn : Type 0
MakersOwn = (account : Account) (sets : Sets) (name : List ℕ) (mode : Mode)
    → HappensExactly (Ok tt) sets (created account sets name mode) (Creates account sets name mode)

-- sets of this mode have such an act: only that of mode APPEND can't be ended
abbrev pub IsFor : Act → Mode → Type 0
IsFor (Read position) mode = Unit {0}
IsFor (Write position line) mode = Unit {0}
IsFor (End position) Seq = Unit {0}
IsFor (End position) Append = ⊥

-- the request is granted, but sets of that mode have no such act
abbrev pub IsOfWrongMode : Account → Act → DataSet → Reason → Type 0
IsOfWrongMode account act set reason = IsGranted account set (asks act) × (¬ IsFor act set.mode) × (reason ≡ WrongMode)

-- Why an act on the records of a set is denied: what is missing, or the entry that decides, or else the set's mode.
abbrev pub WhyNotAct : Account → Act → Sets → List ℕ → Reason → Type 0
WhyNotAct account act sets name reason =
    LacksSet name sets reason
    ⊎ (((set : DataSet) × IsThere name sets set × DecidedBy account set (asks act) reason)
    ⊎ ((set : DataSet) × IsThere name sets set × IsOfWrongMode account act set reason))

-- An act on records is done exactly where its request is granted on the set that is named, as that set stands, and sets of its
-- mode have such an act; else it is denied, says why, moves nothing and changes nothing.
pub record ActsExactly (account : Account) (act : Act) (sets : Sets) (name : List ℕ) : Type 0 where
  pub done_where : (set : DataSet) → IsThere name sets set → IsGranted account set (asks act) → IsFor act set.mode
      → acted account act sets name ≡ done act set
  pub denied_where : (reason : Reason) → (acted account act sets name ≡ only_answered (answer.Denied reason)) ↔ WhyNotAct account act sets name reason
  pub one_of_both : ((set : DataSet) × IsThere name sets set × IsGranted account set (asks act) × IsFor act set.mode)
      ⊎ ((reason : Reason) × WhyNotAct account act sets name reason)

abbrev pub ActsWhereGranted : Type 0
ActsWhereGranted = (account : Account) (act : Act) (sets : Sets) (name : List ℕ) → ActsExactly account act sets name

-- no call changes another set than the one that it names
abbrev pub OtherSetsStay : Type 0
OtherSetsStay = (account : Account) (sets : Sets) (name other : List ℕ) (text : AclText) → other ≢ name
    → (find_set other (removed account sets name).1 ≡ find_set other sets)
    × (find_set other (acl_set account sets name text).1 ≡ find_set other sets)
    × ((mode : Mode) → find_set other (created account sets name mode).1 ≡ find_set other sets)
    × ((act : Act) → find_set other (changed name (acted account act sets name).change sets) ≡ find_set other sets)
