-- The access check (acl(5) "ACCESS CHECK ALGORITHM"): four cases, of which the first that applies decides.
-- The entries are read as a set: some entry of the list is such. A position is told only where a denial names an entry.
use Rattle.std.specs.Prelude.{ℕ, Bool, ◌&&◌, List, if◌then◌else◌}
use Rattle.std.specs.List.{list_any, position_or_len}
use Rattle.mon_acl.specs.declared.entries.Perms.{Perms}
use Rattle.mon_acl.specs.declared.entries.Tag.TheVariants.{UserObj, GroupObj, Mask, Other}
use Rattle.mon_acl.specs.declared.entries.Entry.{Entry}
use Rattle.mon_acl.specs.Entries.{has_tag}
use Rattle.mon_access.specs.declared.account.Account.{Account}
use Rattle.mon_access.specs.declared.access.Decision.{Decision}
use Rattle.mon_access.specs.declared.access.Decision.TheVariants.{Granted, Denied}
use Rattle.mon_access.specs.declared.access.Decider.{Decider}
use Rattle.mon_access.specs.declared.access.Decider.TheVariants.{UserObj as ByUserObj, User as ByUser, Group as ByGroup, Mask as ByMask, Other as ByOther}
use Rattle.mon_access.specs.Matches.{is_owner, is_for_user, is_for_group, some_holds}

-- who the account is to the data set
pub data Case : Type 0 where
  Owner : Case
  NamedUser : Case
  InGroup : Case
  Others : Case

-- the four cases in order: the owner, else a named user, else a member of a group that has an entry, else anyone
abbrev pub case_of : Account → List ℕ → List ℕ → List Entry → Case
case_of account owner group entries =
    if is_owner account owner then Owner
    else (if list_any (is_for_user account) entries then NamedUser
    else (if list_any (is_for_group account group) entries then InGroup
    else Others))

-- whether access is granted in each case; with no mask there are no GROUP entries, and GROUP_OBJ alone can match
abbrev pub grants : Case → Account → List ℕ → List Entry → Perms → Bool
grants Owner account group entries request = some_holds (has_tag UserObj) entries request
grants NamedUser account group entries request =
    some_holds (is_for_user account) entries request && some_holds (has_tag Mask) entries request
grants InGroup account group entries request =
    if list_any (has_tag Mask) entries
    then some_holds (has_tag Mask) entries request && some_holds (is_for_group account group) entries request
    else some_holds (has_tag GroupObj) entries request
grants Others account group entries request = some_holds (has_tag Other) entries request

-- the entry that a denial names (own): the mask where an entry for the account holds the request, else the first such entry
abbrev pub decider : Case → Account → List ℕ → List Entry → Perms → Decider
decider Owner account group entries request = ByUserObj
decider NamedUser account group entries request =
    if some_holds (is_for_user account) entries request then ByMask
    else ByUser (position_or_len (is_for_user account) entries)
decider InGroup account group entries request =
    if some_holds (is_for_group account group) entries request then ByMask
    else ByGroup (position_or_len (is_for_group account group) entries)
decider Others account group entries request = ByOther

-- what is decided in a case
abbrev pub decision_in : Case → Account → List ℕ → List Entry → Perms → Decision
decision_in case account group entries request =
    if grants case account group entries request then Granted
    else Denied (decider case account group entries request)

-- may this account do this, by the data set's owner, its group and its permission list?
unfoldable pub decision : Account → List ℕ → List ℕ → List Entry → Perms → Decision
decision account owner group entries request = decision_in (case_of account owner group entries) account group entries request
