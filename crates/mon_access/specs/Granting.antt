-- Which entry grants (acl(5) "ACCESS CHECK ALGORITHM"): of those by which the case that applies may grant, the first that holds the
-- whole request. It stands beside `decision`, and where that denies there is none.
use Rattle.std.specs.Prelude.{ℕ, Bool, ◌&&◌, List, Option, None, position, if◌then◌else◌}
use Rattle.std.specs.List.{list_any}
use Rattle.mon_acl.specs.declared.entries.Perms.{Perms}
use Rattle.mon_acl.specs.declared.entries.Tag.TheVariants.{UserObj, GroupObj, Mask, Other}
use Rattle.mon_acl.specs.declared.entries.Entry.{Entry}
use Rattle.mon_acl.specs.Entries.{has_tag}
use Rattle.mon_acl.specs.Permissions.{holds}
use Rattle.mon_access.specs.declared.account.Account.{Account}
use Rattle.mon_access.specs.declared.access.Decision.TheVariants.{Granted, Denied}
use Rattle.mon_access.specs.Matches.{is_for_user, is_for_group}
use Rattle.mon_access.specs.AccessCheck.{Case, Owner, NamedUser, InGroup, Others, case_of, decision}

-- the entries by which a case may grant: the owner's; the named user's; those of the account's groups, and without a mask the owning
-- group's alone; the one of all others
abbrev pub may_grant : Case → Account → List ℕ → List Entry → Entry → Bool
may_grant Owner account group entries e = has_tag UserObj e
may_grant NamedUser account group entries e = is_for_user account e
may_grant InGroup account group entries e = if list_any (has_tag Mask) entries then is_for_group account group e else has_tag GroupObj e
may_grant Others account group entries e = has_tag Other e

-- where the first of them stands that holds the whole request
abbrev pub holder : Case → Account → List ℕ → List Entry → Perms → Option ℕ
holder case account group entries request = position (λ e. may_grant case account group entries e && holds e.perms request) entries

-- which entry grants this to the account, by the data set's owner, its group and its permission list, if it is granted: its index
unfoldable pub granting : Account → List ℕ → List ℕ → List Entry → Perms → Option ℕ
granting account owner group entries request =
    elim (decision account owner group entries request) [ Granted ↦ holder (case_of account owner group entries) account group entries request | Denied d ↦ None ]
