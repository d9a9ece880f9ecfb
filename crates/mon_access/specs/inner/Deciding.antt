-- The decision from its second and from its third case on.
use Rattle.std.specs.Prelude.{ℕ, List, if◌then◌else◌}
use Rattle.std.specs.List.{list_any}
use Rattle.mon_acl.specs.declared.entries.Perms.{Perms}
use Rattle.mon_acl.specs.declared.entries.Entry.{Entry}
use Rattle.mon_access.specs.declared.account.Account.{Account}
use Rattle.mon_access.specs.declared.access.Decision.{Decision}
use Rattle.mon_access.specs.Matches.{is_for_user, is_for_group}
use Rattle.mon_access.specs.AccessCheck.{NamedUser, InGroup, Others, decision_in}

-- for an account that is not the owner and that no entry names
abbrev pub decision_beside_users : Account → List ℕ → List Entry → Perms → Decision
decision_beside_users account group entries request =
    decision_in (if list_any (is_for_group account group) entries then InGroup else Others) account group entries request

-- for an account that is not the owner
abbrev pub decision_beside_owner : Account → List ℕ → List Entry → Perms → Decision
decision_beside_owner account group entries request =
    decision_in (if list_any (is_for_user account) entries then NamedUser
    else (if list_any (is_for_group account group) entries then InGroup else Others)) account group entries request
