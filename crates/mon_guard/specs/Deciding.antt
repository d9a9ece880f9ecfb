-- What an account may do to a data set: the access check on the set's owner, group and list, as they stand (own).
use Rattle.std.specs.Prelude.{ℕ, Bool, true, false, List, Option, None, Some, Result, Ok, Err}
use Rattle.mon_acl.specs.declared.entries.Perms.{Perms}
pub use Rattle.mon_acl.specs.Permissions.{to_read, to_write, to_execute}
use Rattle.mon_access.specs.declared.account.Account.{Account}
use Rattle.mon_access.specs.declared.access.Decision.{Decision}
use Rattle.mon_access.specs.declared.access.Decision.TheVariants as decision
use Rattle.mon_access.specs.AccessCheck.{decision as access_check}
use Rattle.mon_catalogue.specs.declared.data_set.DataSet.{DataSet}
use Rattle.mon_catalogue.specs.Sets.{Sets, find_set}
use Rattle.mon_guard.specs.declared.answer.Decided.{Decided}
use Rattle.mon_guard.specs.declared.answer.Decided.TheVariants.{Granted, Denied, NoSet}
use Rattle.interaction.specs.declared.answer.Reason.{Reason}
use Rattle.mon_guard.specs.Reasons.{reason_of}

-- the access check on a set
abbrev pub decision_on : Account → DataSet → Perms → Decision
decision_on account set request = access_check account set.owner set.group set.acl request

abbrev pub decided_as : Decision → Decided
decided_as decision.Granted = Granted
decided_as (decision.Denied d) = Denied d

abbrev pub decided_of : Account → Option DataSet → Perms → Decided
decided_of account None request = NoSet
decided_of account (Some set) request = decided_as (decision_on account set request)

-- what is decided of a request on the set of this name: the access check, or that there is no such set
abbrev pub decided : Account → Sets → List ℕ → Perms → Decided
decided account sets name request = decided_of account (find_set name sets) request

-- what is granted with this request, where the access check on the set grants it; else the entry that decides
abbrev pub where_granted : {A : Type 0} → Account → Perms → DataSet → A → Result A Reason
where_granted account request set granted =
    elim (decision_on account set request) [ decision.Granted ↦ Ok granted | decision.Denied decider ↦ Err (reason_of set.acl decider) ]

abbrev pub is_granted : Decision → Bool
is_granted decided = elim decided [ decision.Granted ↦ true | decision.Denied d ↦ false ]

-- a name is shown exactly where x is granted
abbrev pub may_be_shown : Account → List ℕ × DataSet → Bool
may_be_shown account named = is_granted (decision_on account named.1 to_execute)
