-- Decisions made ahead (own): those of the access check, for each permission by itself.
use Rattle.std.specs.Prelude.{ℕ, List, if◌then◌else◌}
use Rattle.mon_acl.specs.declared.entries.Perms.{Perms}
use Rattle.mon_acl.specs.declared.entries.Entry.{Entry}
use Rattle.mon_acl.specs.Permissions.{to_read, to_write, to_execute}
use Rattle.mon_access.specs.declared.account.Account.{Account}
use Rattle.mon_access.specs.declared.access.Decision.{Decision}
use Rattle.mon_access.specs.declared.compiled.CompiledAcl.{CompiledAcl}
use Rattle.mon_access.specs.AccessCheck.{decision}

-- what the access check decides of an account on a data set of this owner, group and list, for each permission by itself
abbrev pub compiled : Account → List ℕ → List ℕ → List Entry → CompiledAcl
compiled account owner group entries = record {
  read = decision account owner group entries to_read;
  write = decision account owner group entries to_write;
  execute = decision account owner group entries to_execute;
}

-- the decision that was made ahead for a request of exactly one permission
abbrev pub made_for : CompiledAcl → Perms → Decision
made_for ready request = if request.read then ready.read else if request.write then ready.write else ready.execute
