-- What the guard lends of a data set: what is granted, and no more (own). Reading records asks r; seeing the permission
-- list asks to be the owner, or x; and seeing the name asks x.
use Rattle.std.specs.Prelude.{ℕ, List, length, filter, map, Option, None, Some, Result, Ok, Err, slice_get, if◌then◌else◌}
use Rattle.mon_acl.specs.declared.entries.Entry.{Entry}
use Rattle.mon_access.specs.declared.account.Account.{Account}
use Rattle.mon_access.specs.Matches.{is_owner}
use Rattle.mon_catalogue.specs.declared.data_set.DataSet.{DataSet}
use Rattle.mon_catalogue.specs.Sets.{Sets, find_set}
use Rattle.interaction.specs.declared.answer.Reason.{Reason}
use Rattle.interaction.specs.declared.answer.Reason.TheVariants.{NoSet}
use Rattle.mon_guard.specs.Deciding.{to_read, to_execute, where_granted, may_be_shown}
use Rattle.std.specs.Option.{option_map_or}

-- the records of the set of this name, where r is granted
abbrev pub records_lent : Account → Sets → List ℕ → Result (List (List ℕ)) Reason
records_lent account sets name = option_map_or (λ set. where_granted account to_read set set.records) (find_set name sets) (Err NoSet)

-- a data set without its records: who owns it, its group and its permission list
pub record AclPart : Type 0 where
  pub owner : List ℕ
  pub group : List ℕ
  pub acl : List Entry

abbrev pub acl_part : DataSet → AclPart
acl_part set = record { owner = set.owner; group = set.group; acl = set.acl }

-- those of the set of this name: to the owner, and where x is granted
abbrev pub acl_lent : Account → Sets → List ℕ → Result AclPart Reason
acl_lent account sets name =
    option_map_or (λ set. if is_owner account set.owner then Ok (acl_part set) else where_granted account to_execute set (acl_part set)) (find_set name sets)
    (Err NoSet)

-- the name of a data set, who owns it, its group, and how many records it has
pub record NamePart : Type 0 where
  pub name : List ℕ
  pub owner : List ℕ
  pub group : List ℕ
  pub records : ℕ

abbrev pub name_part : List ℕ × DataSet → NamePart
name_part named =
    record { name = named.0; owner = named.1.owner; group = named.1.group; records = length named.1.records }

-- a name, where x is granted
abbrev pub name_of : Account → Option (List ℕ × DataSet) → Option NamePart
name_of account None = None
name_of account (Some named) = if may_be_shown account named then Some (name_part named) else None

-- that of the set at this index, where there is one
abbrev pub name_lent : Account → Sets → ℕ → Option NamePart
name_lent account sets index = name_of account (slice_get sets index)

-- the sets whose names are shown, and all those names, in the order of the sets
abbrev pub names_shown : Account → Sets → Sets
names_shown account sets = filter (may_be_shown account) sets

abbrev pub names_lent : Account → Sets → List NamePart
names_lent account sets = map name_part (filter (may_be_shown account) sets)
