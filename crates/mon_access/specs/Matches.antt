-- Which entries of a permission list are for an account, and which of its entries hold a request.
use Rattle.std.specs.Prelude.{ℕ, Bool, false, ◌&&◌, ◌||◌, List, bytes_eq}
use Rattle.std.specs.List.{list_any}
use Rattle.std.specs.Option.{option_map_or}
use Rattle.mon_acl.specs.declared.entries.Perms.{Perms}
use Rattle.mon_acl.specs.declared.entries.Tag.TheVariants.{User, GroupObj, Group}
use Rattle.mon_acl.specs.declared.entries.Entry.{Entry}
use Rattle.mon_acl.specs.Entries.{has_tag}
use Rattle.mon_acl.specs.Permissions.{holds}
use Rattle.mon_access.specs.declared.account.Account.{Account}

-- the account is the data set's owner
abbrev pub is_owner : Account → List ℕ → Bool
is_owner account owner = bytes_eq account.name owner

-- the group is one of the account's, its primary one or a further one
abbrev pub is_in_group : Account → List ℕ → Bool
is_in_group account group = bytes_eq account.primary group || list_any (bytes_eq group) account.groups

-- a USER entry whose qualifier is the account
abbrev pub is_for_user : Account → Entry → Bool
is_for_user account e = has_tag User e && option_map_or (bytes_eq account.name) e.name false

-- the GROUP_OBJ entry, where the data set's group is one of the account's
abbrev pub is_for_owning_group : Account → List ℕ → Entry → Bool
is_for_owning_group account group e = has_tag GroupObj e && is_in_group account group

-- a GROUP entry whose qualifier is one of the account's groups
abbrev pub is_for_named_group : Account → Entry → Bool
is_for_named_group account e = has_tag Group e && option_map_or (is_in_group account) e.name false

-- a matching GROUP_OBJ or GROUP entry
abbrev pub is_for_group : Account → List ℕ → Entry → Bool
is_for_group account group e = is_for_owning_group account group e || is_for_named_group account e

-- some one entry of this kind holds the whole request
abbrev pub some_holds : (Entry → Bool) → List Entry → Perms → Bool
some_holds kind entries request = list_any (λ e. kind e && holds e.perms request) entries
