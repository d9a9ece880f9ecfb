-- What the guard keeps of its decisions (own). A row is of one account and of the data set of one name, and says what the access
-- check decides, for reading, for writing and for executing.
--
-- No row is ever out of date. At every moment the set of each row is there, and the row says what the access check, made anew by the
-- set's owner, group and permission list as they stand, would say (`CacheFits`). So whoever loses a permission is denied at the
-- next request, and whoever is given one is granted it. A call that answers by rows asks for this, and each call that changes a set or
-- a row keeps it: a new list, and a removal, drop the rows of that set and of no other.
use Rattle.std.specs.Prelude.{◌≡◌, ℕ, Bool, not, List, length, take, filter, Some, option_map, All, bytes_eq}
use Rattle.mon_access.specs.declared.account.Account.{Account}
use Rattle.mon_access.specs.declared.compiled.CompiledAcl.{CompiledAcl}
use Rattle.mon_access.specs.Compiling.{compiled}
use Rattle.mon_catalogue.specs.declared.data_set.DataSet.{DataSet}
use Rattle.mon_catalogue.specs.Sets.{Sets, find_set}
use Rattle.mon_guard.specs.declared.cache.CachedDecision.{CachedDecision}

-- the access check on a set, for each permission by itself
abbrev pub ready_on : Account → DataSet → CompiledAcl
ready_on account set = compiled account set.owner set.group set.acl

-- a row fits the sets: its set is there, and the row says what the access check decides on that set as it stands
abbrev pub Fits : Sets → CachedDecision → Type 0
Fits sets row = option_map (ready_on row.account) (find_set row.set sets) ≡ Some row.ready

-- each row fits the sets: none is out of date
abbrev pub CacheFits : List CachedDecision → Sets → Type 0
CacheFits rows sets = All (Fits sets) rows

-- a row is of another name
abbrev pub is_beside : List ℕ → CachedDecision → Bool
is_beside name row = not (bytes_eq row.set name)

-- the rows of all other names, in their order
abbrev pub cache_beside : List ℕ → List CachedDecision → List CachedDecision
cache_beside name rows = filter (is_beside name) rows

-- the rows that there were are the first ones
abbrev pub Begins : List CachedDecision → List CachedDecision → Type 0
Begins old new = take (length old) new ≡ old
