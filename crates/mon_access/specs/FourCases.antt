-- acl(5) "ACCESS CHECK ALGORITHM" as relations between an account and the entries of a list, in whatever order these stand.
-- `decision` computes this; the laws say so.
use Rattle.std.specs.Prelude.{◌≡◌, ◌≢◌, ℕ, ◌⊎◌, List, Some, Any, Contains, IsTrue, IsFalse}
use Rattle.mon_acl.specs.declared.entries.Perms.{Perms}
use Rattle.mon_acl.specs.declared.entries.Tag.{Tag}
use Rattle.mon_acl.specs.declared.entries.Tag.TheVariants.{UserObj, User, GroupObj, Group, Mask, Other}
use Rattle.mon_acl.specs.declared.entries.Entry.{Entry}
use Rattle.mon_acl.specs.Permissions.{holds}
use Rattle.mon_access.specs.declared.account.Account.{Account}
use Rattle.mon_access.specs.AccessCheck.{Case, Owner, NamedUser, InGroup, Others}

-- the group is one of the account's, its primary one or a further one
abbrev pub IsInGroup : Account → List ℕ → Type 0
IsInGroup account group = (account.primary ≡ group) ⊎ Contains account.groups group

-- the entry has this type
abbrev pub IsOf : Tag → Entry → Type 0
IsOf t e = e.tag ≡ t

-- a USER entry whose qualifier is the account
abbrev pub IsForUser : Account → Entry → Type 0
IsForUser account e = IsOf User e × (e.name ≡ Some account.name)

-- a GROUP entry whose qualifier is one of the account's groups
abbrev pub IsForNamedGroup : Account → Entry → Type 0
IsForNamedGroup account e = IsOf Group e × ((name : List ℕ) × (e.name ≡ Some name) × IsInGroup account name)

-- the GROUP_OBJ entry where the data set's group is one of the account's, or a GROUP entry for one of these
abbrev pub IsForGroup : Account → List ℕ → Entry → Type 0
IsForGroup account group e = (IsOf GroupObj e × IsInGroup account group) ⊎ IsForNamedGroup account e

-- the entry contains the whole request, or lacks a part of it
abbrev pub Holds : Entry → Perms → Type 0
Holds e request = IsTrue (holds e.perms request)

abbrev pub Lacks : Entry → Perms → Type 0
Lacks e request = IsFalse (holds e.perms request)

-- some one entry of this kind contains the whole request
abbrev pub SomeHolds : (Entry → Type 0) → List Entry → Perms → Type 0
SomeHolds Kind entries request = Any (λ e. Kind e × Holds e request) entries

-- when a case applies: each where those before it do not
abbrev pub Applies : Case → Account → List ℕ → List ℕ → List Entry → Type 0
Applies Owner account owner group entries = account.name ≡ owner
Applies NamedUser account owner group entries = (account.name ≢ owner) × Any (IsForUser account) entries
Applies InGroup account owner group entries =
    (account.name ≢ owner) × (¬ Any (IsForUser account) entries) × Any (IsForGroup account group) entries
Applies Others account owner group entries =
    (account.name ≢ owner) × (¬ Any (IsForUser account) entries) × (¬ Any (IsForGroup account group) entries)

-- when access is granted in a case
abbrev pub Grants : Case → Account → List ℕ → List Entry → Perms → Type 0
Grants Owner account group entries request = SomeHolds (IsOf UserObj) entries request
Grants NamedUser account group entries request =
    SomeHolds (IsForUser account) entries request × SomeHolds (IsOf Mask) entries request
Grants InGroup account group entries request =
    (Any (IsOf Mask) entries → SomeHolds (IsOf Mask) entries request × SomeHolds (IsForGroup account group) entries request)
    × ((¬ Any (IsOf Mask) entries) → SomeHolds (IsOf GroupObj) entries request)
Grants Others account group entries request = SomeHolds (IsOf Other) entries request
