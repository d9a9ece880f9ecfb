-- What holds of the entry that grants, for every account, owner, group, list and request.
use Rattle.std.specs.Prelude.{◌≡◌, ℕ, ◌<◌, ◌↔◌, List, Some, slice_get, Any, IsSome, IsSomeAnd, IfSome}
use Rattle.mon_acl.specs.declared.entries.Perms.{Perms}
use Rattle.mon_acl.specs.declared.entries.Tag.TheVariants.{UserObj, GroupObj, Mask, Other}
use Rattle.mon_acl.specs.declared.entries.Entry.{Entry}
use Rattle.mon_access.specs.declared.account.Account.{Account}
use Rattle.mon_access.specs.declared.access.Decision.TheVariants.{Granted}
use Rattle.mon_access.specs.AccessCheck.{Case, Owner, NamedUser, InGroup, Others, decision}
use Rattle.mon_access.specs.FourCases.{IsOf, IsForUser, IsForGroup, Holds, SomeHolds, Applies}
use Rattle.mon_access.specs.Granting.{granting}

-- the entry at the index is of this kind and holds the whole request, and none before it does
abbrev pub IsFirstToHold : (Entry → Type 0) → ℕ → List Entry → Perms → Type 0
IsFirstToHold Kind index entries request =
    IsSomeAnd (slice_get entries index) (λ e. Kind e × Holds e request)
    × ((before : ℕ) → before < index → IfSome (slice_get entries before) (λ e. ¬ (Kind e × Holds e request)))

-- Which entry is right to be named of a grant, in each case: the owner's; the named user's, under the mask; the first that holds the
-- whole request of those of the account's groups, under the mask, and without a mask the owning group's; the one of all others.
abbrev pub IsRightGrantor : Case → Account → List ℕ → List Entry → Perms → ℕ → Type 0
IsRightGrantor Owner account group entries request index = IsFirstToHold (IsOf UserObj) index entries request
IsRightGrantor NamedUser account group entries request index =
    IsFirstToHold (IsForUser account) index entries request × SomeHolds (IsOf Mask) entries request
IsRightGrantor InGroup account group entries request index =
    (Any (IsOf Mask) entries → SomeHolds (IsOf Mask) entries request × IsFirstToHold (IsForGroup account group) index entries request)
    × ((¬ Any (IsOf Mask) entries) → IsFirstToHold (IsOf GroupObj) index entries request)
IsRightGrantor Others account group entries request index = IsFirstToHold (IsOf Other) index entries request

-- in the case that applies the entry that is named is the right one, and no other is
abbrev pub GrantsByTheEntry : Type 0
GrantsByTheEntry = (account : Account) (owner group : List ℕ) (entries : List Entry) (request : Perms) (case : Case) (index : ℕ)
    → Applies case account owner group entries
    → (granting account owner group entries request ≡ Some index) ↔ IsRightGrantor case account group entries request index

-- an entry is named exactly where access is granted
abbrev pub NamedWhereGranted : Type 0
NamedWhereGranted = (account : Account) (owner group : List ℕ) (entries : List Entry) (request : Perms)
    → (decision account owner group entries request ≡ Granted) ↔ IsSome (granting account owner group entries request)

-- and the entry that is named is there
abbrev pub NamesAnEntry : Type 0
NamesAnEntry = (account : Account) (owner group : List ℕ) (entries : List Entry) (request : Perms) (index : ℕ)
    → granting account owner group entries request ≡ Some index → IsSome (slice_get entries index)
