-- What holds of the access check, for every account, owner, group, list and request.
use Rattle.std.specs.Prelude.{◌≡◌, ◌≢◌, ℕ, ◌<◌, ◌⊎◌, ◌↔◌, List, map, slice_get, Any, Contains, IsTrue, IsSomeAnd, IfSome, if◌then◌else◌}
use Rattle.mon_acl.specs.declared.entries.Perms.{Perms}
use Rattle.mon_acl.specs.declared.entries.Tag.{Tag}
use Rattle.mon_acl.specs.declared.entries.Tag.TheVariants.{UserObj, Mask, Other}
use Rattle.mon_acl.specs.declared.entries.Entry.{Entry}
use Rattle.mon_acl.specs.Permissions.{holds}
use Rattle.mon_acl.specs.Entries.{has_tag, IsValidAcl}
use Rattle.mon_access.specs.declared.account.Account.{Account}
use Rattle.mon_access.specs.declared.access.Decision.TheVariants.{Granted, Denied}
use Rattle.mon_access.specs.declared.access.Decider.{Decider}
use Rattle.mon_access.specs.declared.access.Decider.TheVariants.{UserObj as ByUserObj, User as ByUser, Group as ByGroup, Mask as ByMask, Other as ByOther}
use Rattle.mon_access.specs.AccessCheck.{Case, Owner, NamedUser, InGroup, Others, decision}
use Rattle.mon_access.specs.FourCases.{IsOf, IsForUser, IsForGroup, Lacks, SomeHolds, Applies, Grants}

-- exactly one of the four cases applies
abbrev pub ExactlyOneCaseApplies : Type 0
ExactlyOneCaseApplies = (account : Account) (owner group : List ℕ) (entries : List Entry)
    → (case : Case) × Applies case account owner group entries
    × ((other : Case) → Applies other account owner group entries → other ≡ case)

-- and in it access is granted exactly where acl(5) grants it
abbrev pub GrantsByItsCase : Type 0
GrantsByItsCase = (account : Account) (owner group : List ℕ) (entries : List Entry) (request : Perms) (case : Case)
    → Applies case account owner group entries
    → (decision account owner group entries request ≡ Granted) ↔ Grants case account group entries request

-- two lists of the same entries, in whatever order
abbrev pub HaveSameEntries : List Entry → List Entry → Type 0
HaveSameEntries entries others = (e : Entry) → Contains entries e ↔ Contains others e

-- the entries are read as a set: their order grants nothing
abbrev pub OrderGrantsNothing : Type 0
OrderGrantsNothing = (account : Account) (owner group : List ℕ) (entries others : List Entry) (request : Perms)
    → HaveSameEntries entries others
    → decision account owner group entries request ≡ Granted → decision account owner group others request ≡ Granted

-- what is granted is granted in part too
abbrev pub GrantsSmallerRequests : Type 0
GrantsSmallerRequests = (account : Account) (owner group : List ℕ) (entries : List Entry) (large small : Perms)
    → IsTrue (holds large small)
    → decision account owner group entries large ≡ Granted → decision account owner group entries small ≡ Granted

-- the account has an entry of its own, as a named user or by a group
abbrev pub HasEntry : Account → List ℕ → List Entry → Type 0
HasEntry account group entries = Any (IsForUser account) entries ⊎ Any (IsForGroup account group) entries

-- the list with other permissions in its entries of one type
abbrev pub with_perms : Tag → Perms → List Entry → List Entry
with_perms t perms entries = map (λ e. if has_tag t e then record e { perms = perms } else e) entries

-- no fall-through: an account that has an entry is never judged by `other::`, whatever that holds
abbrev pub NeverFallsThrough : Type 0
NeverFallsThrough = (account : Account) (owner group : List ℕ) (entries : List Entry) (request : Perms)
    → HasEntry account group entries
    → (decision account owner group entries request ≢ Denied ByOther)
    × ((perms : Perms) → decision account owner group (with_perms Other perms entries) request ≡ decision account owner group entries request)

-- the mask limits named users, the owning group and named groups
abbrev pub MaskLimitsNamedEntriesAndGroups : Type 0
MaskLimitsNamedEntriesAndGroups = (account : Account) (owner group : List ℕ) (entries : List Entry) (request : Perms)
    → account.name ≢ owner → HasEntry account group entries → Any (IsOf Mask) entries
    → decision account owner group entries request ≡ Granted → SomeHolds (IsOf Mask) entries request

-- and neither the owner nor all others: for these it may hold anything
abbrev pub MaskSparesOwnerAndOthers : Type 0
MaskSparesOwnerAndOthers = (account : Account) (owner group : List ℕ) (entries : List Entry) (request perms : Perms)
    → (account.name ≡ owner) ⊎ (¬ HasEntry account group entries)
    → decision account owner group (with_perms Mask perms entries) request ≡ decision account owner group entries request

-- two matching groups are never joined: what a group grants, one entry holds whole
abbrev pub GroupsAreNotJoined : Type 0
GroupsAreNotJoined = (account : Account) (owner group : List ℕ) (entries : List Entry) (request : Perms)
    → IsValidAcl entries → Applies InGroup account owner group entries
    → decision account owner group entries request ≡ Granted → SomeHolds (IsForGroup account group) entries request

-- the entry at the index is the first of its kind and lacks a part of the request, and no entry of the kind holds the whole
abbrev pub IsFirstToLack : (Entry → Type 0) → ℕ → List Entry → Perms → Type 0
IsFirstToLack Kind index entries request =
    IsSomeAnd (slice_get entries index) (λ e. Kind e × Lacks e request)
    × ((before : ℕ) → before < index → IfSome (slice_get entries before) (λ e. ¬ Kind e))
    × (¬ SomeHolds Kind entries request)

-- who is right to be named of a denial: in the case that applies, the entry that lacks a part of the request;
-- or the mask that does, where an entry for the account holds the whole
abbrev pub IsRightDecider : Decider → Account → List ℕ → List ℕ → List Entry → Perms → Type 0
IsRightDecider ByUserObj account owner group entries request =
    Applies Owner account owner group entries × Any (λ e. IsOf UserObj e × Lacks e request) entries
IsRightDecider (ByUser index) account owner group entries request =
    Applies NamedUser account owner group entries × IsFirstToLack (IsForUser account) index entries request
IsRightDecider (ByGroup index) account owner group entries request =
    Applies InGroup account owner group entries × IsFirstToLack (IsForGroup account group) index entries request
IsRightDecider ByMask account owner group entries request =
    ((Applies NamedUser account owner group entries × SomeHolds (IsForUser account) entries request)
    ⊎ (Applies InGroup account owner group entries × SomeHolds (IsForGroup account group) entries request))
    × Any (λ e. IsOf Mask e × Lacks e request) entries
IsRightDecider ByOther account owner group entries request =
    Applies Others account owner group entries × Any (λ e. IsOf Other e × Lacks e request) entries

-- where a request is denied by a valid list, the decider that is named is the right one, and no other is
abbrev pub DecidersLackThePart : Type 0
DecidersLackThePart = (account : Account) (owner group : List ℕ) (entries : List Entry) (request : Perms) (decider : Decider)
    → IsValidAcl entries → decision account owner group entries request ≢ Granted
    → (decision account owner group entries request ≡ Denied decider) ↔ IsRightDecider decider account owner group entries request
