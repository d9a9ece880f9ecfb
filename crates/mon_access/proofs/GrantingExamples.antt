-- Lists worked by hand: what `granting` computes.
use Rattle.std.specs.Prelude.{◌≡◌, ℕ, true, false, List, [], ◌∷◌, Option, Some, None, codes, refl}
use Rattle.mon_acl.specs.{declared.entries.Perms.{Perms}, declared.entries.Tag.{Tag}, declared.entries.Entry.{Entry}, Permissions.{to_read as r, to_write as w}}
use Rattle.mon_acl.specs.declared.entries.Tag.TheVariants.{UserObj, User, GroupObj, Group, Mask, Other}
use Rattle.mon_access.specs.{declared.account.Account.{Account}, AccessCheck.{decision}, Granting.{granting}}

abbrev anna : Account
anna = record { name = codes "anna"; primary = codes "admin"; groups = [] }

abbrev lisa : Account
lisa = record { name = codes "lisa"; primary = codes "staff"; groups = [] }

abbrev hugo : Account
hugo = record { name = codes "hugo"; primary = codes "ops"; groups = codes "staff" ∷ codes "pay" ∷ [] }

abbrev nora : Account
nora = record { name = codes "nora"; primary = codes "admin"; groups = [] }

abbrev nothing : Perms
nothing = record { read = false; write = false; execute = false }

abbrev rw_ : Perms
rw_ = record { read = true; write = true; execute = false }

abbrev entry : Tag → Perms → Entry
entry t perms = record { tag = t; name = None; perms = perms }

abbrev named : Tag → List ℕ → Perms → Entry
named t name perms = record { tag = t; name = Some name; perms = perms }

-- which entry grants this of a data set of anna and the group admin
abbrev asked : List Entry → Account → Perms → Option ℕ
asked entries account request = granting account (codes "anna") (codes "admin") entries request

-- user::rw-,user:lisa:rw-,group::r--,group:pay:rw-,group:staff:r--,mask::rw-,other::r--
abbrev payroll : List Entry
payroll = entry UserObj rw_ ∷ named User (codes "lisa") rw_ ∷ entry GroupObj r ∷ named Group (codes "pay") rw_ ∷ named Group (codes "staff") r ∷ entry Mask rw_ ∷ entry Other r ∷ []

by_the_owner : asked payroll anna w ≡ Some 0
unfolding granting decision
by_the_owner = refl

by_the_named_user : asked payroll lisa w ≡ Some 1
unfolding granting decision
by_the_named_user = refl

by_the_owning_group : asked payroll nora r ≡ Some 2
unfolding granting decision
by_the_owning_group = refl

denied_to_the_owning_group : asked payroll nora w ≡ None
unfolding granting decision
denied_to_the_owning_group = refl

-- the first of hugo's groups that holds the request, and not the first that matches
by_the_first_group : asked payroll hugo w ≡ Some 3
unfolding granting decision
by_the_first_group = refl

-- user::rw-,group::r--,other::r--
abbrev bare : List Entry
bare = entry UserObj rw_ ∷ entry GroupObj r ∷ entry Other r ∷ []

-- without a mask
by_the_owning_group_alone : asked bare nora r ≡ Some 1
unfolding granting decision
by_the_owning_group_alone = refl

by_all_others : asked bare hugo r ≡ Some 2
unfolding granting decision
by_all_others = refl
