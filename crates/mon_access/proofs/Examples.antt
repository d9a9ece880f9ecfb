-- The access check on lists worked by hand: what `decision` computes.
use Rattle.std.specs.Prelude.{◌≡◌, ℕ, true, false, List, [], ◌∷◌, Some, None, codes, refl}
use Rattle.mon_acl.specs.declared.entries.{Perms.{Perms}, Tag.{Tag}, Tag.TheVariants.{UserObj, User, GroupObj, Group, Mask, Other}, Entry.{Entry}}
use Rattle.mon_access.specs.declared.{account.Account.{Account}, access.Decision.{Decision}, access.Decision.TheVariants.{Granted, Denied}}
use Rattle.mon_access.specs.declared.access.Decider.TheVariants.{UserObj as ByUserObj, User as ByUser, Group as ByGroup, Mask as ByMask, Other as ByOther}
use Rattle.mon_access.specs.AccessCheck.{decision}

abbrev anna : Account
anna = record { name = codes "anna"; primary = codes "admin"; groups = [] }

abbrev lisa : Account
lisa = record { name = codes "lisa"; primary = codes "staff"; groups = [] }

abbrev hugo : Account
hugo = record { name = codes "hugo"; primary = codes "ops"; groups = codes "staff" ∷ [] }

abbrev ada : Account
ada = record { name = codes "ada"; primary = codes "admin"; groups = [] }

abbrev nothing : Perms
nothing = record { read = false; write = false; execute = false }

abbrev r : Perms
r = record { read = true; write = false; execute = false }

abbrev w : Perms
w = record { read = false; write = true; execute = false }

abbrev rw_ : Perms
rw_ = record { read = true; write = true; execute = false }

abbrev rwx : Perms
rwx = record { read = true; write = true; execute = true }

abbrev entry : Tag → Perms → Entry
entry t perms = record { tag = t; name = None; perms = perms }

abbrev named : Tag → List ℕ → Perms → Entry
named t name perms = record { tag = t; name = Some name; perms = perms }

-- what a data set of anna and the group admin answers by a list
abbrev asked : List Entry → Account → Perms → Decision
asked entries account request = decision account (codes "anna") (codes "admin") entries request

-- user::rwx,user:lisa:rw-,group::r--,mask::r--,other::---
abbrev payroll : List Entry
payroll = entry UserObj rwx ∷ named User (codes "lisa") rw_ ∷ entry GroupObj r ∷ entry Mask r ∷ entry Other nothing ∷ []

the_owner_may_write : asked payroll anna rwx ≡ Granted
unfolding decision
the_owner_may_write = refl

the_named_user_may_read : asked payroll lisa r ≡ Granted
unfolding decision
the_named_user_may_read = refl

the_mask_lacks_write : asked payroll lisa w ≡ Denied ByMask
unfolding decision
the_mask_lacks_write = refl

the_entry_is_named_before_the_mask : asked payroll lisa rwx ≡ Denied (ByUser 1)
unfolding decision
the_entry_is_named_before_the_mask = refl

others_are_denied : asked payroll hugo r ≡ Denied ByOther
unfolding decision
others_are_denied = refl

-- user::---,group::rw-,other::---
abbrev shut_out : List Entry
shut_out = entry UserObj nothing ∷ entry GroupObj rw_ ∷ entry Other nothing ∷ []

the_owner_does_not_fall_through : asked shut_out anna r ≡ Denied ByUserObj
unfolding decision
the_owner_does_not_fall_through = refl

with_no_mask_the_group_decides : asked shut_out ada rw_ ≡ Granted
unfolding decision
with_no_mask_the_group_decides = refl

the_group_does_not_fall_through : asked (entry UserObj r ∷ entry GroupObj w ∷ entry Other rwx ∷ []) ada r ≡ Denied (ByGroup 1)
unfolding decision
the_group_does_not_fall_through = refl

-- user::rwx,group::---,group:ops:r--,group:staff:-w-,mask::rw-,other::---
abbrev two_groups : List Entry
two_groups = entry UserObj rwx ∷ entry GroupObj nothing ∷ named Group (codes "ops") r ∷ named Group (codes "staff") w ∷ entry Mask rw_ ∷ entry Other nothing ∷ []

one_group_may_read : asked two_groups hugo r ≡ Granted
unfolding decision
one_group_may_read = refl

the_other_may_write : asked two_groups hugo w ≡ Granted
unfolding decision
the_other_may_write = refl

they_are_not_joined : asked two_groups hugo rw_ ≡ Denied (ByGroup 2)
unfolding decision
they_are_not_joined = refl

-- user::rwx,group::rwx,mask::r--,other::---
the_mask_limits_the_owning_group : asked (entry UserObj rwx ∷ entry GroupObj rwx ∷ entry Mask r ∷ entry Other nothing ∷ []) ada w ≡ Denied ByMask
unfolding decision
the_mask_limits_the_owning_group = refl
