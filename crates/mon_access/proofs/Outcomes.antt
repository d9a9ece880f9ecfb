-- What is decided, by what the entries of a kind say.
use Rattle.std.proofs.Common.{◌≡◌, ℕ, Bool, true, false, ◌&&◌, List, refl}
use Rattle.std.specs.{Prelude.{if◌then◌else◌}, List.{list_any, position_or_len}}
use Rattle.mon_acl.specs.declared.entries.{Perms.{Perms}, Tag.TheVariants.{GroupObj, Mask, Other}, Entry.{Entry}}
use Rattle.mon_acl.specs.{Entries.{has_tag}, Permissions.{holds}}
use Rattle.mon_access.{specs.declared.account.Account.{Account}, specs.declared.access.Decision.TheVariants.{Granted, Denied}, proofs.Smaller.{both, any_less}}
use Rattle.mon_access.specs.declared.access.Decider.TheVariants.{User as ByUser, Group as ByGroup, Mask as ByMask, Other as ByOther}
use Rattle.mon_access.specs.{declared.finding.Found.TheVariants.{Nobody, Lacking, Holding}, Matches.{is_for_user, is_for_group, some_holds}}
use Rattle.mon_access.specs.inner.{Kinds.{found, found_of}, Deciding.{decision_beside_owner, decision_beside_users}}

module _ (kind : Entry → Bool) (es : List Entry) (request : Perms) where
  some_of_kind : some_holds kind es request ≡ true → list_any kind es ≡ true
  some_of_kind h = any_less (λ (e : Entry). kind e && holds e.perms request) kind (λ (e : Entry) b. (both _ _ b).0) es h

  pub from_Holding : Holding ≡ found kind es request → (some_holds kind es request ≡ true) × (list_any kind es ≡ true)
  from_Holding h = by (some_holds kind es request) (list_any kind es) refl refl h
    where
      by : (s a : Bool) → some_holds kind es request ≡ s → list_any kind es ≡ a → Holding ≡ found_of s a (position_or_len kind es) → (some_holds kind es request ≡ true) × (list_any kind es ≡ true)
      by true a e f h = (e, some_of_kind e)
      by false true e f h = let differ : Holding ≡ Lacking (position_or_len kind es) = h in cc
      by false false e f h = let differ : Holding ≡ Nobody = h in cc

  pub from_Lacking : (i : ℕ) → Lacking i ≡ found kind es request → (some_holds kind es request ≡ false) × (list_any kind es ≡ true) × (i ≡ position_or_len kind es)
  from_Lacking i h = by (some_holds kind es request) (list_any kind es) refl refl h
    where
      by : (s a : Bool) → some_holds kind es request ≡ s → list_any kind es ≡ a → Lacking i ≡ found_of s a (position_or_len kind es)
          → (some_holds kind es request ≡ false) × (list_any kind es ≡ true) × (i ≡ position_or_len kind es)
      by true a e f h = let differ : Lacking i ≡ Holding = h in cc
      by false true e f h = let same : Lacking i ≡ Lacking (position_or_len kind es) = h in (e, f, cc)
      by false false e f h = let differ : Lacking i ≡ Nobody = h in cc

  pub from_Nobody : Nobody ≡ found kind es request → list_any kind es ≡ false
  from_Nobody h = by (some_holds kind es request) (list_any kind es) refl refl h
    where
      by : (s a : Bool) → some_holds kind es request ≡ s → list_any kind es ≡ a → Nobody ≡ found_of s a (position_or_len kind es) → list_any kind es ≡ false
      by true a e f h = let differ : Nobody ≡ Holding = h in cc
      by false true e f h = let differ : Nobody ≡ Lacking (position_or_len kind es) = h in cc
      by false false e f h = f

module _ (account : Account) (group : List ℕ) (es : List Entry) (request : Perms) where
  pub user_holds : Holding ≡ found (is_for_user account) es request →
      (if some_holds (has_tag Mask) es request then Granted else Denied ByMask) ≡ decision_beside_owner account group es request
  user_holds h =
      let (held, some) = from_Holding (is_for_user account) es request h in
      rw (some, held) refl

  pub user_lacks : (i : ℕ) → Lacking i ≡ found (is_for_user account) es request → Denied (ByUser i) ≡ decision_beside_owner account group es request
  user_lacks i h =
      let (lacks, some, at) = from_Lacking (is_for_user account) es request i h in
      rw (some, lacks, at) refl

  pub no_user : Nobody ≡ found (is_for_user account) es request → decision_beside_users account group es request ≡ decision_beside_owner account group es request
  no_user h = let none = from_Nobody (is_for_user account) es request h in rw none refl

  pub group_holds : Holding ≡ found (is_for_group account group) es request →
      (if (if list_any (has_tag Mask) es then some_holds (has_tag Mask) es request && true else some_holds (has_tag GroupObj) es request) then Granted else Denied ByMask)
      ≡ decision_beside_users account group es request
  group_holds h =
      let (held, some) = from_Holding (is_for_group account group) es request h in
      rw (some, held) refl

  pub group_lacks : (i : ℕ) → Lacking i ≡ found (is_for_group account group) es request →
      (if (if list_any (has_tag Mask) es then some_holds (has_tag Mask) es request && false else some_holds (has_tag GroupObj) es request) then Granted else Denied (ByGroup i))
      ≡ decision_beside_users account group es request
  group_lacks i h =
      let (lacks, some, at) = from_Lacking (is_for_group account group) es request i h in
      rw (some, lacks, at) refl

  pub no_group : Nobody ≡ found (is_for_group account group) es request →
      (if some_holds (has_tag Other) es request then Granted else Denied ByOther) ≡ decision_beside_users account group es request
  no_group h = let none = from_Nobody (is_for_group account group) es request h in rw none refl

pub ruleset outcomes = (user_holds, user_lacks, no_user, group_holds, group_lacks, no_group)

pub ruleset kinds = (from_Holding, from_Lacking, from_Nobody)
