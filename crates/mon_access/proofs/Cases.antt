-- Which case applies, and what is granted in it.
use Rattle.std.proofs.Common.{◌≡◌, ℕ, Bool, true, false, ◌&&◌, List, refl, sym, subst, true≢false}
use Rattle.std.{specs.Prelude.{Any, Decides, ◌↔◌, if◌then◌else◌}, specs.List.{list_any}, proofs.lemmas.Bool.Decides.{Decides-and}}
use Rattle.mon_acl.specs.declared.entries.{Perms.{Perms}, Tag.TheVariants.{UserObj, GroupObj, Mask, Other}, Entry.{Entry}}
use Rattle.mon_acl.specs.Entries.{has_tag}
use Rattle.mon_access.specs.declared.{account.Account.{Account}, access.Decision.TheVariants.{Granted, Denied}, access.Decider.{Decider}}
use Rattle.mon_access.specs.{Matches.{is_owner, is_for_user, is_for_group, some_holds}, FourCases.{IsOf, IsForUser, IsForGroup, SomeHolds, Applies, Grants}}
use Rattle.mon_access.specs.AccessCheck.{Case, Owner, NamedUser, InGroup, Others, case_of, grants, decision_in, decision}
use Rattle.mon_access.specs.Laws.{ExactlyOneCaseApplies, GrantsByItsCase}
use Rattle.mon_access.proofs.Meanings.{refuted, fails, any_Decides, has_tag-Decides, is_owner-Decides, is_for_user-Decides, is_for_group-Decides, some_holds-Decides}

module _ (account : Account) (owner group : List ℕ) (entries : List Entry) where
  owns : Decides (is_owner account owner) (account.name ≡ owner)
  owns = is_owner-Decides account owner

  pub any_user : Decides (list_any (is_for_user account) entries) (Any (IsForUser account) entries)
  any_user = any_Decides _ _ (is_for_user-Decides account) entries

  pub any_group : Decides (list_any (is_for_group account group) entries) (Any (IsForGroup account group) entries)
  any_group = any_Decides _ _ (is_for_group-Decides account group) entries

  -- the case that is computed applies
  pub case_applies : Applies (case_of account owner group entries) account owner group entries
  case_applies = by (is_owner account owner) (list_any (is_for_user account) entries) (list_any (is_for_group account group) entries) refl refl refl
    where
      by : (o u g : Bool) → is_owner account owner ≡ o → list_any (is_for_user account) entries ≡ u → list_any (is_for_group account group) entries ≡ g
          → Applies (if o then Owner else (if u then NamedUser else (if g then InGroup else Others))) account owner group entries
      by true u g eo eu eg = owns.0 eo
      by false true g eo eu eg = (refuted _ owns eo, any_user.0 eu)
      by false false true eo eu eg = (refuted _ owns eo, refuted _ any_user eu, any_group.0 eg)
      by false false false eo eu eg = (refuted _ owns eo, refuted _ any_user eu, refuted _ any_group eg)

  -- and no other does
  pub applies_once : (case : Case) → Applies case account owner group entries → case ≡ case_of account owner group entries
  applies_once Owner own = let eo = owns.1 own in rw eo refl
  applies_once NamedUser (not_own, user) =
      let eo = fails _ owns not_own in
      let eu = any_user.1 user in
      rw (eo, eu) refl
  applies_once InGroup (not_own, no_user, in_group) =
      let eo = fails _ owns not_own in
      let eu = fails _ any_user no_user in
      let eg = any_group.1 in_group in
      rw (eo, eu, eg) refl
  applies_once Others (not_own, no_user, no_group) =
      let eo = fails _ owns not_own in
      let eu = fails _ any_user no_user in
      let eg = fails _ any_group no_group in
      rw (eo, eu, eg) refl

pub one_case : ExactlyOneCaseApplies
one_case = λ account owner group entries.
    (case_of account owner group entries, case_applies account owner group entries, applies_once account owner group entries)

-- what is granted in a case
pub grants-Decides : (case : Case) (account : Account) (group : List ℕ) (entries : List Entry) (request : Perms)
    → Decides (grants case account group entries request) (Grants case account group entries request)
grants-Decides Owner account group entries request = some_holds-Decides _ _ (has_tag-Decides UserObj) entries request
grants-Decides NamedUser account group entries request =
    Decides-and _ _ (some_holds-Decides _ _ (is_for_user-Decides account) entries request) (some_holds-Decides _ _ (has_tag-Decides Mask) entries request)
grants-Decides InGroup account group entries request = by (list_any (has_tag Mask) entries) (any_Decides _ _ (has_tag-Decides Mask) entries)
  where
    masked : Decides (some_holds (has_tag Mask) entries request && some_holds (is_for_group account group) entries request)
        (SomeHolds (IsOf Mask) entries request × SomeHolds (IsForGroup account group) entries request)
    masked = Decides-and _ _ (some_holds-Decides _ _ (has_tag-Decides Mask) entries request) (some_holds-Decides _ _ (is_for_group-Decides account group) entries request)

    bare : Decides (some_holds (has_tag GroupObj) entries request) (SomeHolds (IsOf GroupObj) entries request)
    bare = some_holds-Decides _ _ (has_tag-Decides GroupObj) entries request

    by : (m : Bool) → Decides m (Any (IsOf Mask) entries)
        → Decides (if m then some_holds (has_tag Mask) entries request && some_holds (is_for_group account group) entries request
        else some_holds (has_tag GroupObj) entries request)
        (Grants InGroup account group entries request)
    by true has = ((λ h. ((λ _. masked.0 h), (λ no. absurd (no (has.0 refl))))), (λ g. masked.1 (g.0 (has.0 refl))))
    by false has = (
      (λ h. ((λ some. absurd (true≢false (sym (has.1 some)))), (λ _. bare.0 h))),
      (λ g. bare.1 (g.1 (λ some. true≢false (sym (has.1 some))))),
    )
grants-Decides Others account group entries request = some_holds-Decides _ _ (has_tag-Decides Other) entries request

-- a decision is a grant, or a denial by its decider
pub granted_is : (granted : Bool) (by : Decider) → (if granted then Granted else Denied by) ≡ Granted → granted ≡ true
granted_is true by h = refl
granted_is false by h = let differ : Denied by ≡ Granted = h in cc

pub denied_is : (granted : Bool) (by named : Decider) → (if granted then Granted else Denied by) ≡ Denied named → (granted ≡ false) × (by ≡ named)
denied_is true by named h = let differ : Granted ≡ Denied named = h in cc
denied_is false by named h = let same : Denied by ≡ Denied named = h in (refl, cc)

pub grants_by_case : GrantsByItsCase
unfolding decision
grants_by_case = λ account owner group entries request case applies.
    let is = applies_once account owner group entries case applies in
    let d = grants-Decides case account group entries request in
    subst (λ (k : Case). (decision_in k account group entries request ≡ Granted) ↔ Grants case account group entries request) is (
      (λ h. d.0 (granted_is _ _ h)),
      (λ g. let e = d.1 g in rw e refl),
    )
