-- What a denial names is an entry of the list that lacks a part of the request.
use Rattle.std.proofs.Common.{◌≡◌, ℕ, false, inl, inr, List, Option, None, Some, slice_get, refl, sym, ap, subst, ◌∙◌, true≢false}
use Rattle.std.{specs.Prelude.{All, Any, IsSomeAnd}, proofs.lemmas.Option.{slice_get_cases}}
use Rattle.mon_acl.specs.declared.entries.{Perms.{Perms}, Tag.{Tag}, Tag.TheVariants.{UserObj, User, GroupObj, Mask, Other}}
use Rattle.mon_acl.specs.{declared.entries.Entry.{Entry}, Entries.{is_qualified, IsEntry}}
use Rattle.mon_access.specs.declared.{account.Account.{Account}, access.Decider.{Decider}, access.Decision.TheVariants.{Granted, Denied}}
use Rattle.mon_access.specs.{AccessCheck.{decision}, FourCases.{IsOf, IsForUser, IsForGroup, Lacks}, Laws.{IsRightDecider, DecidersLackThePart}}
use Rattle.mon_access.specs.declared.access.Decider.TheVariants as decider
use Rattle.mon_guard.specs.{Reasons.{reason_at, reason_of}, Laws.{NamesLackingEntry, DenialsNameAnEntry}}

-- an entry of a type that has no qualifier has no name
nameless : (t : Tag) → ((name : List ℕ) → is_qualified t (Some name) ≡ false) → (e : Entry) → e.tag ≡ t → IsEntry e → e.name ≡ None
nameless t none e is entry = by e.name refl
  where
    by : (o : Option (List ℕ)) → e.name ≡ o → o ≡ None
    by None at = refl
    by (Some name) at =
        let one : is_qualified e.tag e.name ≡ false = ap (λ (u : Tag). is_qualified u e.name) is ∙ ap (is_qualified t) at ∙ none name in
        absurd (true≢false (sym entry ∙ one))

module _ (entries : List Entry) (request : Perms) where
  -- an entry that lacks a part is what is named
  nameless_lacks : (t : Tag) → ((name : List ℕ) → is_qualified t (Some name) ≡ false) → All IsEntry entries
      → Any (λ e. IsOf t e × Lacks e request) entries → Any (λ e. (e.tag ≡ t) × (e.name ≡ None) × Lacks e request) entries
  nameless_lacks t none entries_are (k, e, within, at, (is, lacks)) =
      let entry : IsEntry e = subst IsEntry at (entries_are k e within) in
      (k, e, within, at, (is, nameless t none e is entry, lacks))

  -- so is one at a place
  named_lacks : (t : Tag) (place : ℕ) (Kind : Entry → Type 0) → IsSomeAnd (slice_get entries place) (λ e. Kind e × Lacks e request)
      → NamesLackingEntry entries request (reason_at t (slice_get entries place))
  named_lacks t place Kind h =
      elim (slice_get_cases entries place).1 [
        | inl (e, within, at, same) ↦
            let is : IsSomeAnd (Some e) (λ e. Kind e × Lacks e request) = subst (λ o. IsSomeAnd o (λ e. Kind e × Lacks e request)) at h in
            subst (λ o. NamesLackingEntry entries request (reason_at t o)) (sym at) (place, e, within, same, (refl, refl, is.1))
        | inr (past, at) ↦ absurd (subst (λ o. IsSomeAnd o (λ e. Kind e × Lacks e request)) at h)
      ]

  named : (account : Account) (owner group : List ℕ) (d : Decider) → All IsEntry entries → IsRightDecider d account owner group entries request
      → NamesLackingEntry entries request (reason_of entries d)
  named account owner group decider.UserObj entries_are right = nameless_lacks UserObj (λ _. refl) entries_are right.1
  named account owner group (decider.User place) entries_are right = named_lacks User place (IsForUser account) right.1.0
  named account owner group (decider.Group place) entries_are right = named_lacks GroupObj place (IsForGroup account group) right.1.0
  named account owner group decider.Mask entries_are right = nameless_lacks Mask (λ _. refl) entries_are right.1
  named account owner group decider.Other entries_are right = nameless_lacks Other (λ _. refl) entries_are right.1

-- by mon_access's law of the deciders
pub denials_name_an_entry : DecidersLackThePart → DenialsNameAnEntry
denials_name_an_entry law account set request d valid denied =
    let refused = λ (granted : decision account set.owner set.group set.acl request ≡ Granted). let differ : Denied d ≡ Granted = sym denied ∙ granted in absurd cc in
    named set.acl request account set.owner set.group d valid.entries ((law account set.owner set.group set.acl request d valid refused).0 denied)
