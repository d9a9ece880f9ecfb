-- What a grant to a member of a group rests on, and what a denial names.
use Rattle.std.proofs.Common.{◌≡◌, ◌≢◌, ℕ, ◌<◌, Bool, true, false, ◌||◌, ◌&&◌, inl, inr, List, length, get_or, Option, None, Some, refl, sym, ap, subst, nat_cmp, Ordering, Less, Equal, Greater, ◌∙◌, true≢false, arith, nat_lt}
use Rattle.std.specs.{Prelude.{Any, Decides, IsSomeAnd, IfSome, slice_get, if◌then◌else◌}, List.{list_any, position_or_len}, Cmp.{ranks}}
use Rattle.std.specs.{Ordering.{MatchOrdering}, Option.{option_map_or}}
use Rattle.std.proofs.lemmas.{Bool.Decides.{nat_tests}, List.Folds.{Any-from_list_any, list_any-from_Any}, List.Sums.{fails_before_first, passes_at_first}}
use Rattle.std.proofs.lemmas.Option.{slice_get-get_or, get_or_from_slice_get}
use Rattle.mon_acl.specs.{declared.entries.Perms.{Perms}, declared.entries.Tag.TheVariants.{UserObj, User, GroupObj, Group, Mask, Other}, Permissions.{holds}}
use Rattle.mon_acl.specs.{declared.entries.Entry.{Entry}, Entries.{has_tag, is_named, IsValidAcl}}
use Rattle.mon_access.specs.declared.{account.Account.{Account}, access.Decision.TheVariants.{Granted, Denied}, access.Decider.{Decider}}
use Rattle.mon_access.specs.declared.access.Decider.TheVariants.{UserObj as ByUserObj, User as ByUser, Group as ByGroup, Mask as ByMask, Other as ByOther}
use Rattle.mon_access.specs.Matches.{is_in_group, is_for_user, is_for_group, some_holds}
use Rattle.mon_access.specs.AccessCheck.{Case, Owner, NamedUser, InGroup, Others, case_of, grants, decider, decision_in, decision}
use Rattle.mon_access.specs.FourCases.{IsOf, IsForUser, IsForGroup, Lacks, SomeHolds, Applies, Grants}
use Rattle.mon_access.specs.Laws.{HasEntry, NeverFallsThrough, MaskLimitsNamedEntriesAndGroups, GroupsAreNotJoined, IsRightDecider, DecidersLackThePart}
use Rattle.mon_access.proofs.Meanings.{refuted, fails, has_tag-Decides, is_for_user-Decides, is_for_group-Decides, some_holds-Decides}
use Rattle.mon_access.proofs.{Places.{list_any_by_place}, Counts.{any_from_one, masked_by, unnamed}, Smaller.{both, both_pass, any_less, any_more}}
use Rattle.mon_access.proofs.{Cases.{any_user, any_group, case_applies, applies_once, denied_is, grants-Decides, grants_by_case}, Changes.{Spares, spared}}

-- an account with an entry is not one of all others
judged : (account : Account) (owner group : List ℕ) (entries : List Entry) → HasEntry account group entries → case_of account owner group entries ≢ Others
judged account owner group entries has is =
    let others : Applies Others account owner group entries = subst (λ (k : Case). Applies k account owner group entries) is (case_applies account owner group entries) in
    by has others
  where
    by : HasEntry account group entries → Applies Others account owner group entries → ⊥
    by (inl user) others = others.1 user
    by (inr member) others = others.2 member

not_by_other : (case : Case) (account : Account) (group : List ℕ) (entries : List Entry) (request : Perms) → case ≢ Others
    → decider case account group entries request ≢ ByOther
not_by_other Owner account group entries request ne h = let differ : ByUserObj ≡ ByOther = h in cc
not_by_other NamedUser account group entries request ne h = by (some_holds (is_for_user account) entries request) h
  where
    by : (b : Bool) → (if b then ByMask else ByUser (position_or_len (is_for_user account) entries)) ≡ ByOther → ⊥
    by true h = let differ : ByMask ≡ ByOther = h in cc
    by false h = let differ : ByUser (position_or_len (is_for_user account) entries) ≡ ByOther = h in cc
not_by_other InGroup account group entries request ne h = by (some_holds (is_for_group account group) entries request) h
  where
    by : (b : Bool) → (if b then ByMask else ByGroup (position_or_len (is_for_group account group) entries)) ≡ ByOther → ⊥
    by true h = let differ : ByMask ≡ ByOther = h in cc
    by false h = let differ : ByGroup (position_or_len (is_for_group account group) entries) ≡ ByOther = h in cc
not_by_other Others account group entries request ne h = ne refl

spares_other : (case : Case) → case ≢ Others → Spares case Other
spares_other Owner ne = refl
spares_other NamedUser ne = (refl, refl)
spares_other InGroup ne = (refl, refl, refl)
spares_other Others ne = absurd (ne refl)

pub never_falls_through : NeverFallsThrough
unfolding decision
never_falls_through = λ account owner group entries request has.
    let ne = judged account owner group entries has in (
      (λ denied. not_by_other (case_of account owner group entries) account group entries request ne (denied_is _ _ _ denied).1),
      (λ perms. spared (case_of account owner group entries) Other account owner group entries request perms refl (spares_other _ ne)),
    )

pub mask_limits : MaskLimitsNamedEntriesAndGroups
mask_limits = λ account owner group entries request not_own has mask granted.
    let case = case_of account owner group entries in
    let applies = case_applies account owner group entries in
    by account owner group entries request not_own mask case applies (judged account owner group entries has)
    ((grants_by_case account owner group entries request case applies).0 granted)
  where
    by : (account : Account) (owner group : List ℕ) (entries : List Entry) (request : Perms) → account.name ≢ owner → Any (IsOf Mask) entries
        → (case : Case) → Applies case account owner group entries → case ≢ Others → Grants case account group entries request
        → SomeHolds (IsOf Mask) entries request
    by account owner group entries request not_own mask Owner own ne g = absurd (not_own own)
    by account owner group entries request not_own mask NamedUser applies ne g = g.1
    by account owner group entries request not_own mask InGroup applies ne g = (g.0 mask).0
    by account owner group entries request not_own mask Others applies ne g = absurd (ne refl)

-- an entry for a named group is a named one, so a matching entry that is not named is the owning group's
owning : (account : Account) (group : List ℕ) (e : Entry) → is_named e ≡ false → is_for_group account group e ≡ true
    → (has_tag GroupObj e && is_in_group account group) ≡ true
owning account group e bare h = by (has_tag User e) (has_tag Group e) (has_tag GroupObj e && is_in_group account group) bare h
  where
    by : (u n o : Bool) → (u || n) ≡ false → (o || (n && option_map_or (is_in_group account) e.name false)) ≡ true → o ≡ true
    by u n true bare h = refl
    by true n false bare h = absurd (true≢false bare)
    by false true false bare h = absurd (true≢false bare)
    by false false false bare h = absurd (true≢false (sym h))

-- in a valid list with no mask, what holds for a group is the owning group's entry
owning_holds : (account : Account) (group : List ℕ) (entries : List Entry) (request : Perms) → list_any is_named entries ≡ false
    → some_holds (is_for_group account group) entries request ≡ true → some_holds (has_tag GroupObj) entries request ≡ true
owning_holds account group entries request bare h =
    any_more is_named _ _
    (λ (e : Entry) not_named both_hold.
    let b = both _ _ both_hold in
    both_pass _ _ (both _ _ (owning account group e not_named b.0)).0 b.1)
    entries bare h

-- and the owning group's entry is one for the account, where some entry is
owning_matches : (account : Account) (group : List ℕ) (entries : List Entry) (request : Perms) → list_any is_named entries ≡ false
    → list_any (is_for_group account group) entries ≡ true
    → some_holds (has_tag GroupObj) entries request ≡ true → some_holds (is_for_group account group) entries request ≡ true
owning_matches account group entries request bare member h =
    let (k, x, within, at, passes) = Any-from_list_any (λ (e : Entry). has_tag GroupObj e && is_in_group account group) entries
    (any_more is_named (is_for_group account group) _ (owning account group) entries bare member) in
    let is_in : is_in_group account group ≡ true = (both _ _ passes).1 in
    any_less _ _
    (λ (e : Entry) both_hold.
    let b = both (has_tag GroupObj e) (holds e.perms request) both_hold in
    let obj : (has_tag GroupObj e && is_in_group account group) ≡ true = both_pass _ _ b.0 is_in in
    both_pass _ _ (rw obj refl) b.1)
    entries h

pub groups_are_not_joined : GroupsAreNotJoined
groups_are_not_joined = λ account owner group entries request valid applies granted.
    let members = some_holds-Decides _ _ (is_for_group-Decides account group) entries request in
    members.0
    (by account group entries request valid ((any_group account owner group entries).1 applies.2) (list_any (has_tag Mask) entries) refl
    ((grants-Decides InGroup account group entries request).1 ((grants_by_case account owner group entries request InGroup applies).0 granted)))
  where
    by : (account : Account) (group : List ℕ) (entries : List Entry) (request : Perms) → IsValidAcl entries
        → list_any (is_for_group account group) entries ≡ true → (m : Bool) → list_any (has_tag Mask) entries ≡ m
        → grants InGroup account group entries request ≡ true → some_holds (is_for_group account group) entries request ≡ true
    by account group entries request valid member true e h =
        let masked : (some_holds (has_tag Mask) entries request && some_holds (is_for_group account group) entries request) ≡ true = rw e at h in
        (both _ _ masked).1
    by account group entries request valid member false e h =
        let bare : some_holds (has_tag GroupObj) entries request ≡ true = rw e at h in
        owning_matches account group entries request (unnamed entries valid e) member bare

-- where no entry of a kind holds the request, each lacks a part
module _ (kind : Entry → Bool) (entries : List Entry) (request : Perms) where
  lacks_at : some_holds kind entries request ≡ false → (k : ℕ) (x : Entry) → k < length entries → get_or entries k x ≡ x → kind x ≡ true
      → holds x.perms request ≡ false
  lacks_at none k x within at is = by (holds x.perms request) refl
    where
      by : (b : Bool) → holds x.perms request ≡ b → b ≡ false
      by true e = absurd (true≢false (sym (list_any-from_Any (λ (e : Entry). kind e && holds e.perms request) entries (k, x, within, at, both_pass _ _ is e)) ∙ none))
      by false e = refl

  some_lacks : (Kind : Entry → Type 0) → ((e : Entry) → Decides (kind e) (Kind e)) → list_any kind entries ≡ true → some_holds kind entries request ≡ false
      → Any (λ e. Kind e × Lacks e request) entries
  some_lacks Kind each some none =
      let (k, x, within, at, passes) = Any-from_list_any kind entries some in
      (k, x, within, at, ((each x).0 passes, lacks_at none k x within at passes))

  first_lacks : (Kind : Entry → Type 0) → ((e : Entry) → Decides (kind e) (Kind e)) → list_any kind entries ≡ true → some_holds kind entries request ≡ false
      → IsSomeAnd (slice_get entries (position_or_len kind entries)) (λ e. Kind e × Lacks e request)
  first_lacks Kind each some none =
      let (k, d, _, _, _) = Any-from_list_any kind entries some in
      let found : nat_lt (position_or_len kind entries) (length entries) ≡ true = sym (list_any_by_place kind entries) ∙ some in
      let within : position_or_len kind entries < length entries = grind (arith, nat_tests) in
      let first = get_or entries (position_or_len kind entries) d in
      let got : slice_get entries (position_or_len kind entries) ≡ Some first = slice_get-get_or entries (position_or_len kind entries) d within in
      let passes : kind first ≡ true = passes_at_first kind entries d within in
      let lacks : holds first.perms request ≡ false =
      lacks_at none (position_or_len kind entries) first within (get_or_from_slice_get entries (position_or_len kind entries) first first got) passes in
      rw got ((each first).0 passes, lacks)

  none_before : (Kind : Entry → Type 0) → ((e : Entry) → Decides (kind e) (Kind e)) → (before : ℕ) → before < position_or_len kind entries
      → IfSome (slice_get entries before) (λ e. ¬ Kind e)
  none_before Kind each before lt = by (slice_get entries before) refl
    where
      by : (o : Option Entry) → slice_get entries before ≡ o → IfSome o (λ e. ¬ Kind e)
      by None at = tt
      by (Some e) at =
          let fails_here : kind e ≡ false = subst (λ (x : Entry). kind x ≡ false) (get_or_from_slice_get entries before e e at) (fails_before_first kind entries before e lt) in
          refuted _ (each e) fails_here

second_fails : (a b : Bool) → a ≡ true → (a && b) ≡ false → b ≡ false
second_fails a b p q = rw p at q

first_fails : (a b : Bool) → b ≡ true → (a && b) ≡ false → a ≡ false
first_fails true b p q = absurd (true≢false (sym p ∙ q))
first_fails false b p q = refl

-- what is denied is denied by the right decider
right_decider : (case : Case) (account : Account) (owner group : List ℕ) (entries : List Entry) (request : Perms) → IsValidAcl entries
    → Applies case account owner group entries → grants case account group entries request ≡ false
    → IsRightDecider (decider case account group entries request) account owner group entries request
right_decider Owner account owner group entries request valid applies refused =
    (applies, some_lacks _ entries request (IsOf UserObj) (has_tag-Decides UserObj) (any_from_one _ entries valid.owner) refused)
right_decider NamedUser account owner group entries request valid applies refused = by (some_holds (is_for_user account) entries request) refl
  where
    user : list_any (is_for_user account) entries ≡ true
    user = (any_user account owner group entries).1 applies.1

    named : list_any is_named entries ≡ true
    named = any_less (is_for_user account) is_named (λ (e : Entry) h. let tag : has_tag User e ≡ true = (both _ _ h).0 in rw tag refl) entries user

    holders : Decides (some_holds (is_for_user account) entries request) (SomeHolds (IsForUser account) entries request)
    holders = some_holds-Decides (is_for_user account) (IsForUser account) (is_for_user-Decides account) entries request

    by : (b : Bool) → some_holds (is_for_user account) entries request ≡ b
        → IsRightDecider (if b then ByMask else ByUser (position_or_len (is_for_user account) entries)) account owner group entries request
    by true e = (inl (applies, holders.0 e), some_lacks _ entries request (IsOf Mask) (has_tag-Decides Mask) (masked_by entries valid named) (second_fails _ _ e refused))
    by false e = (
      applies,
      (
        first_lacks (is_for_user account) entries request (IsForUser account) (is_for_user-Decides account) user e,
        none_before (is_for_user account) entries request (IsForUser account) (is_for_user-Decides account),
        refuted _ holders e,
      ),
    )
right_decider InGroup account owner group entries request valid applies refused = by (some_holds (is_for_group account group) entries request) refl
  where
    member : list_any (is_for_group account group) entries ≡ true
    member = (any_group account owner group entries).1 applies.2

    masked : some_holds (is_for_group account group) entries request ≡ true → (m : Bool) → list_any (has_tag Mask) entries ≡ m
        → (if m then some_holds (has_tag Mask) entries request && some_holds (is_for_group account group) entries request
        else some_holds (has_tag GroupObj) entries request) ≡ false
        → (list_any (has_tag Mask) entries ≡ true) × (some_holds (has_tag Mask) entries request ≡ false)
    masked held true e refused = (e, first_fails _ _ held refused)
    masked held false e refused = absurd (true≢false (sym (owning_holds account group entries request (unnamed entries valid e) held) ∙ refused))

    holders : Decides (some_holds (is_for_group account group) entries request) (SomeHolds (IsForGroup account group) entries request)
    holders = some_holds-Decides (is_for_group account group) (IsForGroup account group) (is_for_group-Decides account group) entries request

    by : (b : Bool) → some_holds (is_for_group account group) entries request ≡ b
        → IsRightDecider (if b then ByMask else ByGroup (position_or_len (is_for_group account group) entries)) account owner group entries request
    by true e =
        let m = masked e (list_any (has_tag Mask) entries) refl refused in
        (inr (applies, holders.0 e), some_lacks _ entries request (IsOf Mask) (has_tag-Decides Mask) m.0 m.1)
    by false e = (
      applies,
      (
        first_lacks (is_for_group account group) entries request (IsForGroup account group) (is_for_group-Decides account group) member e,
        none_before (is_for_group account group) entries request (IsForGroup account group) (is_for_group-Decides account group),
        refuted _ holders e,
      ),
    )
right_decider Others account owner group entries request valid applies refused =
    (applies, some_lacks _ entries request (IsOf Other) (has_tag-Decides Other) (any_from_one _ entries valid.other) refused)

-- the first of a kind stands where one does and none before
first_is : (kind : Entry → Bool) (Kind : Entry → Type 0) → ((e : Entry) → Decides (kind e) (Kind e)) → (entries : List Entry) (index : ℕ)
    → list_any kind entries ≡ true → (request : Perms) → IsSomeAnd (slice_get entries index) (λ e. Kind e × Lacks e request)
    → ((before : ℕ) → before < index → IfSome (slice_get entries before) (λ e. ¬ Kind e))
    → position_or_len kind entries ≡ index
first_is kind Kind each entries index some request here before = by (slice_get entries index) refl here
  where
    within : position_or_len kind entries < length entries
    within = let found : nat_lt (position_or_len kind entries) (length entries) ≡ true = sym (list_any_by_place kind entries) ∙ some in grind (arith, nat_tests)

    by : (o : Option Entry) → slice_get entries index ≡ o → IsSomeAnd o (λ e. Kind e × Lacks e request) → position_or_len kind entries ≡ index
    by None at none = absurd none
    by (Some e) at (is, lacks) = side (nat_cmp (position_or_len kind entries) index) (ranks (position_or_len kind entries) index)
      where
        side : (r : Ordering) → MatchOrdering r (position_or_len kind entries < index) (position_or_len kind entries ≡ index) (index < position_or_len kind entries)
            → position_or_len kind entries ≡ index
        side Less lt =
            let first = get_or entries (position_or_len kind entries) e in
            let got : slice_get entries (position_or_len kind entries) ≡ Some first = slice_get-get_or entries (position_or_len kind entries) e within in
            let none : ¬ Kind first = rw got at (before (position_or_len kind entries) lt) in
            absurd (none ((each first).0 (passes_at_first kind entries e within)))
        side Equal same = same
        side Greater lt =
            let fails_here : kind e ≡ false = subst (λ (x : Entry). kind x ≡ false) (get_or_from_slice_get entries index e e at) (fails_before_first kind entries index e lt) in
            absurd (refuted _ (each e) fails_here is)

denied_by : (granted : Bool) (x d : Decider) → x ≡ d → ((if granted then Granted else Denied x) ≢ Granted) → (if granted then Granted else Denied x) ≡ Denied d
denied_by true x d e n = absurd (n refl)
denied_by false x d e n = ap Denied e

module _ (account : Account) (owner group : List ℕ) (entries : List Entry) (request : Perms) where
  -- in the case that applies its decider is named
  named_in : (case : Case) (d : Decider) → Applies case account owner group entries → decider case account group entries request ≡ d
      → (decision account owner group entries request ≢ Granted) → decision account owner group entries request ≡ Denied d
  unfolding decision
  named_in case d applies is =
      subst (λ (k : Case). (decision_in k account group entries request ≢ Granted) → decision_in k account group entries request ≡ Denied d)
      (applies_once account owner group entries case applies)
      (denied_by (grants case account group entries request) (decider case account group entries request) d is)

  -- a right decider is the one that is named
  right_is_named : (d : Decider) → IsRightDecider d account owner group entries request
      → (decision account owner group entries request ≢ Granted) → decision account owner group entries request ≡ Denied d
  right_is_named ByUserObj (applies, lacks) = named_in Owner ByUserObj applies refl
  right_is_named (ByUser index) (applies, first) =
      let none = fails _ (some_holds-Decides (is_for_user account) (IsForUser account) (is_for_user-Decides account) entries request) first.2 in
      let at = first_is (is_for_user account) (IsForUser account) (is_for_user-Decides account) entries index ((any_user account owner group entries).1 applies.1) request first.0 first.1 in
      named_in NamedUser (ByUser index) applies (rw none (ap ByUser at))
  right_is_named (ByGroup index) (applies, first) =
      let none = fails _ (some_holds-Decides (is_for_group account group) (IsForGroup account group) (is_for_group-Decides account group) entries request) first.2 in
      let at = first_is (is_for_group account group) (IsForGroup account group) (is_for_group-Decides account group) entries index ((any_group account owner group entries).1 applies.2) request first.0 first.1 in
      named_in InGroup (ByGroup index) applies (rw none (ap ByGroup at))
  right_is_named ByMask (inl (applies, holding), lacks) =
      let held = (some_holds-Decides (is_for_user account) (IsForUser account) (is_for_user-Decides account) entries request).1 holding in
      named_in NamedUser ByMask applies (rw held refl)
  right_is_named ByMask (inr (applies, holding), lacks) =
      let held = (some_holds-Decides (is_for_group account group) (IsForGroup account group) (is_for_group-Decides account group) entries request).1 holding in
      named_in InGroup ByMask applies (rw held refl)
  right_is_named ByOther (applies, lacks) = named_in Others ByOther applies refl

pub deciders_lack : DecidersLackThePart
unfolding decision
deciders_lack = λ account owner group entries request named valid refused. (
  (λ denied.
      let case = case_of account owner group entries in
      let (refused, is) = denied_is _ _ _ denied in
      subst (λ (d : Decider). IsRightDecider d account owner group entries request) is
      (right_decider case account owner group entries request valid (case_applies account owner group entries) refused)),
  (λ right. right_is_named account owner group entries request named right refused),
)
