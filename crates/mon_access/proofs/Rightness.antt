-- The entry that is named is the right one.
use Rattle.std.proofs.Common.{◌≡◌, ℕ, zero, suc, ◌+◌, ◌<◌, Bool, true, false, ◌&&◌, List, [], ◌∷◌, Option, None, Some, refl, sym, ap, ◌∙◌, subst, true≢false, arith}
use Rattle.std.specs.{Prelude.{◌↔◌, Decides, IsSome, IsSomeAnd, IfSome, slice_get, position, if◌then◌else◌, Any}, List.{list_any, position_from}}
use Rattle.std.proofs.lemmas.{Iterator.Adapters.{position_from-zero}, Bool.Decides.{Decides-and}}
use Rattle.mon_acl.specs.declared.entries.{Perms.{Perms}, Tag.{Tag}, Tag.TheVariants.{UserObj, GroupObj, Mask, Other}}
use Rattle.mon_acl.specs.{declared.entries.Entry.{Entry}, Entries.{has_tag}, Permissions.{holds}}
use Rattle.mon_access.specs.{declared.account.Account.{Account}, declared.access.Decision.{Decision}, declared.access.Decider.{Decider}, Laws.{GrantsByItsCase}}
use Rattle.mon_access.specs.{declared.access.Decision.TheVariants.{Granted, Denied}, Matches.{is_for_user, is_for_group, some_holds}}
use Rattle.mon_access.specs.AccessCheck.{Case, Owner, NamedUser, InGroup, Others, case_of, grants, decider, decision_in, decision}
use Rattle.mon_access.specs.GrantingLaws.{IsFirstToHold, IsRightGrantor, GrantsByTheEntry, NamedWhereGranted, NamesAnEntry}
use Rattle.mon_access.proofs.Meanings.{refuted, fails, any_Decides, has_tag-Decides, is_for_user-Decides, is_for_group-Decides, some_holds-Decides}
use Rattle.mon_access.specs.{FourCases.{IsOf, IsForUser, IsForGroup, Holds, SomeHolds, Grants}, Granting.{may_grant, holder, granting}}
use Rattle.mon_access.proofs.{Places.{position-Some, position-None}, Cases.{applies_once}, Naming.{if_granted}}

-- THE FIRST OF A LIST

module _ {X : Type 0} (p : X → Bool) (P : X → Type 0) (each : (x : X) → Decides (p x) (P x)) where
  abbrev IsFirst : List X → ℕ → Type 0
  IsFirst xs k = IsSomeAnd (slice_get xs k) P × ((before : ℕ) → before < k → IfSome (slice_get xs before) (λ x. ¬ P x))

  later : (x : X) (xs : List X) (k : ℕ) → (¬ P x) → IsFirst xs k → IsFirst (x ∷ xs) (suc k)
  later x xs k not h = (h.0, by)
    where
      by : (before : ℕ) → before < suc k → IfSome (slice_get (x ∷ xs) before) (λ y. ¬ P y)
      by zero less = not
      by (suc b) less = h.1 b (omega (arith, less))

  found : (n : ℕ) (xs : List X) (i : ℕ) → position_from p n xs ≡ Some i → (k : ℕ) × (i ≡ n + k) × IsFirst xs k
  found n [] i h = absurd cc
  found n (x ∷ xs) i h = by (p x) refl h (found (n + 1) xs i)
    where
      by : (b : Bool) → p x ≡ b → (if b then Some n else position_from p (n + 1) xs) ≡ Some i
          → (position_from p (n + 1) xs ≡ Some i → (k : ℕ) × (i ≡ n + 1 + k) × IsFirst xs k) → (k : ℕ) × (i ≡ n + k) × IsFirst (x ∷ xs) k
      by true e h rest = let same : n ≡ i = cc in (0, omega (arith, same), ((each x).0 e, λ before less. absurd (omega (arith, less))))
      by false e h rest = let r = rest h in let at = r.1 in (suc r.0, omega (arith, at), later x xs r.0 (refuted _ (each x) e) r.2)

  back : (n : ℕ) (xs : List X) (k : ℕ) → IsFirst xs k → position_from p n xs ≡ Some (n + k)
  back n [] k h = absurd h.0
  back n (x ∷ xs) zero h =
      let e : n ≡ n + 0 = omega arith in
      ap (λ (b : Bool). if b then Some n else position_from p (n + 1) xs) ((each x).1 h.0) ∙ ap (λ (i : ℕ). Some i) e
  back n (x ∷ xs) (suc k) h =
      let e : n + 1 + k ≡ n + suc k = omega arith in
      ap (λ (b : Bool). if b then Some n else position_from p (n + 1) xs) (fails _ (each x) (h.1 0 (omega arith)))
      ∙ back (n + 1) xs k (h.0, λ before less. h.1 (suc before) (omega (arith, less))) ∙ ap (λ (i : ℕ). Some i) e

  -- a search tells the first, and it alone
  pub first_is : (xs : List X) (i : ℕ) → (position p xs ≡ Some i) ↔ IsFirst xs i
  first_is xs i = (
    (λ h.
        let r = found 0 xs i (sym (position_from-zero p xs) ∙ h) in
        let same : r.0 ≡ i = (let at = r.1 in omega (arith, at)) in
        subst (λ (k : ℕ). IsFirst xs k) same r.2),
    (λ h. let e : 0 + i ≡ i = omega arith in position_from-zero p xs ∙ back 0 xs i h ∙ ap (λ (k : ℕ). Some k) e),
  )

-- THE FIRST THAT HOLDS THE REQUEST

module _ (entries : List Entry) (request : Perms) where
  first_to_hold : (kind : Entry → Bool) (Kind : Entry → Type 0) → ((e : Entry) → Decides (kind e) (Kind e)) → (i : ℕ)
      → (position (λ e. kind e && holds e.perms request) entries ≡ Some i) ↔ IsFirstToHold Kind i entries request
  first_to_hold kind Kind each i =
      first_is (λ e. kind e && holds e.perms request) (λ e. Kind e × Holds e request)
      (λ (e : Entry). Decides-and (kind e) (holds e.perms request) (each e) ((λ h. h), (λ h. h))) entries i

  -- then some one holds it
  so_some : (kind : Entry → Bool) (Kind : Entry → Type 0) → ((e : Entry) → Decides (kind e) (Kind e)) → (i : ℕ)
      → IsFirstToHold Kind i entries request → SomeHolds Kind entries request
  so_some kind Kind each i first =
      (some_holds-Decides kind Kind each entries request).0
      (position-Some (λ e. kind e && holds e.perms request) entries i (sym ((first_to_hold kind Kind each i).1 first))).0

-- THE RIGHT ONE

-- what is named of a decision
named_by : (d : Decision) (o : Option ℕ) (i : ℕ) → (if_granted d o ≡ Some i) ↔ ((d ≡ Granted) × (o ≡ Some i))
named_by Granted o i = ((λ h. (refl, h)), (λ h. h.1))
named_by (Denied by) o i = ((λ h. let none : None ≡ Some i = h in cc), (λ h. let differ : Denied by ≡ Granted = h.0 in cc))

first_of : (a b : Bool) → (a && b) ≡ true → a ≡ true
first_of true b h = refl
first_of false b h = h

second_of : (a b : Bool) → (a && b) ≡ true → b ≡ true
second_of true b h = h
second_of false b h = absurd (true≢false (sym h))

module _ (account : Account) (group : List ℕ) (entries : List Entry) (request : Perms) where
  abbrev Right : Case → ℕ → Type 0
  Right case i = (Grants case account group entries request × (holder case account group entries request ≡ Some i)) ↔ IsRightGrantor case account group entries request i

  -- of one type
  of_type : (t : Tag) (i : ℕ) → (SomeHolds (IsOf t) entries request × (position (λ e. has_tag t e && holds e.perms request) entries ≡ Some i)) ↔ IsFirstToHold (IsOf t) i entries request
  of_type t i =
      let first = first_to_hold entries request (has_tag t) (IsOf t) (has_tag-Decides t) i in
      ((λ h. first.0 h.1), (λ r. (so_some entries request (has_tag t) (IsOf t) (has_tag-Decides t) i r, first.1 r)))

  -- of the account's groups
  of_groups : (i : ℕ) → Right InGroup i
  of_groups i = by (list_any (has_tag Mask) entries) (any_Decides _ _ (has_tag-Decides Mask) entries)
    where
      of_group : (position (λ e. is_for_group account group e && holds e.perms request) entries ≡ Some i) ↔ IsFirstToHold (IsForGroup account group) i entries request
      of_group = first_to_hold entries request (is_for_group account group) (IsForGroup account group) (is_for_group-Decides account group) i

      by : (m : Bool) → Decides m (Any (IsOf Mask) entries)
          → (Grants InGroup account group entries request × (position (λ e. (if m then is_for_group account group e else has_tag GroupObj e) && holds e.perms request) entries ≡ Some i))
          ↔ IsRightGrantor InGroup account group entries request i
      by true has = (
        (λ h. ((λ any. ((h.0.0 any).0, of_group.0 h.1)), (λ no. absurd (no (has.0 refl))))),
        (λ r.
            let some = r.0 (has.0 refl) in (
              ((λ any. (some.0, so_some entries request (is_for_group account group) (IsForGroup account group) (is_for_group-Decides account group) i some.1)), (λ no. absurd (no (has.0 refl)))),
              of_group.1 some.1,
            )),
      )
      by false has =
          let none : ¬ Any (IsOf Mask) entries = (λ any. true≢false (sym (has.1 any))) in (
            (λ h. ((λ any. absurd (none any)), (λ no. (of_type GroupObj i).0 (h.0.1 no, h.1)))),
            (λ r. let some = (of_type GroupObj i).1 (r.1 none) in (((λ any. absurd (none any)), (λ no. some.0)), some.1)),
          )

  right : (case : Case) (i : ℕ) → Right case i
  right Owner i = of_type UserObj i
  right NamedUser i =
      let first = first_to_hold entries request (is_for_user account) (IsForUser account) (is_for_user-Decides account) i in (
        (λ h. (first.0 h.1, h.0.1)),
        (λ r. ((so_some entries request (is_for_user account) (IsForUser account) (is_for_user-Decides account) i r.0, r.1), first.1 r.0)),
      )
  right InGroup i = of_groups i
  right Others i = of_type Other i

  -- what is granted, some one entry holds by which it may be
  held : (case : Case) → grants case account group entries request ≡ true → list_any (λ e. may_grant case account group entries e && holds e.perms request) entries ≡ true
  held Owner h = h
  held NamedUser h = first_of _ _ h
  held InGroup h = by (list_any (has_tag Mask) entries) h
    where
      by : (m : Bool) → (if m then some_holds (has_tag Mask) entries request && some_holds (is_for_group account group) entries request else some_holds (has_tag GroupObj) entries request) ≡ true
          → list_any (λ e. (if m then is_for_group account group e else has_tag GroupObj e) && holds e.perms request) entries ≡ true
      by true g = second_of _ _ g
      by false g = g
  held Others h = h

-- as access is granted where acl(5) grants it
pub grants_by_entry : GrantsByItsCase → GrantsByTheEntry
unfolding granting
grants_by_entry law = λ account owner group entries request case i applies.
    let is = applies_once account owner group entries case applies in
    let granted = law account owner group entries request case applies in
    let named = named_by (decision account owner group entries request) (holder case account group entries request) i in
    let its = right account group entries request case i in
    subst (λ (k : Case). (if_granted (decision account owner group entries request) (holder k account group entries request) ≡ Some i) ↔ IsRightGrantor case account group entries request i) is (
      (λ h. let both = named.0 h in its.0 (granted.0 both.0, both.1)),
      (λ r. let both = its.1 r in named.1 (granted.1 both.0, both.1)),
    )

-- something is found where some element passes
some_found : {X : Type 0} (p : X → Bool) (xs : List X) → list_any p xs ≡ true → IsSome (position p xs)
some_found p xs some = by (position p xs) refl
  where
    by : (o : Option ℕ) → o ≡ position p xs → IsSome o
    by None e = absurd (true≢false (sym some ∙ position-None p xs e))
    by (Some i) e = refl

pub where_granted : NamedWhereGranted
unfolding decision granting
where_granted = λ account owner group entries request. by account group entries request (case_of account owner group entries)
  where
    of : (granted : Bool) (d : Decider) (o : Option ℕ) → (granted ≡ true → IsSome o)
        → ((if granted then Granted else Denied d) ≡ Granted) ↔ IsSome (if_granted (if granted then Granted else Denied d) o)
    of true d o some = ((λ h. some refl), (λ h. refl))
    of false d o some = ((λ h. let differ : Denied d ≡ Granted = h in cc), (λ h. absurd (true≢false (sym h))))

    by : (account : Account) (group : List ℕ) (entries : List Entry) (request : Perms) (case : Case)
        → (decision_in case account group entries request ≡ Granted) ↔ IsSome (if_granted (decision_in case account group entries request) (holder case account group entries request))
    by account group entries request case =
        of (grants case account group entries request) (decider case account group entries request) (holder case account group entries request)
        (λ h. some_found (λ (e : Entry). may_grant case account group entries e && holds e.perms request) entries (held account group entries request case h))

-- what is found is there
found_there : {X : Type 0} (p : X → Bool) (n : ℕ) (xs : List X) (i : ℕ) → position_from p n xs ≡ Some i → (k : ℕ) × (i ≡ n + k) × IsSome (slice_get xs k)
found_there p n [] i h = absurd cc
found_there p n (x ∷ xs) i h = by (p x) h (found_there p (n + 1) xs i)
  where
    by : (b : Bool) → (if b then Some n else position_from p (n + 1) xs) ≡ Some i
        → (position_from p (n + 1) xs ≡ Some i → (k : ℕ) × (i ≡ n + 1 + k) × IsSome (slice_get xs k)) → (k : ℕ) × (i ≡ n + k) × IsSome (slice_get (x ∷ xs) k)
    by true h rest = let same : n ≡ i = cc in (0, omega (arith, same), refl)
    by false h rest = let r = rest h in let at = r.1 in (suc r.0, omega (arith, at), r.2)

pub an_entry : NamesAnEntry
unfolding granting
an_entry = λ account owner group entries request index named.
    let held = (named_by (decision account owner group entries request) (holder (case_of account owner group entries) account group entries request) index).0 named in
    let r = found_there (λ (e : Entry). may_grant (case_of account owner group entries) account group entries e && holds e.perms request) 0 entries index
    (sym (position_from-zero (λ (e : Entry). may_grant (case_of account owner group entries) account group entries e && holds e.perms request) entries) ∙ held.1) in
    let same : r.0 ≡ index = (let at = r.1 in omega (arith, at)) in
    subst (λ (k : ℕ). IsSome (slice_get entries k)) same r.2
