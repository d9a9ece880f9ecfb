-- What holds a request holds each smaller one.
use Rattle.std.proofs.Common.{◌≡◌, ℕ, Bool, true, false, not, ◌||◌, ◌&&◌, List, [], ◌∷◌, refl, sym, true≢false}
use Rattle.std.specs.List.{list_any}
use Rattle.mon_acl.specs.{declared.entries.Perms.{Perms}, declared.entries.Tag.TheVariants.{GroupObj, Mask}, declared.entries.Entry.{Entry}, Entries.{has_tag}}
use Rattle.mon_acl.specs.Permissions.{holds}
use Rattle.mon_access.specs.{declared.account.Account.{Account}, Matches.{is_for_group, some_holds}, Laws.{GrantsSmallerRequests}}
use Rattle.mon_access.{specs.AccessCheck.{Case, Owner, NamedUser, InGroup, Others, case_of, grants, decision}, proofs.Cases.{granted_is}}

-- both tests pass
pub both : (a b : Bool) → (a && b) ≡ true → (a ≡ true) × (b ≡ true)
both true b h = (refl, h)
both false b h = absurd (true≢false (sym h))

pub both_pass : (a b : Bool) → a ≡ true → b ≡ true → (a && b) ≡ true
both_pass a b p q = rw (p, q) refl

-- one permission: asked for only where the larger request asks for it, and then held
held_too : (held large small : Bool) → (not small || large) ≡ true → (not large || held) ≡ true → (not small || held) ≡ true
held_too held large false p q = refl
held_too held true true p q = q
held_too held false true p q = absurd (true≢false (sym p))

pub holds_smaller : (held large small : Perms) → holds large small ≡ true → holds held large ≡ true → holds held small ≡ true
holds_smaller held large small p q =
    let p1 = both _ _ p in
    let p2 = both _ _ p1.0 in
    let q1 = both _ _ q in
    let q2 = both _ _ q1.0 in
    both_pass _ _
    (both_pass _ _ (held_too held.read large.read small.read p2.0 q2.0) (held_too held.write large.write small.write p2.1 q2.1))
    (held_too held.execute large.execute small.execute p1.1 q1.1)

-- a test that passes where another does, on the elements that a third refuses
pub any_more : {X : Type 0} (out p q : X → Bool) → ((x : X) → out x ≡ false → p x ≡ true → q x ≡ true) → (xs : List X)
    → list_any out xs ≡ false → list_any p xs ≡ true → list_any q xs ≡ true
any_more out p q more [] none h = h
any_more out p q more (x ∷ xs) none h = by (out x) (p x) refl refl none h (λ rest h. any_more out p q more xs rest h)
  where
    by : (o b : Bool) → out x ≡ o → p x ≡ b → (o || list_any out xs) ≡ false → (b || list_any p xs) ≡ true
        → (list_any out xs ≡ false → list_any p xs ≡ true → list_any q xs ≡ true) → (q x || list_any q xs) ≡ true
    by true b eo eb none h rest = absurd (true≢false none)
    by false true eo eb none h rest = rw (more x eo eb) refl
    by false false eo eb none h rest = passes (q x) (rest none h)
      where
        passes : (a : Bool) → list_any q xs ≡ true → (a || list_any q xs) ≡ true
        passes true r = refl
        passes false r = r

pub any_less : {X : Type 0} (p q : X → Bool) → ((x : X) → p x ≡ true → q x ≡ true) → (xs : List X) → list_any p xs ≡ true → list_any q xs ≡ true
any_less {X} p q more xs h = any_more (λ (x : X). false) p q (λ x _ e. more x e) xs (none xs) h
  where
    none : (xs : List X) → list_any (λ (x : X). false) xs ≡ false
    none [] = refl
    none (x ∷ xs) = none xs

pub some_holds_smaller : (kind : Entry → Bool) (entries : List Entry) (large small : Perms) → holds large small ≡ true
    → some_holds kind entries large ≡ true → some_holds kind entries small ≡ true
some_holds_smaller kind entries large small smaller h =
    any_less _ _ (λ (e : Entry) both_hold. let b = both _ _ both_hold in both_pass _ _ b.0 (holds_smaller e.perms large small smaller b.1)) entries h

grants_smaller : (case : Case) (account : Account) (group : List ℕ) (entries : List Entry) (large small : Perms) → holds large small ≡ true
    → grants case account group entries large ≡ true → grants case account group entries small ≡ true
grants_smaller Owner account group entries large small smaller h = some_holds_smaller _ entries large small smaller h
grants_smaller NamedUser account group entries large small smaller h =
    let b = both _ _ h in
    both_pass _ _ (some_holds_smaller _ entries large small smaller b.0) (some_holds_smaller _ entries large small smaller b.1)
grants_smaller InGroup account group entries large small smaller h = by (list_any (has_tag Mask) entries) refl
  where
    by : (m : Bool) → list_any (has_tag Mask) entries ≡ m → grants InGroup account group entries small ≡ true
    by true e =
        let masked : (some_holds (has_tag Mask) entries large && some_holds (is_for_group account group) entries large) ≡ true = rw e at h in
        let b = both _ _ masked in
        rw e (both_pass _ _ (some_holds_smaller _ entries large small smaller b.0) (some_holds_smaller _ entries large small smaller b.1))
    by false e =
        let bare : some_holds (has_tag GroupObj) entries large ≡ true = rw e at h in
        rw e (some_holds_smaller _ entries large small smaller bare)
grants_smaller Others account group entries large small smaller h = some_holds_smaller _ entries large small smaller h

pub grants_smaller_requests : GrantsSmallerRequests
unfolding decision
grants_smaller_requests = λ account owner group entries large small smaller h.
    let case = case_of account owner group entries in
    let e : grants case account group entries small ≡ true = grants_smaller case account group entries large small smaller (granted_is _ _ h) in
    rw e refl
