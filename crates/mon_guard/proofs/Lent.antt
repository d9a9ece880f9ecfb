-- What is lent is what is granted, and a denial says why.
use Rattle.std.proofs.Common.{◌≡◌, ◌≢◌, ◌++◌, ◌∷◌, ℕ, Bool, true, false, cond, List, if◌then◌else◌, Option, Some, None, Result, Ok, Err, refl, sym, ap, ◌∙◌, inl, inr}
use Rattle.std.{specs.List.{Contains}, specs.Prelude.{map}, proofs.lemmas.List.Elements.{filter-append}}
use Rattle.mon_acl.specs.declared.entries.{Entry.{Entry}, Perms.{Perms}}
use Rattle.mon_access.specs.declared.{account.Account.{Account}, access.Decision.{Decision}, access.Decision.TheVariants.{Granted, Denied}}
use Rattle.mon_access.specs.Matches.{is_owner}
use Rattle.mon_catalogue.specs.{declared.data_set.DataSet.{DataSet}, Sets.{Sets, find_set}}
use Rattle.interaction.specs.declared.answer.Reason.{Reason, TheVariants.{NoSet, NotOwner}}
use Rattle.mon_guard.specs.{Deciding.{to_read, to_execute, decision_on, where_granted, is_granted, may_be_shown}, inner.Parts.{by_decision}}
use Rattle.mon_guard.specs.{Reasons.{reason_of}, Views.{AclPart, acl_part, name_part, names_shown}, Owning.{owner_denial}}
use Rattle.mon_guard.proofs.{Kept.{keeps, kept_only}, Owners.{is_owner_true, is_owner_false, owns_from, owns_not}}
use Rattle.mon_guard.proofs.Shorthand.{owner_denial_of, records_of, acl_of}
use Rattle.mon_guard.specs.Laws.{IsThere, MaySeeList, MaySeeName, AreForReading, IsForSeeing, DecidedBy, WhyNotRead, WhyNotSeeList, WhyNotOwner, LendsWhereGranted, HiddenSetsLeaveNoTrace, DenialsSayWhy}

-- what the access check lets through, and what it denies
granted_by : {A : Type 0} (acl : List Entry) (d : Decision) (granted other : A) → by_decision acl d granted ≡ Ok other → (d ≡ Granted) × (other ≡ granted)
granted_by {A} acl Granted granted other h = (refl, let same : ◌≡◌ {A = Result A Reason} (Ok granted) (Ok other) = h in cc)
granted_by {A} acl (Denied decider) granted other h =
    absurd (let no : ◌≡◌ {A = Result A Reason} (Err (reason_of acl decider)) (Ok other) = h in cc)

module _ (account : Account) (sets : Sets) (name : List ℕ) where
  module _ (reason : Reason) where
    denied_by : {A : Type 0} (set : DataSet) (request : Perms) (granted : A) (d : Decision) → decision_on account set request ≡ d
        → by_decision set.acl d granted ≡ Err reason → DecidedBy account set request reason
    denied_by {A} set request granted Granted is h = absurd (let no : ◌≡◌ {A = Result A Reason} (Ok granted) (Err reason) = h in cc)
    denied_by {A} set request granted (Denied decider) is h =
        (decider, is, let same : ◌≡◌ {A = Result A Reason} (Err (reason_of set.acl decider)) (Err reason) = h in cc)

    denied_so : {A : Type 0} (set : DataSet) (request : Perms) (granted : A) → DecidedBy account set request reason
        → where_granted account request set granted ≡ Err reason
    denied_so set request granted h = ap (λ d. by_decision set.acl d granted) h.1 ∙ ap Err (sym h.2)

  -- records
  records_from : (records : List (List ℕ)) (o : Option DataSet) → find_set name sets ≡ o → records_of account o ≡ Ok records
      → AreForReading account sets name records
  records_from records None is h = absurd (let no : ◌≡◌ {A = Result (List (List ℕ)) Reason} (Err NoSet) (Ok records) = h in cc)
  records_from records (Some set) is h =
      let read = granted_by set.acl (decision_on account set to_read) set.records records h in
      (set, is, read.0, read.1)

  records_where : (records : List (List ℕ)) → AreForReading account sets name records
      → records_of account (find_set name sets) ≡ Ok records
  records_where records h =
      ap (records_of account) h.1 ∙ ap (λ d. by_decision h.0.acl d h.0.records) h.2 ∙ ap Ok (sym h.3)

  records_denied : (reason : Reason) (o : Option DataSet) → find_set name sets ≡ o → records_of account o ≡ Err reason → WhyNotRead account sets name reason
  records_denied reason None is h = inl (is, let same : ◌≡◌ {A = Result (List (List ℕ)) Reason} (Err NoSet) (Err reason) = h in cc)
  records_denied reason (Some set) is h = inr (set, is, denied_by reason set to_read set.records (decision_on account set to_read) refl h)

  records_denied_so : (reason : Reason) → WhyNotRead account sets name reason → records_of account (find_set name sets) ≡ Err reason
  records_denied_so reason (inl h) = ap (records_of account) h.0 ∙ ap Err (sym h.1)
  records_denied_so reason (inr h) = ap (records_of account) h.1 ∙ denied_so reason h.0 to_read h.0.records h.2

  -- lists
  abbrev list_by : DataSet → Bool → Decision → Result AclPart Reason
  list_by set owner d = if owner then Ok (acl_part set) else by_decision set.acl d (acl_part set)

  seen_by : (set : DataSet) (list : AclPart) (b : Bool) → is_owner account set.owner ≡ b → list_by set b (decision_on account set to_execute) ≡ Ok list
      → MaySeeList account set × (list ≡ acl_part set)
  seen_by set list true owner h = (inl (owns_from account set owner), let same : ◌≡◌ {A = Result AclPart Reason} (Ok (acl_part set)) (Ok list) = h in cc)
  seen_by set list false owner h =
      let seen = granted_by set.acl (decision_on account set to_execute) (acl_part set) list h in
      (inr seen.0, seen.1)

  list_from : (list : AclPart) (o : Option DataSet) → find_set name sets ≡ o → acl_of account o ≡ Ok list
      → IsForSeeing account sets name list
  list_from list None is h = absurd (let no : ◌≡◌ {A = Result AclPart Reason} (Err NoSet) (Ok list) = h in cc)
  list_from list (Some set) is h =
      let seen = seen_by set list (is_owner account set.owner) refl h in
      (set, is, seen.0, seen.1)

  either_way : (set : DataSet) (b : Bool) → list_by set b Granted ≡ Ok (acl_part set)
  either_way set true = refl
  either_way set false = refl

  seen_where : (set : DataSet) → MaySeeList account set → list_by set (is_owner account set.owner) (decision_on account set to_execute) ≡ Ok (acl_part set)
  seen_where set (inl owns) = ap (λ b. list_by set b (decision_on account set to_execute)) (is_owner_true account set owns)
  seen_where set (inr granted) = ap (list_by set (is_owner account set.owner)) granted ∙ either_way set (is_owner account set.owner)

  list_where : (list : AclPart) → IsForSeeing account sets name list
      → acl_of account (find_set name sets) ≡ Ok list
  list_where list h = ap (acl_of account) h.1 ∙ seen_where h.0 h.2 ∙ ap Ok (sym h.3)

  unseen_by : (reason : Reason) (set : DataSet) → IsThere name sets set → (b : Bool) → is_owner account set.owner ≡ b
      → list_by set b (decision_on account set to_execute) ≡ Err reason → WhyNotSeeList account sets name reason
  unseen_by reason set there true owner h = absurd (let no : ◌≡◌ {A = Result AclPart Reason} (Ok (acl_part set)) (Err reason) = h in cc)
  unseen_by reason set there false owner h =
      inr (set, there, owns_not account set owner, denied_by reason set to_execute (acl_part set) (decision_on account set to_execute) refl h)

  list_denied : (reason : Reason) (o : Option DataSet) → find_set name sets ≡ o → acl_of account o ≡ Err reason → WhyNotSeeList account sets name reason
  list_denied reason None is h = inl (is, let same : ◌≡◌ {A = Result AclPart Reason} (Err NoSet) (Err reason) = h in cc)
  list_denied reason (Some set) is h = unseen_by reason set is (is_owner account set.owner) refl h

  list_denied_so : (reason : Reason) → WhyNotSeeList account sets name reason → acl_of account (find_set name sets) ≡ Err reason
  list_denied_so reason (inl h) = ap (acl_of account) h.0 ∙ ap Err (sym h.1)
  list_denied_so reason (inr h) =
      ap (acl_of account) h.1
      ∙ ap (λ b. list_by h.0 b (decision_on account h.0 to_execute)) (is_owner_false account h.0 h.2)
      ∙ denied_so reason h.0 to_execute (acl_part h.0) h.3

  -- what only the owner may do
  owner_by : (reason : Reason) (set : DataSet) → IsThere name sets set → (b : Bool) → is_owner account set.owner ≡ b
      → (if b then None else Some NotOwner) ≡ Some reason → WhyNotOwner account sets name reason
  owner_by reason set there true e h = absurd (let no : None ≡ Some reason = h in cc)
  owner_by reason set there false e h = inr (set, there, owns_not account set e, let same : Some NotOwner ≡ Some reason = h in cc)

  owner_denied : (reason : Reason) (o : Option DataSet) → find_set name sets ≡ o → owner_denial_of account o ≡ Some reason → WhyNotOwner account sets name reason
  owner_denied reason None is h = inl (is, let same : Some NoSet ≡ Some reason = h in cc)
  owner_denied reason (Some set) is h = owner_by reason set is (is_owner account set.owner) refl h

  owner_denied_so : (reason : Reason) → WhyNotOwner account sets name reason → owner_denial account sets name ≡ Some reason
  owner_denied_so reason (inl h) = ap (owner_denial_of account) h.0 ∙ ap Some (sym h.1)
  owner_denied_so reason (inr h) =
      ap (owner_denial_of account) h.1 ∙ ap (λ b. if b then None else Some NotOwner) (is_owner_false account h.0 h.2) ∙ ap Some (sym h.3)

-- names
is_granted_from : (d : Decision) → is_granted d ≡ true → d ≡ Granted
is_granted_from Granted e = refl
is_granted_from (Denied decider) e = absurd (let no : false ≡ true = e in cc)

not_granted : (d : Decision) → (d ≢ Granted) → is_granted d ≡ false
not_granted Granted not = absurd (not refl)
not_granted (Denied decider) not = refl

name_from : (account : Account) (sets : Sets) (named : List ℕ × DataSet) → Contains (names_shown account sets) named
    → Contains sets named × MaySeeName account named.1
name_from account sets named has =
    let kept = kept_only (may_be_shown account) sets named has in
    (kept.0, is_granted_from (decision_on account named.1 to_execute) kept.1)

name_where : (account : Account) (sets : Sets) (named : List ℕ × DataSet) → Contains sets named × MaySeeName account named.1
    → Contains (names_shown account sets) named
name_where account sets named h = keeps (may_be_shown account) sets named (h.0, ap is_granted h.1)

pub lends_where_granted : LendsWhereGranted
lends_where_granted account sets name = record {
  records = λ records. (records_from account sets name records (find_set name sets) refl, records_where account sets name records);
  list = λ list. (list_from account sets name list (find_set name sets) refl, list_where account sets name list);
  names = λ named. (name_from account sets named, name_where account sets named);
}

pub hidden_sets_leave_no_trace : HiddenSetsLeaveNoTrace
hidden_sets_leave_no_trace account before after hidden not =
    ap (map name_part) (
    filter-append (may_be_shown account) before (hidden ∷ after)
    ∙ ap (λ shown. names_shown account before ++ shown) not_shown
    ∙ sym (filter-append (may_be_shown account) before after)
    )
  where
    not_shown : names_shown account (hidden ∷ after) ≡ names_shown account after
    not_shown =
        ap (λ b. cond b (hidden ∷ names_shown account after) (names_shown account after)) (not_granted (decision_on account hidden.1 to_execute) not)

pub denials_say_why : DenialsSayWhy
denials_say_why account sets name reason = record {
  records = (records_denied account sets name reason (find_set name sets) refl, records_denied_so account sets name reason);
  list = (list_denied account sets name reason (find_set name sets) refl, list_denied_so account sets name reason);
  owner = (owner_denied account sets name reason (find_set name sets) refl, owner_denied_so account sets name reason);
}
