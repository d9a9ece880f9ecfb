-- A command of an account, over data sets that look alike to it.
use Rattle.std.proofs.Common.{◌≡◌, ◌≢◌, ℕ, nat_eq, nat_le, Bool, true, false, cond, List, [], ◌∷◌, ◌++◌, length, Option, Some, None, Result, Ok, Err, option_map, refl, ap, sym, ◌∙◌, subst, inl, inr, ◌⊎◌, ◌||◌, if◌then◌else◌, is_some, map}
use Rattle.mon_monitor.proofs.Common.{list_any, IsDistinct, AllByRecursion, keys_of, pointwise, nat_list_eq_equiv, bytes_decides, IsDistinct-head, IsDistinct-tail, IsDistinct-cons, IsDistinct-push, bytes_eq-Decides, Perms, AclError, list_of_text, Account, Decision, find_account, is_owner, Mode, DataSet, CreateError, NameTaken, CatalogueFull, Sets, find_set, NamesDiffer, create_refusal, without_set, with_acl, other_sets_stay, named_set_changes, order_stays, Reason, NoSet, NotOwner, decision_on, is_granted, where_granted, may_be_shown, by_decision, acl_set_unless, AclPart, NamePart, acl_part, name_part, names_shown, names_lent, new_set, Command, Create, Delete, SetAcl, ShowAcl, Catalog, account_of, Records, Shown, Names, Served, told_by, creation_reply, removal_reply, acl_reply, shown_as, answered, printed, Same, LooksAlike, Both, CommandsAgree, listed, owner_denial_of, removed_unless, created_unless, records_of, acl_of, served_if_known, to_read, to_execute, given, Told, served}
use Rattle.mon_acl.specs.declared.entries.Entry.{Entry}
use Rattle.mon_access.specs.declared.access.Decision.TheVariants as decision
use Rattle.deck_lines.specs.declared.command.Command.TheVariants.{List as Listing}
use Rattle.mon_command.specs.Commanded.{Answer}
use Rattle.mon_monitor.proofs.Finding.{BothFound, found_both, both_changed, both_length, both_append, both_without, both_keys}
use Rattle.mon_monitor.proofs.Requests.{like_itself, decided_alike, ties_stay}

-- what a command is answered, and what it leaves
record StillAlike (account : Account) (sets others : Sets) (s t : Served) : Type 0 where
  pub answer : s.answer ≡ t.answer
  pub names : NamesDiffer s.sets
  pub alike : Both (LooksAlike account) s.sets t.sets
  pub same : (n : List ℕ) → Same n sets others → Same n s.sets t.sets

find_append : (n m : List ℕ) (d : DataSet) (sets : Sets) → find_set n (sets ++ (m, d) ∷ []) ≡ (if is_some (find_set n sets) then find_set n sets else find_set n ((m, d) ∷ []))
find_append n m d [] = refl
find_append n m d (e ∷ sets) = by (pointwise nat_eq n e.0) (find_append n m d sets)
  where
    by : (t : Bool) → find_set n (sets ++ (m, d) ∷ []) ≡ (if is_some (find_set n sets) then find_set n sets else find_set n ((m, d) ∷ []))
        → cond t (Some e.1) (find_set n (sets ++ (m, d) ∷ []))
        ≡ (if is_some (cond t (Some e.1) (find_set n sets)) then cond t (Some e.1) (find_set n sets) else find_set n ((m, d) ∷ []))
    by true rest = refl
    by false rest = rest

same_append : (n m : List ℕ) (d : DataSet) (sets others : Sets) → Same n sets others → Same n (sets ++ (m, d) ∷ []) (others ++ (m, d) ∷ [])
same_append n m d sets others h =
    find_append n m d sets ∙ ap (λ (o : Option DataSet). if is_some o then o else find_set n ((m, d) ∷ [])) h ∙ sym (find_append n m d others)

any_of_none : (n : List ℕ) (sets : Sets) → is_some (find_set n sets) ≡ false → list_any (pointwise nat_eq n) (keys_of sets) ≡ false
any_of_none n [] h = refl
any_of_none n (e ∷ sets) h = by (pointwise nat_eq n e.0) h (any_of_none n sets)
  where
    by : (t : Bool) → is_some (cond t (Some e.1) (find_set n sets)) ≡ false → (is_some (find_set n sets) ≡ false → list_any (pointwise nat_eq n) (keys_of sets) ≡ false)
        → (t || list_any (pointwise nat_eq n) (keys_of sets)) ≡ false
    by true h rest = absurd cc
    by false h rest = rest h

keys_append : (n : List ℕ) (d : DataSet) (sets : Sets) → keys_of sets ++ n ∷ [] ≡ keys_of (sets ++ (n, d) ∷ [])
keys_append n d [] = refl
keys_append n d (e ∷ sets) = ap (λ (l : List (List ℕ)). e.0 ∷ l) (keys_append n d sets)

names_append : (n : List ℕ) (d : DataSet) (sets : Sets) → is_some (find_set n sets) ≡ false → NamesDiffer sets → NamesDiffer (sets ++ (n, d) ∷ [])
names_append n d sets none differ =
    subst (IsDistinct (pointwise nat_eq)) (keys_append n d sets) (IsDistinct-push nat_list_eq_equiv (keys_of sets) n differ (any_of_none n sets none))

all_without : (P : List ℕ → Type 0) (n : List ℕ) (sets : Sets) → AllByRecursion P (keys_of sets) → AllByRecursion P (keys_of (without_set n sets))
all_without P n [] h = tt
all_without P n (e ∷ sets) h = by (pointwise nat_eq n e.0) (all_without P n sets h.1)
  where
    by : (t : Bool) → AllByRecursion P (keys_of (without_set n sets)) → AllByRecursion P (keys_of (cond t sets (e ∷ without_set n sets)))
    by true rest = h.1
    by false rest = (h.0, rest)

names_without : (n : List ℕ) (sets : Sets) → NamesDiffer sets → NamesDiffer (without_set n sets)
names_without n [] h = h
names_without n (e ∷ sets) h = by (pointwise nat_eq n e.0) (names_without n sets (IsDistinct-tail (pointwise nat_eq) e.0 (keys_of sets) h))
  where
    by : (t : Bool) → NamesDiffer (without_set n sets) → NamesDiffer (cond t sets (e ∷ without_set n sets))
    by true rest = IsDistinct-tail (pointwise nat_eq) e.0 (keys_of sets) h
    by false rest = IsDistinct-cons (pointwise nat_eq) e.0 (keys_of (without_set n sets))
        (all_without (λ y. pointwise nat_eq e.0 y ≡ false) n sets (IsDistinct-head (pointwise nat_eq) e.0 (keys_of sets) h)) rest

tell : (n m : List ℕ) → (n ≡ m) ⊎ (n ≢ m)
tell n m = by (pointwise nat_eq n m) refl
  where
    by : (b : Bool) → pointwise nat_eq n m ≡ b → (n ≡ m) ⊎ (n ≢ m)
    by true e = inl ((bytes_decides n m).0 e)
    by false e = inr (λ q. (let no : false ≡ true = sym e ∙ (bytes_decides n m).1 q in absurd cc))

module _ (account : Account) where
  -- what is lent is lent alike
  lent_alike : {A : Type 0} (request : Perms) (d e : DataSet) → LooksAlike account d e → (x y : A) → (is_granted (decision_on account d request) ≡ true → x ≡ y)
      → where_granted account request d x ≡ where_granted account request e y
  lent_alike {A} request d e l x y same =
      by (decision_on account d request) refl
      ∙ ap (λ (acl : List Entry). by_decision acl (decision_on account d request) y) l.acl
      ∙ ap (λ (k : Decision). by_decision e.acl k y) (decided_alike account d e l request)
    where
      by : (k : Decision) → decision_on account d request ≡ k → by_decision d.acl k x ≡ by_decision d.acl k y
      by decision.Granted is = ap (λ (z : A). Ok z) (same (ap is_granted is))
      by (decision.Denied r) is = refl

  part_alike : (d e : DataSet) → LooksAlike account d e → acl_part d ≡ acl_part e
  part_alike d e l =
      ap (λ (o : List ℕ). let x : AclPart = record { owner = o; group = d.group; acl = d.acl } in x) l.owner
      ∙ ap (λ (g : List ℕ). let x : AclPart = record { owner = e.owner; group = g; acl = d.acl } in x) l.group
      ∙ ap (λ (acl : List Entry). let x : AclPart = record { owner = e.owner; group = e.group; acl = acl } in x) l.acl

  records_alike : (o k : Option DataSet) → BothFound (LooksAlike account) o k → records_of account o ≡ records_of account k
  records_alike None None h = refl
  records_alike None (Some e) h = absurd h
  records_alike (Some d) None h = absurd h
  records_alike (Some d) (Some e) h = lent_alike to_read d e h d.records e.records h.read

  acl_alike : (o k : Option DataSet) → BothFound (LooksAlike account) o k → acl_of account o ≡ acl_of account k
  acl_alike None None h = refl
  acl_alike None (Some e) h = absurd h
  acl_alike (Some d) None h = absurd h
  acl_alike (Some d) (Some e) h =
      ap (λ (o : List ℕ). if is_owner account o then Ok (acl_part d) else where_granted account to_execute d (acl_part d)) h.owner
      ∙ ap (λ (r : Result AclPart Reason). if is_owner account e.owner then Ok (acl_part d) else r) (lent_alike to_execute d e h (acl_part d) (acl_part e) (λ g. part_alike d e h))
      ∙ ap (λ (p : AclPart). if is_owner account e.owner then Ok p else where_granted account to_execute e (acl_part e)) (part_alike d e h)

  -- the names that are shown
  name_alike : (a b : List ℕ × DataSet) → a.0 ≡ b.0 → LooksAlike account a.1 b.1 → may_be_shown account a ≡ true → name_part a ≡ name_part b
  name_alike a b name l shown =
      ap (λ (n : List ℕ). let x : NamePart = record { name = n; owner = a.1.owner; group = a.1.group; records = length a.1.records } in x) name
      ∙ ap (λ (o : List ℕ). let x : NamePart = record { name = b.0; owner = o; group = a.1.group; records = length a.1.records } in x) l.owner
      ∙ ap (λ (g : List ℕ). let x : NamePart = record { name = b.0; owner = b.1.owner; group = g; records = length a.1.records } in x) l.group
      ∙ ap (λ (n : ℕ). let x : NamePart = record { name = b.0; owner = b.1.owner; group = b.1.group; records = n } in x) (l.counted shown)

  shown_alike : (a b : List ℕ × DataSet) → LooksAlike account a.1 b.1 → may_be_shown account a ≡ may_be_shown account b
  shown_alike a b l = ap is_granted (decided_alike account a.1 b.1 l to_execute)

  names_alike : (sets others : Sets) → Both (LooksAlike account) sets others → names_lent account sets ≡ names_lent account others
  names_alike [] [] h = refl
  names_alike [] (b ∷ others) h = absurd h
  names_alike (a ∷ sets) [] h = absurd h
  names_alike (a ∷ sets) (b ∷ others) h =
      by (may_be_shown account a) refl (names_alike sets others h.2)
      ∙ ap (λ (t : Bool). map name_part (cond t (b ∷ names_shown account others) (names_shown account others))) (shown_alike a b h.1)
    where
      by : (t : Bool) → may_be_shown account a ≡ t → names_lent account sets ≡ names_lent account others
          → map name_part (cond t (a ∷ names_shown account sets) (names_shown account sets)) ≡ map name_part (cond t (b ∷ names_shown account others) (names_shown account others))
      by true e rest = ap (λ (p : NamePart). p ∷ names_lent account sets) (name_alike a b h.0 h.1 e) ∙ ap (λ (l : List NamePart). name_part b ∷ l) rest
      by false e rest = rest

  module _ (sets others : Sets) (alike : Both (LooksAlike account) sets others) (differ : NamesDiffer sets) where
    differ_too : NamesDiffer others
    differ_too = subst (IsDistinct (pointwise nat_eq)) (both_keys (LooksAlike account) sets others alike) differ

    found : (n : List ℕ) → BothFound (LooksAlike account) (find_set n sets) (find_set n others)
    found n = found_both (LooksAlike account) n sets others alike

    same_without : (n m : List ℕ) → Same n sets others → Same n (without_set m sets) (without_set m others)
    same_without n m h = elim (tell n m) [
      | inl q ↦ subst (λ (k : List ℕ). Same k (without_set m sets) (without_set m others)) (sym q)
          ((named_set_changes m sets (λ d. d)).0 differ ∙ sym ((named_set_changes m others (λ d. d)).0 differ_too))
      | inr q ↦ (other_sets_stay m n sets (λ d. d) q).0 ∙ h ∙ sym (other_sets_stay m n others (λ d. d) q).0
    ]

    same_with : (acl : List Entry) (n m : List ℕ) → Same n sets others → Same n (with_acl m acl sets) (with_acl m acl others)
    same_with acl n m h = elim (tell n m) [
      | inl q ↦ subst (λ (k : List ℕ). Same k (with_acl m acl sets) (with_acl m acl others)) (sym q)
          ((named_set_changes m sets (listed acl)).1 ∙ ap (option_map (listed acl)) (subst (λ (k : List ℕ). Same k sets others) q h)
          ∙ sym (named_set_changes m others (listed acl)).1)
      | inr q ↦ (other_sets_stay m n sets (listed acl) q).1 ∙ h ∙ sym (other_sets_stay m n others (listed acl) q).1
    ]

    only_told : (p q : Answer) → p ≡ q → StillAlike account sets others (record { answer = p; sets = sets }) (record { answer = q; sets = others })
    only_told p q e = record { answer = e; names = differ; alike = alike; same = λ n h. h }

    found_some : (o k : Option DataSet) → BothFound (LooksAlike account) o k → is_some o ≡ is_some k
    found_some None None h = refl
    found_some None (Some e) h = absurd h
    found_some (Some d) None h = absurd h
    found_some (Some d) (Some e) h = refl

    abbrev refusal_by : Bool → Bool → Option CreateError
    refusal_by taken full = if taken then Some NameTaken else if full then Some CatalogueFull else None

    create : (n : List ℕ) (mode : Mode) (taken full : Bool) → is_some (find_set n sets) ≡ taken
        → StillAlike account sets others (told_by creation_reply (created_unless (refusal_by taken full) account sets n mode)) (told_by creation_reply (created_unless (refusal_by taken full) account others n mode))
    create n mode true full e = only_told (Told (creation_reply (Err NameTaken))) (Told (creation_reply (Err NameTaken))) refl
    create n mode false true e = only_told (Told (creation_reply (Err CatalogueFull))) (Told (creation_reply (Err CatalogueFull))) refl
    create n mode false false e = record {
      answer = refl;
      names = names_append n (new_set account mode) sets e differ;
      alike = both_append (LooksAlike account) n (new_set account mode) (like_itself account (new_set account mode)) sets others alike;
      same = λ m h. same_append m n (new_set account mode) sets others h;
    }

    refused_alike : (n : List ℕ) → create_refusal n sets ≡ create_refusal n others
    refused_alike n =
        ap (λ (t : Bool). refusal_by t (nat_le 1000 (length sets))) (found_some (find_set n sets) (find_set n others) (found n))
        ∙ ap (λ (k : ℕ). refusal_by (is_some (find_set n others)) (nat_le 1000 k)) (both_length (LooksAlike account) sets others alike)

    creates : (n : List ℕ) (mode : Mode)
        → StillAlike account sets others (served account (Create account.name n mode) sets) (served account (Create account.name n mode) others)
    creates n mode =
        subst (λ (r : Option CreateError). StillAlike account sets others (told_by creation_reply (created_unless (create_refusal n sets) account sets n mode))
        (told_by creation_reply (created_unless r account others n mode))) (refused_alike n)
        (create n mode (is_some (find_set n sets)) (nat_le 1000 (length sets)) refl)

    -- what only the owner may do
    owned : (o k : Option DataSet) → BothFound (LooksAlike account) o k → (act : Option Reason → Sets → Served)
        → ((reason : Reason) → StillAlike account sets others (act (Some reason) sets) (act (Some reason) others))
        → ((d e : DataSet) → o ≡ Some d → k ≡ Some e → account.name ≡ d.owner → StillAlike account sets others (act None sets) (act None others))
        → StillAlike account sets others (act (owner_denial_of account o) sets) (act (owner_denial_of account k) others)
    owned None None h act denied each = denied NoSet
    owned None (Some e) h act denied each = absurd h
    owned (Some d) None h act denied each = absurd h
    owned (Some d) (Some e) h act denied each =
        subst (λ (k : List ℕ). StillAlike account sets others (act (owner_denial_of account (Some d)) sets)
        (act (if is_owner account k then None else Some NotOwner) others)) h.owner (by (is_owner account d.owner) refl)
      where
        by : (t : Bool) → is_owner account d.owner ≡ t
            → StillAlike account sets others (act (if t then None else Some NotOwner) sets) (act (if t then None else Some NotOwner) others)
        by true is = each d e refl refl ((bytes_eq-Decides account.name d.owner).0 is)
        by false is = denied NotOwner

    listed_alike : (acl : List Entry) (d e : DataSet) → account.name ≡ d.owner → LooksAlike account d e → LooksAlike account (listed acl d) (listed acl e)
    listed_alike acl d e own l =
        let same = l.owned own in
        record {
          owner = l.owner;
          group = l.group;
          mode = l.mode;
          acl = refl;
          owned = λ _. same;
          read = λ _. same;
          counted = λ _. ap length same;
          added = λ _ _. ap length same;
        }

    give : (n : List ℕ) → ((d e : DataSet) → find_set n sets ≡ Some d → find_set n others ≡ Some e → account.name ≡ d.owner) → (r : Result (List Entry) AclError)
        → StillAlike account sets others (told_by acl_reply (given r sets n)) (told_by acl_reply (given r others n))
    give n own (Ok acl) = record {
      answer = refl;
      names = subst (IsDistinct (pointwise nat_eq)) (sym (order_stays n sets (listed acl)).1) differ;
      alike = both_changed (LooksAlike account) (listed acl) n sets others (λ d e is is' l. listed_alike acl d e (own d e is is') l) alike;
      same = λ m h. same_with acl m n h;
    }
    give n own (Err e) = only_told (Told (acl_reply (given (Err e) sets n).0)) (Told (acl_reply (given (Err e) others n).0)) refl

    serves : (command : Command) → StillAlike account sets others (served account command sets) (served account command others)
    serves (Create _ n mode) = creates n mode
    serves (Delete _ n) =
        owned (find_set n sets) (find_set n others) (found n) (λ r s. told_by removal_reply (removed_unless r s n))
        (λ reason. only_told (Told (removal_reply (Err reason))) (Told (removal_reply (Err reason))) refl)
        (λ d e is is' own. record {
          answer = refl;
          names = names_without n sets differ;
          alike = both_without (LooksAlike account) n sets others alike;
          same = λ m h. same_without m n h;
        })
    serves (SetAcl _ n text) =
        owned (find_set n sets) (find_set n others) (found n) (λ r s. told_by acl_reply (acl_set_unless r s n text))
        (λ reason. only_told (Told (acl_reply (acl_set_unless (Some reason) sets n text).0)) (Told (acl_reply (acl_set_unless (Some reason) others n text).0)) refl)
        (λ d e is is' own. give n (λ x y xs ys. (let one : d ≡ x = cc (is, xs) in own ∙ ap (λ (z : DataSet). z.owner) one)) (list_of_text text))
    serves (ShowAcl _ n) = only_told _ _ (ap (shown_as Shown) (acl_alike (find_set n sets) (find_set n others) (found n)))
    serves (Listing _ n) = only_told _ _ (ap (shown_as Records) (records_alike (find_set n sets) (find_set n others) (found n)))
    serves (Catalog _) = only_told _ _ (ap (λ (l : List NamePart). Names l) (names_alike sets others alike))

pub commands_agree : CommandsAgree
commands_agree account w v agree command own =
    let known : find_account w.accounts (account_of command) ≡ Some account = ap (find_account w.accounts) own ∙ agree.known in
    let known' : find_account v.accounts (account_of command) ≡ Some account = ap (λ (l : List Account). find_account l (account_of command)) (sym agree.accounts) ∙ known in
    let one : StillAlike account w.scheduler.sets v.scheduler.sets (answered w.accounts w.scheduler.sets command) (answered v.accounts v.scheduler.sets command) =
    subst (λ (o : Option Account). StillAlike account w.scheduler.sets v.scheduler.sets (served_if_known o command w.scheduler.sets) (answered v.accounts v.scheduler.sets command)) (sym known)
    (subst (λ (o : Option Account). StillAlike account w.scheduler.sets v.scheduler.sets (served account command w.scheduler.sets) (served_if_known o command v.scheduler.sets)) (sym known')
    (serves account w.scheduler.sets v.scheduler.sets agree.scheduler.sets agree.scheduler.names command)) in
    record {
      printout = ap (printed command) one.answer;
      after = record {
        accounts = agree.accounts;
        known = agree.known;
        scheduler = record {
          slots = agree.scheduler.slots;
          own = agree.scheduler.own;
          names = one.names;
          sets = one.alike;
          ties = λ s slot is. ties_stay w.scheduler.sets v.scheduler.sets (answered w.accounts w.scheduler.sets command).sets (answered v.accounts v.scheduler.sets command).sets slot.units
              one.same (agree.scheduler.ties s slot is);
        };
      };
    }
