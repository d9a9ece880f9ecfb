-- One command and one request over all data sets, and over those alone whose names pass.
use Rattle.std.proofs.Common.{◌≡◌, ℕ, ◌+◌, ◌<◌, ◌≤◌, nat_eq, Bool, true, not, List, [], ◌∷◌, ◌++◌, length, Option, Some, None, Result, Ok, Err, refl, sym, ap, ◌∙◌, subst, arith, slice_get}
use Rattle.std.specs.{Prelude.{if◌then◌else◌}, Cmp.Lexicographic.{pointwise, bytes_decides}}
use Rattle.mon_acl.specs.declared.entries.Entry.{Entry}
use Rattle.deck_lines.specs.declared.command.Command.TheVariants.{List as Listing}
use Rattle.mon_command.specs.Commanded.{Answer}
use Rattle.mon_catalogue.specs.Changes.{with_changed}
use Rattle.mon_monitor.proofs.Common.{Account, find_account, AclError, AclText, list_of_text, Mode, DataSet, CreateError, Change, recorded, Sets, find_set, create_refusal, without_set, listed, Reason, new_set, owner_denial_of, removed_unless, created_unless, acl_set_unless, given, records_of, acl_of, names_lent, Command, Create, Delete, SetAcl, ShowAcl, Catalog, account_of, Served, Shown, Records, Names, told_by, creation_reply, removal_reply, acl_reply, shown_as, served, answered, served_if_known, Request, Reach, serve, set_of, UnitState, TiedTo, Target, Set, targets_stay, looks_at_tied, looked, Effect, effect, changed_at}
use Rattle.frame_laws.specs.Naming.{of_names, command_names, command_makes}
use Rattle.frame_laws.proofs.Filtering.{found, changed_own, removed_own, added_own, refusal_own, changed_others, removed_others, added_others, changed_length, removed_length, added_length, fewer}

-- All data sets, and those of them whose names pass; the others are still these; and there are so many at most.
pub record Beside (p : List ℕ → Bool) (rest : Sets) (n : ℕ) (sets alone : Sets) : Type 0 where
  pub own : alone ≡ of_names p sets
  pub others : of_names (λ name. not (p name)) sets ≡ rest
  pub few : length sets ≤ n

module _ (p : List ℕ → Bool) (rest : Sets) (n : ℕ) where
  changed_beside : (name : List ℕ) → p name ≡ true → (f : DataSet → DataSet) (sets alone : Sets) → Beside p rest n sets alone
      → Beside p rest n (with_changed name f sets) (with_changed name f alone)
  changed_beside name ours f sets alone h = record {
    own = ap (with_changed name f) h.own ∙ changed_own p name ours f sets;
    others = changed_others (λ name. not (p name)) name (ap not ours) f sets ∙ h.others;
    few = (let k = changed_length name f sets in let few = h.few in omega (arith, k, few));
  }

  removed_beside : (name : List ℕ) → p name ≡ true → (sets alone : Sets) → Beside p rest n sets alone → Beside p rest n (without_set name sets) (without_set name alone)
  removed_beside name ours sets alone h = record {
    own = ap (without_set name) h.own ∙ removed_own p name ours sets;
    others = removed_others (λ name. not (p name)) name (ap not ours) sets ∙ h.others;
    few = (let k = removed_length name sets in let few = h.few in omega (arith, k, few));
  }

  added_beside : (name : List ℕ) → p name ≡ true → (d : DataSet) (sets alone : Sets) → Beside p rest n sets alone
      → Beside p rest (n + 1) (sets ++ (name, d) ∷ []) (alone ++ (name, d) ∷ [])
  added_beside name ours d sets alone h = record {
    own = ap (λ (l : Sets). l ++ (name, d) ∷ []) h.own ∙ added_own p name ours d sets;
    others = added_others (λ name. not (p name)) name (ap not ours) d sets ∙ h.others;
    few = (let k = added_length (name, d) sets in let few = h.few in omega (arith, k, few));
  }

  found_beside : (name : List ℕ) → p name ≡ true → (sets alone : Sets) → Beside p rest n sets alone → find_set name alone ≡ find_set name sets
  found_beside name ours sets alone h = ap (find_set name) h.own ∙ found p name ours sets

-- there may be more
pub with_room : (p : List ℕ → Bool) (rest : Sets) (n k : ℕ) (sets alone : Sets) → n ≤ k → Beside p rest n sets alone → Beside p rest k sets alone
with_room p rest n k sets alone less h = record { own = h.own; others = h.others; few = (let few = h.few in omega (arith, few, less)) }

-- A COMMAND

pub record AnsweredBeside (p : List ℕ → Bool) (rest : Sets) (n : ℕ) (whole alone : Served) : Type 0 where
  pub answer : whole.answer ≡ alone.answer
  pub sets : Beside p rest n whole.sets alone.sets

all_pass : (p : List ℕ → Bool) → ((name : List ℕ) → p name ≡ true) → (sets : Sets) → of_names p sets ≡ sets
all_pass p every [] = refl
all_pass p every (named ∷ sets) =
    ap (λ (c : Bool). if c then named ∷ of_names p sets else of_names p sets) (every named.0) ∙ ap (λ (l : Sets). named ∷ l) (all_pass p every sets)

module _ (p : List ℕ → Bool) (rest : Sets) (n : ℕ) (account : Account) (sets alone : Sets) (h : Beside p rest n sets alone) where
  only_told : (answer other : Answer) → answer ≡ other → AnsweredBeside p rest n (record { answer = answer; sets = sets }) (record { answer = other; sets = alone })
  only_told answer other same = record { answer = same; sets = h }

  creates : (name : List ℕ) (mode : Mode) → p name ≡ true → n + 1 ≤ 1000
      → AnsweredBeside p rest (n + 1) (told_by creation_reply (created_unless (create_refusal name sets) account sets name mode))
      (told_by creation_reply (created_unless (create_refusal name alone) account alone name mode))
  creates name mode ours room =
      let few = h.few in
      let less : length sets < 1000 = omega (arith, few, room) in
      let same : create_refusal name alone ≡ create_refusal name sets =
      ap (create_refusal name) h.own ∙ refusal_own p name ours sets less (fewer (λ (named : List ℕ × DataSet). p named.0) sets) in
      subst (λ (r : Option CreateError). AnsweredBeside p rest (n + 1) (told_by creation_reply (created_unless (create_refusal name sets) account sets name mode))
      (told_by creation_reply (created_unless r account alone name mode))) (sym same) (by (create_refusal name sets))
    where
      by : (r : Option CreateError) → AnsweredBeside p rest (n + 1) (told_by creation_reply (created_unless r account sets name mode))
          (told_by creation_reply (created_unless r account alone name mode))
      by (Some refusal) = record { answer = refl; sets = with_room p rest n (n + 1) sets alone (omega arith) h }
      by None = record { answer = refl; sets = added_beside p rest n name ours (new_set account mode) sets alone h }

  removes : (name : List ℕ) → p name ≡ true → (o : Option Reason)
      → AnsweredBeside p rest n (told_by removal_reply (removed_unless o sets name)) (told_by removal_reply (removed_unless o alone name))
  removes name ours (Some reason) = record { answer = refl; sets = h }
  removes name ours None = record { answer = refl; sets = removed_beside p rest n name ours sets alone h }

  gives : (name : List ℕ) → p name ≡ true → (text : Result (List Entry) AclError)
      → AnsweredBeside p rest n (told_by acl_reply (given text sets name)) (told_by acl_reply (given text alone name))
  gives name ours (Ok list) = record { answer = refl; sets = changed_beside p rest n name ours (listed list) sets alone h }
  gives name ours (Err error) = record { answer = refl; sets = h }

  sets_list : (name : List ℕ) (text : AclText) → p name ≡ true → (o : Option Reason)
      → AnsweredBeside p rest n (told_by acl_reply (acl_set_unless o sets name text)) (told_by acl_reply (acl_set_unless o alone name text))
  sets_list name text ours (Some reason) = record { answer = refl; sets = h }
  sets_list name text ours None = gives name ours (list_of_text text)

-- nothing is made
none_made : (p : List ℕ → Bool) (rest : Sets) (n : ℕ) (whole alone : Served) → AnsweredBeside p rest n whole alone → AnsweredBeside p rest (n + 0) whole alone
none_made p rest n whole alone h = record { answer = h.answer; sets = with_room p rest n (n + 0) whole.sets alone.sets (omega arith) h.sets }

itself : (name : List ℕ) → pointwise nat_eq name name ≡ true
itself name = (bytes_decides name name).1 refl

module _ (p : List ℕ → Bool) (rest : Sets) where
  served_beside : (account : Account) (command : Command) (n : ℕ) (sets alone : Sets) → ((name : List ℕ) → command_names command name ≡ true → p name ≡ true)
      → n + command_makes command ≤ 1000 → Beside p rest n sets alone
      → AnsweredBeside p rest (n + command_makes command) (served account command sets) (served account command alone)
  served_beside account (Create _ name mode) n sets alone covers room h = creates p rest n account sets alone h name mode (covers name (itself name)) room
  served_beside account (Delete _ name) n sets alone covers room h =
      let ours = covers name (itself name) in
      none_made p rest n _ _
      (subst (λ (o : Option DataSet). AnsweredBeside p rest n (served account (Delete account.name name) sets) (told_by removal_reply (removed_unless (owner_denial_of account o) alone name)))
      (sym (found_beside p rest n name ours sets alone h)) (removes p rest n account sets alone h name ours (owner_denial_of account (find_set name sets))))
  served_beside account (SetAcl _ name text) n sets alone covers room h =
      let ours = covers name (itself name) in
      none_made p rest n _ _
      (subst (λ (o : Option DataSet). AnsweredBeside p rest n (served account (SetAcl account.name name text) sets) (told_by acl_reply (acl_set_unless (owner_denial_of account o) alone name text)))
      (sym (found_beside p rest n name ours sets alone h)) (sets_list p rest n account sets alone h name text ours (owner_denial_of account (find_set name sets))))
  served_beside account (ShowAcl _ name) n sets alone covers room h =
      none_made p rest n _ _ (only_told p rest n account sets alone h _ _ (ap (λ (o : Option DataSet). shown_as Shown (acl_of account o)) (sym (found_beside p rest n name (covers name (itself name)) sets alone h))))
  served_beside account (Listing _ name) n sets alone covers room h =
      none_made p rest n _ _ (only_told p rest n account sets alone h _ _ (ap (λ (o : Option DataSet). shown_as Records (records_of account o)) (sym (found_beside p rest n name (covers name (itself name)) sets alone h))))
  served_beside account (Catalog _) n sets alone covers room h =
      none_made p rest n _ _ (only_told p rest n account sets alone h _ _ (ap (λ (l : Sets). Names (names_lent account l)) (sym (h.own ∙ all_pass p (λ name. covers name refl) sets))))

  pub answered_beside : (accounts : List Account) (command : Command) (n : ℕ) (sets alone : Sets) → ((name : List ℕ) → command_names command name ≡ true → p name ≡ true)
      → n + command_makes command ≤ 1000 → Beside p rest n sets alone
      → AnsweredBeside p rest (n + command_makes command) (answered accounts sets command) (answered accounts alone command)
  answered_beside accounts command n sets alone covers room h = by (find_account accounts (account_of command))
    where
      by : (o : Option Account) → AnsweredBeside p rest (n + command_makes command) (served_if_known o command sets) (served_if_known o command alone)
      by None = record { answer = refl; sets = with_room p rest n (n + command_makes command) sets alone (omega arith) h }
      by (Some account) = served_beside account command n sets alone covers room h

-- A REQUEST

-- all that units are tied to passes
abbrev pub Passes : (List ℕ → Bool) → UnitState → Type 0
Passes p units = (name : List ℕ) → TiedTo units name → p name ≡ true

-- what the requests of one job reach
pub record ReachesStand (p : List ℕ → Bool) (rest : Sets) (n : ℕ) (whole alone : Reach) : Type 0 where
  pub units : whole.units ≡ alone.units
  pub sets : Beside p rest n whole.sets alone.sets
  pub tied : Passes p whole.units

module _ (p : List ℕ → Bool) (rest : Sets) (n : ℕ) (account : Account) where
  module _ (units : UnitState) (q : Request) (sets alone : Sets) (tied : Passes p units) (h : Beside p rest n sets alone) where
    passes : (k : List ℕ) → set_of units q ≡ Some k → p k ≡ true
    passes k e = tied k (looks_at_tied units q k e)

    looks : (o : Option (List ℕ)) → ((k : List ℕ) → o ≡ Some k → p k ≡ true) → looked o sets ≡ looked o alone
    looks None ours = refl
    looks (Some k) ours = sym (found_beside p rest n k (ours k refl) sets alone h)

    changes : (o : Option (List ℕ)) → ((k : List ℕ) → o ≡ Some k → p k ≡ true) → (change : Option Change) → Beside p rest n (changed_at o change sets) (changed_at o change alone)
    changes None ours change = h
    changes (Some k) ours None = h
    changes (Some k) ours (Some change) = changed_beside p rest n k (ours k refl) (recorded change) sets alone h

    abbrev here : Effect
    here = effect account units q (looked (set_of units q) sets)

    same : here ≡ effect account units q (looked (set_of units q) alone)
    same = ap (effect account units q) (looks (set_of units q) passes)

    abbrev after : Reach
    after = (serve account (record { sets = sets; units = units }) q).1

    abbrev after_alone : Reach
    after_alone = (serve account (record { sets = alone; units = units }) q).1

    stand : ReachesStand p rest n after after_alone
    stand = record {
      units = ap (λ (x : Effect). x.units) same;
      sets = subst (λ (x : Effect). Beside p rest n after.sets (changed_at (set_of units q) x.change alone)) same (changes (set_of units q) passes here.change);
      tied = λ name ties. tied name (subst (λ (l : List Target). (u : ℕ) × (slice_get l u ≡ Some (Set name))) (targets_stay account (record { sets = sets; units = units }) q) ties);
    }

  pub each : (w v : Reach) (q : Request) → ReachesStand p rest n w v
      → ((serve account w q).0 ≡ (serve account v q).0) × ReachesStand p rest n (serve account w q).1 (serve account v q).1
  each w v q h =
      subst (λ (u : UnitState). ((serve account w q).0 ≡ (serve account (record { sets = v.sets; units = u }) q).0)
      × ReachesStand p rest n (serve account w q).1 (serve account (record { sets = v.sets; units = u }) q).1) h.units
      (ap (λ (x : Effect). x.answer) (same w.units q w.sets v.sets h.tied h.sets), stand w.units q w.sets v.sets h.tied h.sets)
