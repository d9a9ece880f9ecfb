-- Which data sets there are, and whose, follows from the commands alone.
use Rattle.std.proofs.Common.{◌≡◌, ℕ, nat_eq, nat_le, Bool, true, false, List, [], ◌∷◌, ◌++◌, length, Option, Some, None, Result, Ok, Err, option_map, refl, sym, ap, ◌∙◌, inl, inr, drop, is_some, replicate}
use Rattle.std.specs.{Prelude.{if◌then◌else◌}, Option.{option_map_or}, Map.{lookup, remove_entry}, Cmp.Lexicographic.{pointwise}}
use Rattle.std.proofs.lemmas.{List.{length-map, map-append}, Map.Made.{lookup-map_values}}
use Rattle.mon_acl.specs.declared.entries.Entry.{Entry}
use Rattle.deck_lines.specs.declared.command.Command.TheVariants.{List as Listing}
use Rattle.mon_catalogue.specs.Changes.{with_changed}
use Rattle.mon_unit.proofs.Runs.{run_keeps, run_cut_keeps}
use Rattle.mon_monitor.proofs.Common.{Account, find_account, is_owner, AclError, AclText, list_of_text, Mode, DataSet, Change, recorded, NameTaken, CatalogueFull, Sets, find_set, create_refusal, without_set, listed, Reason, NotOwner, new_set, owner_denial_of, removed_unless, created_unless, acl_set_unless, given, Command, Create, Delete, SetAcl, ShowAcl, Catalog, account_of, answered, served, served_if_known, Request, Reach, serve, set_of, effect, changed_at, looked, turn_of, SlotState, SchedulerState, job_in, reached, Mark, Marks, mark_of, exchanges_at, may_break, ran_as, turn_as, turn_as_by, broken_by, Past, until, never, rounds, turns_left, rounds_until, is_done, has_free_slot, either_way, until_stops, until_goes, SystemState, first_system, Event, Serve, Load, Give, Drain, happened, played}
use Rattle.frame_laws.specs.{Owners.{Owners, owners_of, owners_by, owners_behind, owners_after}, Laws.{NamesAreKnown}}

-- WHAT CHANGES NO OWNER

changed_owners : (name : List ℕ) (f : DataSet → DataSet) → ((set : DataSet) → (f set).owner ≡ set.owner) → (sets : Sets) → owners_of (with_changed name f sets) ≡ owners_of sets
changed_owners name f same [] = refl
changed_owners name f same (named ∷ sets) = by (pointwise nat_eq name named.0) (changed_owners name f same sets)
  where
    by : (b : Bool) → owners_of (with_changed name f sets) ≡ owners_of sets
        → owners_of (if b then (named.0, f named.1) ∷ sets else named ∷ with_changed name f sets) ≡ owners_of (named ∷ sets)
    by true rest = ap (λ (owner : List ℕ). let e : List ℕ × List ℕ = (named.0, owner) in e ∷ owners_of sets) (same named.1)
    by false rest = ap (λ (l : Owners). let e : List ℕ × List ℕ = (named.0, named.1.owner) in e ∷ l) rest

changed_at_owners : (o : Option (List ℕ)) (change : Option Change) (sets : Sets) → owners_of (changed_at o change sets) ≡ owners_of sets
changed_at_owners None change sets = refl
changed_at_owners (Some name) None sets = refl
changed_at_owners (Some name) (Some change) sets = changed_owners name (recorded change) (λ set. refl) sets

-- TURNS

module _ (account : Account) (owners : Owners) where
  abbrev Has : Reach → Type 0
  Has reach = owners_of reach.sets ≡ owners

  each : (reach : Reach) (q : Request) → Has reach → Has (serve account reach q).1
  each reach q h = changed_at_owners (set_of reach.units q) (effect account reach.units q (looked (set_of reach.units q) reach.sets)).change reach.sets ∙ h

broken_owners : (b : Bool) (m : Mark) (slot : SlotState) (sets : Sets) → owners_of (broken_by b m slot sets).1.sets ≡ owners_of sets
broken_owners false m slot sets = run_keeps (serve slot.account) (Has slot.account (owners_of sets)) (each slot.account (owners_of sets)) (turn_of slot.job) (reached sets slot) refl
broken_owners true m slot sets =
    run_cut_keeps (serve slot.account) (Has slot.account (owners_of sets)) (each slot.account (owners_of sets)) (exchanges_at m slot sets) (turn_of slot.job) (reached sets slot) refl

ran_owners : (m : Option Mark) (slot : SlotState) (sets : Sets) → owners_of (ran_as m slot sets).1.sets ≡ owners_of sets
ran_owners None slot sets = run_keeps (serve slot.account) (Has slot.account (owners_of sets)) (each slot.account (owners_of sets)) (turn_of slot.job) (reached sets slot) refl
ran_owners (Some m) slot sets = broken_owners (may_break slot.job) m slot sets

turn_owners : (m : Option Mark) (s : ℕ) (w : SchedulerState) → owners_of (turn_as m s w).1.sets ≡ owners_of w.sets
turn_owners m s w = by (job_in s w)
  where
    by : (o : Option SlotState) → owners_of (turn_as_by m s o w).1.sets ≡ owners_of w.sets
    by None = refl
    by (Some slot) = ran_owners m slot w.sets

until_owners : (stop : SchedulerState → Bool) (E : List ℕ) (m : Marks) (w : SchedulerState) → owners_of (until stop E m w).after.sets ≡ owners_of w.sets
until_owners stop [] m w = refl
until_owners stop (s ∷ E) m w = elim (either_way (stop w)) [
  | inl stops ↦ ap (λ (x : Past). owners_of x.after.sets) (until_stops stop (s ∷ E) m w stops)
  | inr goes ↦
      ap (λ (x : Past). owners_of x.after.sets) (until_goes stop s E m w goes)
      ∙ until_owners stop E (drop 1 m) (turn_as (mark_of m) s w).1 ∙ turn_owners (mark_of m) s w
]

-- COMMANDS

without_owners : (name : List ℕ) (sets : Sets) → owners_of (without_set name sets) ≡ remove_entry (pointwise nat_eq name) (owners_of sets)
without_owners name [] = refl
without_owners name (named ∷ sets) = by (pointwise nat_eq name named.0) (without_owners name sets)
  where
    by : (b : Bool) → owners_of (without_set name sets) ≡ remove_entry (pointwise nat_eq name) (owners_of sets)
        → owners_of (if b then sets else named ∷ without_set name sets)
        ≡ (if b then owners_of sets else (named.0, named.1.owner) ∷ remove_entry (pointwise nat_eq name) (owners_of sets))
    by true rest = refl
    by false rest = ap (λ (l : Owners). let e : List ℕ × List ℕ = (named.0, named.1.owner) in e ∷ l) rest

owner_found : (name : List ℕ) (sets : Sets) → lookup (pointwise nat_eq name) (owners_of sets) ≡ option_map (λ set. set.owner) (find_set name sets)
owner_found name sets = lookup-map_values (λ (set : DataSet). set.owner) (pointwise nat_eq name) sets

pub as_many : (sets : Sets) → length (owners_of sets) ≡ length sets
as_many sets = length-map sets (λ named. (named.0, named.1.owner))

module _ (account : Account) (sets : Sets) where
  abbrev behind_create : List ℕ → Bool → Bool → Owners
  behind_create name taken full = if taken then owners_of sets else if full then owners_of sets else owners_of sets ++ (name, account.name) ∷ []

  abbrev behind_delete : List ℕ → Option (List ℕ) → Owners
  behind_delete name o = option_map_or (λ owner. if is_owner account owner then remove_entry (pointwise nat_eq name) (owners_of sets) else owners_of sets) o (owners_of sets)

  creates : (name : List ℕ) (mode : Mode) → owners_of (created_unless (create_refusal name sets) account sets name mode).1 ≡ owners_by account (Create account.name name mode) (owners_of sets)
  creates name mode =
      by (is_some (find_set name sets)) (nat_le 1000 (length sets))
      ∙ ap (λ (b : Bool). behind_create name (is_some (find_set name sets)) b) (ap (nat_le 1000) (sym (as_many sets)))
      ∙ ap (λ (b : Bool). behind_create name b (nat_le 1000 (length (owners_of sets)))) (some (find_set name sets) ∙ ap is_some (sym (owner_found name sets)))
    where
      some : (o : Option DataSet) → is_some o ≡ is_some (option_map (λ set. set.owner) o)
      some None = refl
      some (Some set) = refl

      by : (taken full : Bool) → owners_of (created_unless (if taken then Some NameTaken else if full then Some CatalogueFull else None) account sets name mode).1 ≡ behind_create name taken full
      by true full = refl
      by false true = refl
      by false false = map-append (λ (named : List ℕ × DataSet). (named.0, named.1.owner)) sets ((name, new_set account mode) ∷ [])

  deletes : (name : List ℕ) → owners_of (removed_unless (owner_denial_of account (find_set name sets)) sets name).1 ≡ owners_by account (Delete account.name name) (owners_of sets)
  deletes name = by (find_set name sets) ∙ ap (behind_delete name) (sym (owner_found name sets))
    where
      owned : (b : Bool) → owners_of (removed_unless (if b then None else Some NotOwner) sets name).1 ≡ (if b then remove_entry (pointwise nat_eq name) (owners_of sets) else owners_of sets)
      owned true = without_owners name sets
      owned false = refl

      by : (o : Option DataSet) → owners_of (removed_unless (owner_denial_of account o) sets name).1 ≡ behind_delete name (option_map (λ set. set.owner) o)
      by None = refl
      by (Some set) = owned (is_owner account set.owner)

  gives : (name : List ℕ) (text : AclText) (o : Option Reason) → owners_of (acl_set_unless o sets name text).1 ≡ owners_of sets
  gives name text (Some reason) = refl
  gives name text None = by (list_of_text text)
    where
      by : (list : Result (List Entry) AclError) → owners_of (given list sets name).1 ≡ owners_of sets
      by (Ok list) = changed_owners name (listed list) (λ set. refl) sets
      by (Err error) = refl

  serves : (command : Command) → owners_of (served account command sets).sets ≡ owners_by account command (owners_of sets)
  serves (Create _ name mode) = creates name mode
  serves (Delete _ name) = deletes name
  serves (SetAcl _ name text) = gives name text (owner_denial_of account (find_set name sets))
  serves (ShowAcl _ name) = refl
  serves (Listing _ name) = refl
  serves (Catalog _) = refl

answers : (accounts : List Account) (sets : Sets) (command : Command) → owners_of (answered accounts sets command).sets ≡ owners_behind accounts (Serve command) (owners_of sets)
answers accounts sets command = by (find_account accounts (account_of command))
  where
    by : (o : Option Account) → owners_of (served_if_known o command sets).sets ≡ option_map_or (λ account. owners_by account command (owners_of sets)) o (owners_of sets)
    by None = refl
    by (Some account) = serves account sets command

-- EVENTS

rounds_owners : (stop : SchedulerState → Bool) (m : Marks) (w : SchedulerState) → owners_of (rounds_until stop m w).after.sets ≡ owners_of w.sets
rounds_owners stop m w = until_owners stop (rounds (turns_left w.slots) (length w.slots)) m w

event_owners : (event : Event) (m : Marks) (w : SystemState) → owners_of (happened event m w).after.scheduler.sets ≡ owners_behind w.accounts event (owners_of w.scheduler.sets)
event_owners (Serve command) m w = answers w.accounts w.scheduler.sets command
event_owners (Load deck) m w = rounds_owners has_free_slot m w.scheduler
event_owners (Give slot count) m w = until_owners never (replicate count slot) m w.scheduler
event_owners Drain m w = rounds_owners is_done m w.scheduler

accounts_stay : (event : Event) (m : Marks) (w : SystemState) → (happened event m w).after.accounts ≡ w.accounts
accounts_stay (Serve command) m w = refl
accounts_stay (Load deck) m w = refl
accounts_stay (Give slot count) m w = refl
accounts_stay Drain m w = refl

played_owners : (events : List Event) (m : Marks) (w : SystemState) → owners_of (played events m w).after.scheduler.sets ≡ owners_after w.accounts events (owners_of w.scheduler.sets)
played_owners [] m w = refl
played_owners (event ∷ events) m w =
    let here = happened event m w in
    played_owners events here.marks here.after
    ∙ ap (λ (accounts : List Account). owners_after accounts events (owners_of here.after.scheduler.sets)) (accounts_stay event m w)
    ∙ ap (owners_after w.accounts events) (event_owners event m w)

pub names_are_known : NamesAreKnown
names_are_known slots accounts events m sets = played_owners events m (first_system slots accounts sets)
