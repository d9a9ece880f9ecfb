-- Data sets whose names, and whose lists' entries, are such: so they stay, whatever is asked and ordered; and so is what is answered.
use Rattle.std.proofs.Common.{◌≡◌, ℕ, zero, suc, Bool, true, false, nat_eq, List, [], ◌∷◌, ◌++◌, Option, Some, None, Result, Ok, Err, refl, cond}
use Rattle.std.specs.{Prelude.{IfSome, All, slice_get, if◌then◌else◌, option_map}, Option.{option_and_then}, Cmp.Lexicographic.{pointwise}}
use Rattle.std.proofs.lemmas.List.Elements.{All-head, All-tail, All-nil, All-cons}
use Rattle.mon_text.specs.Names.{IsName}
use Rattle.mon_acl.specs.declared.{entries.Perms.{Perms}, entries.Tag.{Tag}, entries.Entry.{Entry}, refusals.AclError.{AclError}}
use Rattle.mon_acl.specs.Entries.{IsEntry, IsAcl, is_qualified}
use Rattle.mon_acl.specs.declared.entries.Tag.TheVariants as tag
use Rattle.acl_text.specs.{declared.text.AclText.{AclText}, declared.text.AclText.TheVariants.{Short, Long}, Forms.{list_of_text}}
use Rattle.acl_text.specs.Laws.{ReadingSpells, LongReadingSpells}
use Rattle.mon_access.specs.{declared.account.Account.{Account}, declared.access.Decider.{Decider}, declared.access.Decision.{Decision}, Granting.{granting}}
use Rattle.mon_access.specs.{Accounts.{find_account}, Matches.{is_owner}}
use Rattle.mon_access.specs.declared.access.Decider.TheVariants as decider
use Rattle.mon_access.specs.declared.access.Decision.TheVariants as decision
use Rattle.mon_catalogue.specs.declared.{data_set.DataSet.{DataSet}, mode.Mode.{Mode}, catalogue.CreateError.{CreateError}}
use Rattle.mon_catalogue.specs.{Sets.{Sets, find_set, create_refusal}, Changes.{with_changed, without_set}, Writing.{Change, recorded}}
use Rattle.mon_catalogue.specs.declared.catalogue.CreateError.TheVariants as create
use Rattle.interaction.specs.declared.answer.Reason.{Reason, TheVariants.{By, NotOwner}}
use Rattle.mon_guard.specs.{Acting.{changed}, Deciding.{decision_on, to_read, to_execute, may_be_shown}, Owning.{new_set, new_list, owner_denial, plain}}
use Rattle.mon_guard.specs.{Reasons.{reason_at, reason_of}, Views.{acl_part, names_shown}, inner.Parts.{given, acl_set_unless}}
use Rattle.mon_guard.proofs.Shorthand.{owner_denial_of, removed_unless, created_unless, records_of, acl_of}
use Rattle.deck_lines.specs.{declared.command.Command.{Command}, Commands.{account_of}}
use Rattle.deck_lines.specs.declared.command.Command.TheVariants.{Create, Delete, SetAcl, ShowAcl, List as Listing, Catalog}
use Rattle.mon_command.specs.Commanded.{Served, Records, Shown, told_by, creation_reply, removal_reply, acl_reply, shown_as, served, answered}
use Rattle.mon_command.{specs.Saying.{said_of}, proofs.Shorthand.{served_if_known}}
use Rattle.audit.specs.declared.grants.Grant.TheVariants.{AsOwner, ByEntry}
use Rattle.audit.specs.Grants.{granting_entry, by_entry, by_owner, to_see_list, command_grant, known_grant}
use Rattle.audit_laws.{specs.Sound.{ListsAreSpelled, IsEntryNamed, IsWellNamed, AreWellNamed, AreNamed, IsSaidNamed}, proofs.Reasons.{IsGrantNamed}}

-- AN ENTRY

qualified_named : (t : Tag) (name : Option (List ℕ)) → is_qualified t name ≡ true → IsEntryNamed (By t name)
qualified_named t None h = tt
qualified_named t (Some name) h = h

entry_named : (e : Entry) → IsEntry e → IsEntryNamed (By e.tag e.name)
entry_named e h = qualified_named e.tag e.name h

pub entry_at : (es : List Entry) → All IsEntry es → (i : ℕ) → IfSome (slice_get es i) IsEntry
entry_at [] h i = tt
entry_at (e ∷ es) h zero = All-head IsEntry e es h
entry_at (e ∷ es) h (suc i) = entry_at es (All-tail IsEntry e es h) i

reason_at_named : (t : Tag) (o : Option Entry) → IfSome o IsEntry → IsEntryNamed (reason_at t o)
reason_at_named t None h = tt
reason_at_named t (Some e) h = entry_named e h

pub reason_of_named : (es : List Entry) → All IsEntry es → (d : Decider) → IsEntryNamed (reason_of es d)
reason_of_named es h decider.UserObj = tt
reason_of_named es h (decider.User i) = reason_at_named tag.User (slice_get es i) (entry_at es h i)
reason_of_named es h (decider.Group i) = reason_at_named tag.GroupObj (slice_get es i) (entry_at es h i)
reason_of_named es h decider.Mask = tt
reason_of_named es h decider.Other = tt

-- the entry at an index, where there is one
abbrev entry_in : List Entry → Option ℕ → Option Reason
entry_in es i = option_map (λ (e : Entry). By e.tag e.name) (option_and_then (slice_get es) i)

some_entry : (o : Option Entry) → IfSome o IsEntry → IfSome (option_map (λ (e : Entry). By e.tag e.name) o) IsEntryNamed
some_entry None h = tt
some_entry (Some e) h = entry_named e h

entry_in_named : (es : List Entry) → All IsEntry es → (i : Option ℕ) → IfSome (entry_in es i) IsEntryNamed
entry_in_named es h None = tt
entry_in_named es h (Some i) = some_entry (slice_get es i) (entry_at es h i)

pub granting_named : (account : Account) (set : DataSet) (request : Perms) → All IsEntry set.acl → IfSome (granting_entry account set request) IsEntryNamed
granting_named account set request h = entry_in_named set.acl h (granting account set.owner set.group set.acl request)

by_reason : (o : Option Reason) → IfSome o IsEntryNamed → IfSome (option_map ByEntry o) IsGrantNamed
by_reason None h = tt
by_reason (Some reason) h = h

pub by_entry_named : (account : Account) (set : DataSet) (request : Perms) → All IsEntry set.acl → IfSome (by_entry account set request) IsGrantNamed
by_entry_named account set request h = by_reason (granting_entry account set request) (granting_named account set request h)

-- A DATA SET

abbrev HasEntries : DataSet → Type 0
HasEntries set = All IsEntry set.acl

pub found_named : (name : List ℕ) (sets : Sets) → AreWellNamed sets → IfSome (find_set name sets) HasEntries
found_named name [] h = tt
found_named name (named ∷ sets) h = by (pointwise nat_eq name named.0) (found_named name sets h.1)
  where
    by : (b : Bool) → IfSome (find_set name sets) HasEntries → IfSome (cond b (Some named.1) (find_set name sets)) HasEntries
    by true more = h.0.1
    by false more = more

pub changed_stay : (name : List ℕ) (f : DataSet → DataSet) → ((set : DataSet) → HasEntries set → HasEntries (f set)) → (sets : Sets) → AreWellNamed sets
    → AreWellNamed (with_changed name f sets)
changed_stay name f keeps [] h = tt
changed_stay name f keeps (named ∷ sets) h = by (pointwise nat_eq name named.0) (changed_stay name f keeps sets h.1)
  where
    by : (b : Bool) → AreWellNamed (with_changed name f sets) → AreWellNamed (if b then (named.0, f named.1) ∷ sets else named ∷ with_changed name f sets)
    by true more = ((h.0.0, keeps named.1 h.0.1), h.1)
    by false more = (h.0, more)

removed_stay : (name : List ℕ) (sets : Sets) → AreWellNamed sets → AreWellNamed (without_set name sets)
removed_stay name [] h = tt
removed_stay name (named ∷ sets) h = by (pointwise nat_eq name named.0) (removed_stay name sets h.1)
  where
    by : (b : Bool) → AreWellNamed (without_set name sets) → AreWellNamed (cond b sets (named ∷ without_set name sets))
    by true more = h.1
    by false more = (h.0, more)

added_stay : (named : List ℕ × DataSet) (sets : Sets) → IsWellNamed named → AreWellNamed sets → AreWellNamed (sets ++ named ∷ [])
added_stay named [] new h = (new, tt)
added_stay named (first ∷ sets) new h = (h.0, added_stay named sets new h.1)

-- what a job does to records keeps names and lists
pub change_stays : (name : List ℕ) (change : Option Change) (sets : Sets) → AreWellNamed sets → AreWellNamed (changed name change sets)
change_stays name None sets h = h
change_stays name (Some change) sets h = changed_stay name (recorded change) (λ set has. has) sets h

abbrev no_perms : Perms
no_perms = record { read = false; write = false; execute = false }

new_entries : All IsEntry new_list
new_entries =
    let owners = plain tag.UserObj (record { read = true; write = true; execute = true }) in
    let groups = plain tag.GroupObj no_perms in
    let others = plain tag.Other no_perms in
    All-cons IsEntry owners (groups ∷ others ∷ []) refl (All-cons IsEntry groups (others ∷ []) refl (All-cons IsEntry others [] refl (All-nil IsEntry)))

-- the data sets that are shown are some of these
pub shown_named : (account : Account) (sets : Sets) → AreWellNamed sets → AreWellNamed (names_shown account sets)
shown_named account [] h = tt
shown_named account (named ∷ sets) h = by (may_be_shown account named) (shown_named account sets h.1)
  where
    by : (b : Bool) → AreWellNamed (names_shown account sets) → AreWellNamed (cond b (named ∷ names_shown account sets) (names_shown account sets))
    by true more = (h.0, more)
    by false more = more

-- A COMMAND

-- what a command leaves has such names, and what it is told
pub record LeavesNamed (s : Served) : Type 0 where
  pub sets : AreWellNamed s.sets
  pub said : IsSaidNamed (said_of s.answer)

pub lists_are_spelled : ReadingSpells → LongReadingSpells → ListsAreSpelled
lists_are_spelled short long (Short text) es h = ((short text es).1 h).0
lists_are_spelled short long (Long text) es h = ((long text es).1 h).0

module _ (spelled_is : ListsAreSpelled) where
  creates : (account : Account) (sets : Sets) (name : List ℕ) (mode : Mode) → IsName name → AreWellNamed sets → (o : Option CreateError)
      → LeavesNamed (told_by creation_reply (created_unless o account sets name mode))
  creates account sets name mode named h None = record { sets = added_stay (name, new_set account mode) sets (named, new_entries) h; said = tt }
  creates account sets name mode named h (Some create.NameTaken) = record { sets = h; said = tt }
  creates account sets name mode named h (Some create.CatalogueFull) = record { sets = h; said = tt }

  abbrev IsNamedIf : Option Reason → Type 0
  IsNamedIf o = IfSome o IsEntryNamed

  denial_named : (account : Account) (o : Option DataSet) → IsNamedIf (owner_denial_of account o)
  denial_named account None = tt
  denial_named account (Some set) = by (is_owner account set.owner)
    where
      by : (b : Bool) → IsNamedIf (if b then None else Some NotOwner)
      by true = tt
      by false = tt

  removes : (sets : Sets) (name : List ℕ) → AreWellNamed sets → (o : Option Reason) → IsNamedIf o → LeavesNamed (told_by removal_reply (removed_unless o sets name))
  removes sets name h None named = record { sets = removed_stay name sets h; said = tt }
  removes sets name h (Some reason) named = record { sets = h; said = named }

  gives : (sets : Sets) (name : List ℕ) → AreWellNamed sets → (read : Result (List Entry) AclError) → ((es : List Entry) → read ≡ Ok es → IsAcl es)
      → LeavesNamed (told_by acl_reply (given read sets name))
  gives sets name h (Ok es) is = record { sets = changed_stay name (λ set. record set { acl = es }) (λ set has. (is es refl).valid.entries) sets h; said = tt }
  gives sets name h (Err error) is = record { sets = h; said = tt }

  lists : (sets : Sets) (name : List ℕ) (text : AclText) → AreWellNamed sets → (o : Option Reason) → IsNamedIf o
      → LeavesNamed (told_by acl_reply (acl_set_unless o sets name text))
  lists sets name text h None named = gives sets name h (list_of_text text) (spelled_is text)
  lists sets name text h (Some reason) named = record { sets = h; said = named }

  reads : (account : Account) (sets : Sets) → AreWellNamed sets → (o : Option DataSet) → IfSome o HasEntries
      → LeavesNamed (record { answer = shown_as Records (records_of account o); sets = sets })
  reads account sets h None has = record { sets = h; said = tt }
  reads account sets h (Some set) has = by (decision_on account set to_read)
    where
      by : (d : Decision) → LeavesNamed (record { answer = shown_as Records (elim d [ decision.Granted ↦ Ok set.records | decision.Denied last ↦ Err (reason_of set.acl last) ]); sets = sets })
      by decision.Granted = record { sets = h; said = tt }
      by (decision.Denied d) = record { sets = h; said = reason_of_named set.acl has d }

  sees : (account : Account) (sets : Sets) → AreWellNamed sets → (o : Option DataSet) → IfSome o HasEntries
      → LeavesNamed (record { answer = shown_as Shown (acl_of account o); sets = sets })
  sees account sets h None has = record { sets = h; said = tt }
  sees account sets h (Some set) has = either (is_owner account set.owner) (decision_on account set to_execute)
    where
      either : (b : Bool) (d : Decision) → LeavesNamed (record { answer = shown_as Shown (if b then Ok (acl_part set) else elim d [ decision.Granted ↦ Ok (acl_part set) | decision.Denied last ↦ Err (reason_of set.acl last) ]); sets = sets })
      either true d = record { sets = h; said = tt }
      either false decision.Granted = record { sets = h; said = tt }
      either false (decision.Denied d) = record { sets = h; said = reason_of_named set.acl has d }

  pub serves_named : (account : Account) (command : Command) (sets : Sets) → AreNamed command → AreWellNamed sets → LeavesNamed (served account command sets)
  serves_named account (Create by name mode) sets named h = creates account sets name mode named.1 h (create_refusal name sets)
  serves_named account (Delete by name) sets named h = removes sets name h (owner_denial account sets name) (denial_named account (find_set name sets))
  serves_named account (SetAcl by name text) sets named h = lists sets name text h (owner_denial account sets name) (denial_named account (find_set name sets))
  serves_named account (ShowAcl by name) sets named h = sees account sets h (find_set name sets) (found_named name sets h)
  serves_named account (Listing by name) sets named h = reads account sets h (find_set name sets) (found_named name sets h)
  serves_named account (Catalog by) sets named h = record { sets = h; said = tt }

  known_named : (o : Option Account) (command : Command) (sets : Sets) → AreNamed command → AreWellNamed sets → LeavesNamed (served_if_known o command sets)
  known_named None command sets named h = record { sets = h; said = tt }
  known_named (Some account) command sets named h = serves_named account command sets named h

  pub answers_named : (accounts : List Account) (sets : Sets) (command : Command) → AreNamed command → AreWellNamed sets → LeavesNamed (answered accounts sets command)
  answers_named accounts sets command named h = known_named (find_account accounts (account_of command)) command sets named h

-- BY WHAT A COMMAND IS GRANTED

owner_grant : (account : Account) (o : Option DataSet) → IfSome (option_and_then (by_owner account) o) IsGrantNamed
owner_grant account None = tt
owner_grant account (Some set) = by (is_owner account set.owner)
  where
    by : (b : Bool) → IfSome (if b then Some AsOwner else None) IsGrantNamed
    by true = tt
    by false = tt

see_grant : (account : Account) (o : Option DataSet) → IfSome o HasEntries → IfSome (option_and_then (to_see_list account) o) IsGrantNamed
see_grant account None h = tt
see_grant account (Some set) h = by (is_owner account set.owner)
  where
    by : (b : Bool) → IfSome (if b then Some AsOwner else by_entry account set to_execute) IsGrantNamed
    by true = tt
    by false = by_entry_named account set to_execute h

read_grant : (account : Account) (o : Option DataSet) → IfSome o HasEntries → IfSome (option_and_then (λ set. by_entry account set to_read) o) IsGrantNamed
read_grant account None h = tt
read_grant account (Some set) h = by_entry_named account set to_read h

pub command_grant_named : (account : Account) (sets : Sets) (command : Command) → AreWellNamed sets → IfSome (command_grant account sets command) IsGrantNamed
command_grant_named account sets (Delete by name) h = owner_grant account (find_set name sets)
command_grant_named account sets (SetAcl by name text) h = owner_grant account (find_set name sets)
command_grant_named account sets (ShowAcl by name) h = see_grant account (find_set name sets) (found_named name sets h)
command_grant_named account sets (Listing by name) h = read_grant account (find_set name sets) (found_named name sets h)
command_grant_named account sets (Create by name mode) h = tt
command_grant_named account sets (Catalog by) h = tt

pub known_grant_named : (known : Option Account) (sets : Sets) (command : Command) → AreWellNamed sets → IfSome (known_grant known sets command) IsGrantNamed
known_grant_named None sets command h = tt
known_grant_named (Some account) sets command h = command_grant_named account sets command h
