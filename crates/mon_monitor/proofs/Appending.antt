-- Sets of mode APPEND only grow: by one change, one request, one command, one entry; and so by all of a history.
use Rattle.std.proofs.Common.{◌≡◌, ℕ, nat_eq, Bool, true, false, cond, List, [], ◌∷◌, ◌++◌, ◌⊎◌, Option, Some, None, Result, Ok, Err, option_map, refl, ap, sym, ◌∙◌, subst, inl, inr, append_assoc, append-nil, bytes_eq}
use Rattle.mon_monitor.proofs.Common.{pointwise, bytes_eq-Decides, not_from_Decides, AclError, list_of_text, Account, find_account, Mode, Seq, Append, DataSet, CreateError, Sets, find_set, create_refusal, with_changed, without_set, Change, Add, writing, records_after, recorded, other_sets_stay, named_set_changes, Reason, owner_denial, new_set, acl_set_unless, IsThere, Act, Read, Write, Endfile, Rewind, Request, Command, Create, Delete, SetAcl, ShowAcl, Catalog, account_of, told_by, removal_reply, answered, Reach, serve, AsksChange, played, Entered, Asked, Ordered, history, StandsOver, sets_after, Lead, Begins, Keeps, HasDeleted, Deletes, NoneDeletes, AppendOnly, listed, removed_unless, created_unless, served_if_known, given, served, Entry, Refused, Ended}
use Rattle.mon_acl.specs.declared.entries.Entry.{Entry as ListEntry}
use Rattle.deck_lines.specs.declared.command.Command.TheVariants.{List as Listing}
use Rattle.mon_command.specs.Commanded as commands
use Rattle.mon_unit.specs.Laws as units
use Rattle.mon_monitor.proofs.Accounting.{history_lead}

begins_then : (a b c : List (List ℕ)) → Begins a b → Begins b c → Begins a c
begins_then a b c h k = (h.0 ++ k.0, k.1 ∙ ap (λ (l : List (List ℕ)). l ++ k.0) h.1 ∙ append_assoc a h.0 k.0)

-- a set that is as it was
kept_as : (name : List ℕ) (first : List (List ℕ)) (sets after : Sets) → find_set name after ≡ find_set name sets → Keeps name first sets → Keeps name first after
kept_as name first sets after same h = (h.0, same ∙ h.1, h.2, h.3)

-- what a change makes of a set of mode APPEND only adds records
abbrev OnlyAdds : (DataSet → DataSet) → DataSet → Type 0
OnlyAdds f set = set.mode ≡ Append → ((f set).mode ≡ Append) × Begins set.records (f set).records

-- ONE CHANGE

change_keeps : (name : List ℕ) (first : List (List ℕ)) (sets : Sets) (n : List ℕ) (f : DataSet → DataSet)
    → ((set : DataSet) → IsThere n sets set → OnlyAdds f set) → Keeps name first sets → Keeps name first (with_changed n f sets)
change_keeps name first sets n f adds h = by (bytes_eq name n) refl
  where
    by : (b : Bool) → bytes_eq name n ≡ b → Keeps name first (with_changed n f sets)
    by true e =
        let same : name ≡ n = (bytes_eq-Decides name n).0 e in
        let there : find_set n sets ≡ Some h.0 = ap (λ (k : List ℕ). find_set k sets) (sym same) ∙ h.1 in
        let more = adds h.0 there h.2 in (
          f h.0,
          ap (λ (k : List ℕ). find_set k (with_changed n f sets)) same ∙ (named_set_changes n sets f).1 ∙ ap (option_map f) there,
          more.0,
          begins_then first h.0.records (f h.0).records h.3 more.1,
        )
    by false e =
        kept_as name first sets (with_changed n f sets) (other_sets_stay n name sets f (not_from_Decides _ (bytes_eq-Decides name n) e)).1 h

-- a line that is added
adds_line : (change : Change) (line : List ℕ) → change ≡ Add line → (set : DataSet) → OnlyAdds (recorded change) set
adds_line change line is set mode = (mode, (line ∷ [], ap (λ (c : Change). records_after c set.records) is))

-- on a set of mode APPEND nothing else is asked
asked_adds : (act : Act) (position : ℕ) (set : DataSet) (change : Change) → AsksChange act position set change → OnlyAdds (recorded change) set
asked_adds (Read u) position set change never mode = absurd never
asked_adds (Write u line) position set change is mode =
    adds_line change line (is.1 ∙ ap (λ (m : Mode). writing m position line) mode) set mode
asked_adds (Endfile u) position set change is mode = absurd (let no : Seq ≡ Append = sym is.0 ∙ mode in cc (no))
asked_adds (Rewind u) position set change never mode = absurd never

-- ONE REQUEST

request_keeps : units.ChangedWhereGranted → (account : Account) (reach : Reach) (q : Request) (name : List ℕ) (first : List (List ℕ))
    → Keeps name first reach.sets → Keeps name first (serve account reach q).1.sets
request_keeps changed account reach q name first h = by (changed account reach q).else_none
  where
    by : ((serve account reach q).1.sets ≡ reach.sets) ⊎ ((n : List ℕ) × (change : Change) × units.Changes account reach q n change)
        → Keeps name first (serve account reach q).1.sets
    by (inl same) = subst (λ (s : Sets). Keeps name first s) (sym same) h
    by (inr made) =
        let n = made.0 in
        let change = made.1 in
        let asks = made.2 in
        let now = ((changed account reach q).where_asked n change asks).1 in
        subst (λ (s : Sets). Keeps name first s) (sym now)
        (change_keeps name first reach.sets n (recorded change)
        (λ set there. adds_there asks.0 set (sym asks.2 ∙ there) (asked_adds q.act (units.position_of reach.units q) asks.0 change asks.4)) h)
      where
        adds_there : (one set : DataSet) → Some one ≡ Some set → OnlyAdds (recorded made.1) one → OnlyAdds (recorded made.1) set
        adds_there one set is adds = let same : one ≡ set = cc (is) in subst (λ (s : DataSet). OnlyAdds (recorded made.1) s) same adds

-- ONE COMMAND

-- a set that is found is found before others that are put behind it
pub found_first : (name : List ℕ) (set : DataSet) (more sets : Sets) → find_set name sets ≡ Some set → find_set name (sets ++ more) ≡ Some set
found_first name set more [] h = absurd cc
found_first name set more (named ∷ sets) h = by (pointwise nat_eq name named.0) h (found_first name set more sets)
  where
    by : (b : Bool) → cond b (Some named.1) (find_set name sets) ≡ Some set → (find_set name sets ≡ Some set → find_set name (sets ++ more) ≡ Some set)
        → cond b (Some named.1) (find_set name (sets ++ more)) ≡ Some set
    by true h rest = h
    by false h rest = rest h

module _ (name : List ℕ) (first : List (List ℕ)) (sets : Sets) (h : Keeps name first sets) where
  created_keeps : (account : Account) (n : List ℕ) (mode : Mode) (r : Option CreateError) → Keeps name first (created_unless r account sets n mode).1
  created_keeps account n mode (Some refusal) = h
  created_keeps account n mode None = (h.0, found_first name h.0 ((n, new_set account mode) ∷ []) sets h.1, h.2, h.3)

  given_keeps : (n : List ℕ) (r : Result (List ListEntry) AclError) → Keeps name first (given r sets n).1
  given_keeps n (Ok list) = change_keeps name first sets n (listed list) (λ set there mode. (mode, ([], sym (append-nil set.records)))) h
  given_keeps n (Err error) = h

  removed_keeps : (by n : List ℕ) (r : Option Reason)
      → (¬ HasDeleted name (Delete by n) (told_by removal_reply (removed_unless r sets n)).answer) → Keeps name first (removed_unless r sets n).1
  removed_keeps by n (Some reason) not = h
  removed_keeps by n None not =
      kept_as name first sets (without_set n sets) (other_sets_stay n name sets (λ set. set) (λ same. not (sym same, refl))).0 h

  served_keeps : (account : Account) (command : Command) → (¬ HasDeleted name command (served account command sets).answer)
      → Keeps name first (served account command sets).sets
  served_keeps account (Create by n mode) not = created_keeps account n mode (create_refusal n sets)
  served_keeps account (Delete by n) not = removed_keeps by n (owner_denial account sets n) not
  served_keeps account (SetAcl by n text) not = unless (owner_denial account sets n)
    where
      unless : (r : Option Reason) → Keeps name first (acl_set_unless r sets n text).1
      unless (Some reason) = h
      unless None = given_keeps n (list_of_text text)
  served_keeps account (ShowAcl by n) not = h
  served_keeps account (Listing by n) not = h
  served_keeps account (Catalog by) not = h

  command_keeps : (accounts : List Account) (command : Command) → (¬ HasDeleted name command (answered accounts sets command).answer)
      → Keeps name first (answered accounts sets command).sets
  command_keeps accounts command = known (find_account accounts (account_of command))
    where
      known : (o : Option Account) → (¬ HasDeleted name command (served_if_known o command sets).answer)
          → Keeps name first (served_if_known o command sets).sets
      known None not = h
      known (Some account) not = served_keeps account command not

-- ONE ENTRY, AND ALL OF THEM

module _ (changed : units.ChangedWhereGranted) (accounts : List Account) (name : List ℕ) (first : List (List ℕ)) where
  entry_keeps : (before : Sets) (x : Entry) → StandsOver accounts before x → (¬ Deletes name x) → Keeps name first before
      → Keeps name first (sets_after accounts before x)
  entry_keeps before (Asked e) stands not h =
      request_keeps changed e.account e.reach e.request name first (subst (λ (s : Sets). Keeps name first s) (sym stands.0) h)
  entry_keeps before (Ordered known sets command answer) stands not h =
      command_keeps name first sets (subst (λ (s : Sets). Keeps name first s) (sym stands.0) h) accounts command
      (λ is. not (subst (λ (a : commands.Answer). HasDeleted name command a) (sym stands.1) is))
  entry_keeps before (Entered deck) stands not h = h
  entry_keeps before (Refused deck refusal) stands not h = h
  entry_keeps before (Ended e) stands not h = h

  pub lead_keeps : (before after : Sets) (xs : List Entry) → Lead accounts before xs after → NoneDeletes name xs → Keeps name first before
      → Keeps name first after
  lead_keeps before after [] e none h = subst (λ (s : Sets). Keeps name first s) (sym e) h
  lead_keeps before after (x ∷ xs) lead none h =
      lead_keeps (sets_after accounts before x) after xs lead.1 none.1 (entry_keeps before x lead.0 none.0 h)

pub append_only : units.ChangedWhereGranted → AppendOnly
append_only changed events m w name set there mode none =
    lead_keeps changed w.accounts name set.records w.scheduler.sets (played events m w).after.scheduler.sets (history events m w)
    (history_lead w.accounts events m w.scheduler) none (set, there, mode, ([], sym (append-nil set.records)))
