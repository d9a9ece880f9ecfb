-- What is written is read: a line stands at its place, entry by entry, until its data set is overwritten.
use Rattle.std.proofs.Common.{◌≡◌, ◌≢◌, ◌<◌, ℕ, Bool, true, false, if◌then◌else◌, List, [], ◌∷◌, ◌++◌, ◌⊎◌, length, take, slice_get, Option, Some, None, Result, Ok, Err, option_map, refl, ap, sym, ◌∙◌, subst, inl, inr, ◌↔◌, bytes_eq}
use Rattle.mon_monitor.proofs.Common.{AllByRecursion, bytes_eq-Decides, not_from_Decides, AclError, list_of_text, Account, find_account, Mode, Seq, Append, DataSet, SetFull, CreateError, Sets, find_set, create_refusal, with_changed, without_set, Change, writing, change_refusal, records_after, recorded, other_sets_stay, named_set_changes, listed, Reason, to_write, owner_denial, new_set, acl_set_unless, IsThere, IsGranted, removed_unless, created_unless, Act, Read, Write, Endfile, Rewind, Command, Create, Delete, SetAcl, ShowAcl, Catalog, account_of, told_by, removal_reply, answered, served_if_known, Data, Spool, Set, serve, note_act, position_of, AsksChange, played, Exchanged, Entered, Asked, Ordered, history, StandsOver, sets_after, Lead, before, IsDone, HasDeleted, Wrote, ReadsAt, Overwrites, SeesWrites, ReadsSeeWrites, to_read, given, served, Entry, Refused, Ended}
use Rattle.mon_acl.specs.declared.entries.Entry.{Entry as ListEntry}
use Rattle.interaction.specs.declared.answer.Answer.TheVariants as answer
use Rattle.deck_lines.specs.declared.command.Command.TheVariants.{List as Listing}
use Rattle.mon_command.specs.Commanded as commands
use Rattle.mon_unit.specs.declared.note.NoteAct.TheVariants as note
use Rattle.mon_unit.specs.Laws as units
use Rattle.mon_monitor.proofs.{Accounting.{history_lead}, Answering.{room_test, done_where}, Appending.{found_first}}

-- this line is the record at this place of the data set of this name
abbrev pub Holds : List ℕ → ℕ → List ℕ → Sets → Type 0
Holds name place line sets = (set : DataSet) × IsThere name sets set × (slice_get set.records place ≡ Some line)

same_set : (name : List ℕ) (sets : Sets) (one other : DataSet) → IsThere name sets one → IsThere name sets other → one ≡ other
same_set name sets one other h k = let same : Some one ≡ Some other = sym h ∙ k in cc (same)

same_name : (one other : List ℕ) → Set one ≡ Set other → one ≡ other
same_name one other h = cc (h)

-- WHAT IS WRITTEN STANDS AT ITS PLACE

behind : (records : List (List ℕ)) (line : List ℕ) → slice_get (records ++ line ∷ []) (length records) ≡ Some line
behind [] line = refl
behind (first ∷ records) line = behind records line

stands : (mode : Mode) (position : ℕ) (line : List ℕ) (records : List (List ℕ))
    → slice_get (records_after (writing mode position line) records) (before mode position records) ≡ Some line
stands Seq position line records = behind (take position records) line
stands Append position line records = behind records line

abbrev refused_at : Bool → Option SetFull
refused_at lacks = if lacks then Some (record {}) else None

has_room : (mode : Mode) (position : ℕ) (line : List ℕ) (records : List (List ℕ)) → before mode position records < 100000
    → change_refusal (writing mode position line) records ≡ None
has_room Seq position line records less = ap refused_at (room_test (length (take position records)) less)
has_room Append position line records less = ap refused_at (room_test (length records) less)

module _ (changed : units.ChangedWhereGranted) (name : List ℕ) (place : ℕ) (line : List ℕ) where
  wrote_holds : (e : Exchanged) → e.answer ≡ (serve e.account e.reach e.request).0 → Wrote name line place e
      → Holds name place line (serve e.account e.reach e.request).1.sets
  wrote_holds e is (u, set, act, target, there, at, done) = by ((done_where e.account e.reach e.request).0 (sym is ∙ done))
    where
      by : IsDone e.account e.reach e.request → Holds name place line (serve e.account e.reach e.request).1.sets
      by (inl (write, spool)) = absurd (let no : Set name ≡ Spool = sym target ∙ spool in cc (no))
      by (inr (inl (back, tied))) = absurd (let no : note.Write ≡ note.Rewind = sym (ap note_act act) ∙ back in cc (no))
      by (inr (inr (inr (end, g)))) = absurd (let no : note.Write ≡ note.Endfile = sym (ap note_act act) ∙ end in cc (no))
      by (inr (inr (inl (write, g)))) =
          let change : Change = writing set.mode (position_of e.reach.units e.request) line in
          let named : g.1.0 ≡ name = same_name g.1.0 name (sym g.1.1 ∙ target) in
          let one : g.0 ≡ set = same_set name e.reach.sets g.0 set (subst (λ (n : List ℕ). IsThere n e.reach.sets g.0) named g.1.2) there in
          let granted : IsGranted e.account set to_write = subst (λ (s : DataSet). IsGranted e.account s to_write) one g.1.3 in
          let less : before set.mode (position_of e.reach.units e.request) set.records < 100000 =
          subst (λ (s : DataSet). before s.mode (position_of e.reach.units e.request) s.records < 100000) one g.2 in
          let asks : AsksChange (Write u line) (position_of e.reach.units e.request) set change =
          (has_room set.mode (position_of e.reach.units e.request) line set.records less, refl) in
          let made = (changed e.account e.reach e.request).where_asked name change
          (set, target, there, granted, subst (λ (a : Act). AsksChange a (position_of e.reach.units e.request) set change) (sym act) asks) in
          subst (λ (s : Sets). Holds name place line s) (sym made.1) (
            recorded change set,
            (named_set_changes name e.reach.sets (recorded change)).1 ∙ ap (option_map (recorded change)) there,
            ap (slice_get (records_after change set.records)) at ∙ stands set.mode (position_of e.reach.units e.request) line set.records,
          )

  -- ONE REQUEST

  not_back : (act : Act) (position : ℕ) (set : DataSet) (change : Change) → AsksChange act position set change → note_act act ≢ note.Rewind
  not_back (Read u) position set change never = absurd never
  not_back (Write u text) position set change asks = λ no. cc (no)
  not_back (Endfile u) position set change asks = λ no. cc (no)
  not_back (Rewind u) position set change never = absurd never

  -- a set that is as it was
  holds_as : (sets after : Sets) → find_set name after ≡ find_set name sets → Holds name place line sets → Holds name place line after
  holds_as sets after same h = (h.0, same ∙ h.1, h.2)

  request_holds : (e : Exchanged) → e.answer ≡ (serve e.account e.reach e.request).0 → (¬ Overwrites name (Asked e)) → Holds name place line e.reach.sets
      → Holds name place line (serve e.account e.reach e.request).1.sets
  request_holds e is not h = by (changed e.account e.reach e.request).else_none
    where
      by : ((serve e.account e.reach e.request).1.sets ≡ e.reach.sets) ⊎ ((n : List ℕ) × (change : Change) × units.Changes e.account e.reach e.request n change)
          → Holds name place line (serve e.account e.reach e.request).1.sets
      by (inl same) = subst (λ (s : Sets). Holds name place line s) (sym same) h
      by (inr (n, change, asks)) =
          let made = (changed e.account e.reach e.request).where_asked n change asks in
          let back = not_back e.request.act (position_of e.reach.units e.request) asks.0 change asks.4 in
          let differ : name ≢ n = λ same. not (asks.1 ∙ ap Set (sym same), back, is ∙ made.0) in
          subst (λ (s : Sets). Holds name place line s) (sym made.1)
          (holds_as e.reach.sets (with_changed n (recorded change) e.reach.sets) (other_sets_stay n name e.reach.sets (recorded change) differ).1 h)

  -- ONE COMMAND

  module _ (sets : Sets) (h : Holds name place line sets) where
    -- another list leaves the records
    listed_holds : (n : List ℕ) (list : List ListEntry) → Holds name place line (with_changed n (listed list) sets)
    listed_holds n list = by (bytes_eq name n) refl
      where
        by : (b : Bool) → bytes_eq name n ≡ b → Holds name place line (with_changed n (listed list) sets)
        by true e =
            let same : name ≡ n = (bytes_eq-Decides name n).0 e in
            let there : find_set n sets ≡ Some h.0 = ap (λ (k : List ℕ). find_set k sets) (sym same) ∙ h.1 in (
              listed list h.0,
              ap (λ (k : List ℕ). find_set k (with_changed n (listed list) sets)) same ∙ (named_set_changes n sets (listed list)).1
                  ∙ ap (option_map (listed list)) there,
              h.2,
            )
        by false e =
            holds_as sets (with_changed n (listed list) sets)
            (other_sets_stay n name sets (listed list) (not_from_Decides _ (bytes_eq-Decides name n) e)).1 h

    created_holds : (account : Account) (n : List ℕ) (mode : Mode) (r : Option CreateError) → Holds name place line (created_unless r account sets n mode).1
    created_holds account n mode (Some refusal) = h
    created_holds account n mode None = (h.0, found_first name h.0 ((n, new_set account mode) ∷ []) sets h.1, h.2)

    given_holds : (n : List ℕ) (r : Result (List ListEntry) AclError) → Holds name place line (given r sets n).1
    given_holds n (Ok list) = listed_holds n list
    given_holds n (Err error) = h

    removed_holds : (by n : List ℕ) (r : Option Reason)
        → (¬ HasDeleted name (Delete by n) (told_by removal_reply (removed_unless r sets n)).answer) → Holds name place line (removed_unless r sets n).1
    removed_holds by n (Some reason) not = h
    removed_holds by n None not =
        holds_as sets (without_set n sets) (other_sets_stay n name sets (λ set. set) (λ same. not (sym same, refl))).0 h

    served_holds : (account : Account) (command : Command) → (¬ HasDeleted name command (served account command sets).answer)
        → Holds name place line (served account command sets).sets
    served_holds account (Create by n mode) not = created_holds account n mode (create_refusal n sets)
    served_holds account (Delete by n) not = removed_holds by n (owner_denial account sets n) not
    served_holds account (SetAcl by n text) not = unless (owner_denial account sets n)
      where
        unless : (r : Option Reason) → Holds name place line (acl_set_unless r sets n text).1
        unless (Some reason) = h
        unless None = given_holds n (list_of_text text)
    served_holds account (ShowAcl by n) not = h
    served_holds account (Listing by n) not = h
    served_holds account (Catalog by) not = h

    command_holds : (accounts : List Account) (command : Command) → (¬ HasDeleted name command (answered accounts sets command).answer)
        → Holds name place line (answered accounts sets command).sets
    command_holds accounts command = known (find_account accounts (account_of command))
      where
        known : (o : Option Account) → (¬ HasDeleted name command (served_if_known o command sets).answer)
            → Holds name place line (served_if_known o command sets).sets
        known None not = h
        known (Some account) not = served_holds account command not

  -- ENTRIES

  entry_holds : (accounts : List Account) (sets : Sets) (x : Entry) → StandsOver accounts sets x → (¬ Overwrites name x) → Holds name place line sets
      → Holds name place line (sets_after accounts sets x)
  entry_holds accounts sets (Asked e) over not h = request_holds e over.1 not (subst (λ (s : Sets). Holds name place line s) (sym over.0) h)
  entry_holds accounts sets (Ordered known before command a) over not h =
      command_holds before (subst (λ (s : Sets). Holds name place line s) (sym over.0) h) accounts command
      (λ is. not (subst (λ (b : commands.Answer). HasDeleted name command b) (sym over.1) is))
  entry_holds accounts sets (Entered deck) over not h = h
  entry_holds accounts sets (Refused deck refusal) over not h = h
  entry_holds accounts sets (Ended e) over not h = h

  lead_holds : (accounts : List Account) (sets after : Sets) (xs : List Entry) → Lead accounts sets xs after
      → AllByRecursion (λ entry. ¬ Overwrites name entry) xs → Holds name place line sets → Holds name place line after
  lead_holds accounts sets after [] same none h = subst (λ (s : Sets). Holds name place line s) (sym same) h
  lead_holds accounts sets after (x ∷ xs) lead none h =
      lead_holds accounts (sets_after accounts sets x) after xs lead.1 none.1 (entry_holds accounts sets x lead.0 none.0 h)

-- ONE READ

reads_it : units.GotWhereGranted → (e : Exchanged) (name line : List ℕ) (place : ℕ) → e.answer ≡ (serve e.account e.reach e.request).0
    → ReadsAt name place e → Holds name place line e.reach.sets
    → (set : DataSet) × IsThere name e.reach.sets set × ((e.answer ≡ answer.Got line) ↔ IsGranted e.account set to_read)
reads_it got e name line place is (reads, target, at) h = (
  h.0,
  h.1,
  (
    (λ says. from ((got e.account e.reach e.request line).0 (sym is ∙ says))),
    (λ granted. is ∙ (got e.account e.reach e.request line).1 (inr (name, h.0, reads, target, h.1, granted, ap (slice_get h.0.records) at ∙ h.2))),
  ),
)
  where
    from : (units.ReadsDeck e.reach.units e.request line ⊎ units.ReadsSet e.account e.reach e.request line) → IsGranted e.account h.0 to_read
    from (inl deck) = absurd (let no : Set name ≡ Data = sym target ∙ deck.1 in cc (no))
    from (inr g) =
        let named : g.0 ≡ name = same_name g.0 name (sym g.3 ∙ target) in
        let one : g.1 ≡ h.0 = same_set name e.reach.sets g.1 h.0 (subst (λ (n : List ℕ). IsThere n e.reach.sets g.1) named g.4) h.1 in
        subst (λ (s : DataSet). IsGranted e.account s to_read) one g.5

-- ALL OF A LIST

lead_parts : (accounts : List Account) (sets after : Sets) (xs ys : List Entry) → Lead accounts sets (xs ++ ys) after
    → (between : Sets) × Lead accounts sets xs between × Lead accounts between ys after
lead_parts accounts sets after [] ys lead = (sets, refl, lead)
lead_parts accounts sets after (x ∷ xs) ys lead =
    let rest = lead_parts accounts (sets_after accounts sets x) after xs ys lead.1 in
    (rest.0, (lead.0, rest.1), rest.2)

sees_writes : units.GotWhereGranted → units.ChangedWhereGranted → (accounts : List Account) (sets last : Sets) (entries : List Entry)
    → Lead accounts sets entries last → SeesWrites entries
sees_writes got changed accounts sets last entries lead first between after wrote reads name line place is writes none at =
    let all = lead_parts accounts sets last first (Asked wrote ∷ (between ++ Asked reads ∷ after)) (subst (λ (l : List Entry). Lead accounts sets l last) is lead) in
    let rest = lead_parts accounts (sets_after accounts all.0 (Asked wrote)) last between (Asked reads ∷ after) all.2.1 in
    let holds = lead_holds changed name place line accounts (sets_after accounts all.0 (Asked wrote)) rest.0 between rest.1 none
    (wrote_holds changed name place line wrote all.2.0.1 writes) in
    reads_it got reads name line place rest.2.0.1 at (subst (λ (s : Sets). Holds name place line s) (sym rest.2.0.0) holds)

pub reads_see_writes : units.GotWhereGranted → units.ChangedWhereGranted → ReadsSeeWrites
reads_see_writes got changed events m w =
    sees_writes got changed w.accounts w.scheduler.sets (played events m w).after.scheduler.sets (history events m w) (history_lead w.accounts events m w.scheduler)
