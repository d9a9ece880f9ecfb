-- What each answer means: to requests of jobs by what their units are tied to, and to commands by what they are told.
use Rattle.std.proofs.Common.{◌≡◌, ◌≢◌, ◌≤◌, ◌<◌, ◌⊎◌, ◌∷◌, [], ℕ, nat_le, Bool, true, false, cond, List, length, take, map, is_some, slice_get, if◌then◌else◌, Option, None, Some, Result, Ok, Err, refl, sym, ap, ◌∙◌, subst, inl, inr, arith, ◌↔◌, IsTrue}
use Rattle.mon_monitor.proofs.Common.{slice_get_cases, nat_tests, bytes_eq-Decides, Perms, AclError, AclText, list_of_text, Account, Decision, is_owner, Mode, Seq, Append, DataSet, CreateError, Sets, find_set, writing, Reason, NotOwner, to_write, decision_on, is_granted, NamePart, name_part, names_shown, names_lent, records_lent, acl_lent, owner_denial, acl_set_unless, ended, Acted, only_answered, read_at, changing, acted, IsThere, IsGranted, IsFor, OwnsNamed, acts_where_granted, made, owner_denial_of, removed_unless, created_unless, fits, Act, Read, Write, Endfile, Rewind, Request, Target, Untied, Data, Spool, Set, UnitState, Reach, serve, note_act, acted_at, set_at, target_of, position_of, serve_fits, looked, Command, Create, Delete, SetAcl, ShowAcl, Catalog, Reply, Records, Shown, Names, Served, creation_reply, removal_reply, acl_reply, shown_as, answered, IsKnown, served_if_known, ReadsPast, before, LacksRoom, IsDone, AreNamed, IsTold, Answer, to_read, to_execute, given, Told, served}
use Rattle.mon_acl.specs.declared.entries.Entry.{Entry}
use Rattle.mon_access.specs.declared.access.Decision.TheVariants as decision
use Rattle.mon_catalogue.specs.declared.catalogue.CreateError.TheVariants as create
use Rattle.interaction.specs.declared.answer.Answer.TheVariants as answer
use Rattle.mon_guard.specs.Acting as acting
use Rattle.mon_unit.specs.declared.note.NoteAct.TheVariants as note
use Rattle.deck_lines.specs.declared.command.Command.TheVariants.{List as Listing}
use Rattle.mon_command.specs.declared.reply.Reply.TheVariants as reply
use Rattle.mon_command.specs.Commanded as commands
use Rattle.mon_command.specs.Laws as commanding

-- REQUESTS

at_least : (n : ℕ) → nat_le 100000 n ≡ true → 100000 ≤ n
at_least n e = grind (arith, nat_tests)

fewer : (n : ℕ) → nat_le 100000 n ≡ false → n < 100000
fewer n e = grind (arith, nat_tests)

full_test : (n : ℕ) → 100000 ≤ n → nat_le 100000 n ≡ true
full_test n h = grind (arith, nat_tests)

pub room_test : (n : ℕ) → n < 100000 → nat_le 100000 n ≡ false
room_test n h = grind (arith, nat_tests)

module _ (account : Account) (units : UnitState) (sets : Sets) (p : ℕ) where
  -- what an act comes to at a unit that is tied so
  abbrev came : Act → Target → Acted
  came act target = acted_at account act units p target (looked (set_at act target) sets)

  abbrev Says : Act → Target → Answer → Type 0
  Says act target a = (came act target).answer ≡ a

  -- tied to this data set, on which these permissions are granted
  abbrev At : Target → Perms → DataSet → Type 0
  At target perms set = (name : List ℕ) × (target ≡ Set name) × IsThere name sets set × IsGranted account set perms

  abbrev Past : Act → Target → Type 0
  Past act target = (note_act act ≡ note.Read)
      × (((target ≡ Data) × (length units.deck ≤ p)) ⊎ ((set : DataSet) × At target to_read set × (length set.records ≤ p)))

  abbrev NoRoom : Act → Target → Type 0
  NoRoom act target = (note_act act ≡ note.Write) × ((set : DataSet) × At target to_write set × (100000 ≤ before set.mode p set.records))

  abbrev IsDoneAt : Act → Target → Type 0
  IsDoneAt act target =
      ((note_act act ≡ note.Write) × (target ≡ Spool))
      ⊎ (((note_act act ≡ note.Rewind) × (target ≢ Untied))
      ⊎ (((note_act act ≡ note.Write) × ((set : DataSet) × At target to_write set × (before set.mode p set.records < 100000)))
      ⊎ ((note_act act ≡ note.Endfile) × ((set : DataSet) × At target to_write set × (set.mode ≡ Seq)))))

  -- an act on a set is denied, or is granted and done
  granted_or_not : (a : acting.Act) (name : List ℕ) → ((reason : Reason) × (acted account a sets name ≡ only_answered (answer.Denied reason)))
      ⊎ ((set : DataSet) × IsThere name sets set × IsGranted account set (acting.asks a) × IsFor a set.mode × (acted account a sets name ≡ acting.done a set))
  granted_or_not a name =
      let law = acts_where_granted account a sets name in
      elim law.one_of_both [
        | inl h ↦ inr (h.0, h.1, h.2, h.3, law.done_where h.0 h.1 h.2 h.3)
        | inr h ↦ inl (h.0, (law.denied_where h.0).1 h.1)
      ]

  granted_is : (a : acting.Act) (name : List ℕ) (set : DataSet) → IsThere name sets set → IsGranted account set (acting.asks a) → IsFor a set.mode
      → acted account a sets name ≡ acting.done a set
  granted_is a name set there granted for = (acts_where_granted account a sets name).done_where set there granted for

  -- reading
  read_past : (lines : List (List ℕ)) → (read_at p (slice_get lines p)).answer ≡ answer.EndOfFile → length lines ≤ p
  read_past lines h = elim (slice_get_cases lines p).1 [
    | inl x ↦ absurd (let no : answer.Got x.0 ≡ answer.EndOfFile = ap (λ (o : Option (List ℕ)). (read_at p o).answer) (sym x.2) ∙ h in cc (no))
    | inr x ↦ x.0
  ]

  past_read : (lines : List (List ℕ)) → length lines ≤ p → (read_at p (slice_get lines p)).answer ≡ answer.EndOfFile
  past_read lines less = elim (slice_get_cases lines p).1 [
    | inl x ↦ absurd (let within = x.1 in omega (arith, within, less))
    | inr x ↦ ap (λ (o : Option (List ℕ)). (read_at p o).answer) x.1
  ]

  -- an answer that fits no such act
  unfit : (act : Act) (target : Target) (a : Answer) → fits act a ≡ false → IsTrue (fits act (came act target).answer) → Says act target a → ⊥
  unfit act target a not fit h = let no : false ≡ true = sym not ∙ ap (fits act) (sym h) ∙ fit in cc (no)

  past_from : (act : Act) (target : Target) → IsTrue (fits act (came act target).answer) → Says act target answer.EndOfFile → Past act target
  past_from (Read u) Untied fit h = absurd (cc (h))
  past_from (Read u) Data fit h = (refl, inl (refl, read_past units.deck h))
  past_from (Read u) Spool fit h = absurd (cc (h))
  past_from (Read u) (Set name) fit h = elim (granted_or_not (acting.Read p) name) [
    | inl d ↦ absurd (let no : answer.Denied d.0 ≡ answer.EndOfFile = ap (λ (a : Acted). a.answer) (sym d.1) ∙ h in cc (no))
    | inr g ↦ (refl, inr (g.0, (name, refl, g.1, g.2), read_past g.0.records (ap (λ (a : Acted). a.answer) (sym g.4) ∙ h)))
  ]
  past_from (Write u line) target fit h = absurd (unfit (Write u line) target answer.EndOfFile refl fit h)
  past_from (Endfile u) target fit h = absurd (unfit (Endfile u) target answer.EndOfFile refl fit h)
  past_from (Rewind u) target fit h = absurd (unfit (Rewind u) target answer.EndOfFile refl fit h)

  past_so : (act : Act) (target : Target) → Past act target → Says act target answer.EndOfFile
  past_so (Read u) target (is, inl d) = subst (λ (t : Target). Says (Read u) t answer.EndOfFile) (sym d.0) (past_read units.deck d.1)
  past_so (Read u) target (is, inr g) =
      subst (λ (t : Target). Says (Read u) t answer.EndOfFile) (sym g.1.1)
      (ap (λ (a : Acted). a.answer) (granted_is (acting.Read p) g.1.0 g.0 g.1.2 g.1.3 tt) ∙ past_read g.0.records g.2)
  past_so (Write u line) target (is, _) = absurd (cc (is))
  past_so (Endfile u) target (is, _) = absurd (cc (is))
  past_so (Rewind u) target (is, _) = absurd (cc (is))

  -- writing
  abbrev room_answer : Bool → Answer
  room_answer lacks = if lacks then answer.Full else answer.Done

  written : (mode : Mode) (line : List ℕ) (records : List (List ℕ))
      → (changing (writing mode p line) records).answer ≡ room_answer (nat_le 100000 (before mode p records))
  written Seq line records = by (nat_le 100000 (length (take p records)))
    where
      by : (b : Bool) → (made (writing Seq p line) records (if b then Some (record {}) else None)).answer ≡ room_answer b
      by true = refl
      by false = refl
  written Append line records = by (nat_le 100000 (length records))
    where
      by : (b : Bool) → (made (writing Append p line) records (if b then Some (record {}) else None)).answer ≡ room_answer b
      by true = refl
      by false = refl

  full_from_test : (n : ℕ) → room_answer (nat_le 100000 n) ≡ answer.Full → 100000 ≤ n
  full_from_test n h = by (nat_le 100000 n) refl h
    where
      by : (b : Bool) → nat_le 100000 n ≡ b → room_answer b ≡ answer.Full → 100000 ≤ n
      by true e h = at_least n e
      by false e h = absurd (cc (h))

  done_from_test : (n : ℕ) → room_answer (nat_le 100000 n) ≡ answer.Done → n < 100000
  done_from_test n h = by (nat_le 100000 n) refl h
    where
      by : (b : Bool) → nat_le 100000 n ≡ b → room_answer b ≡ answer.Done → n < 100000
      by true e h = absurd (cc (h))
      by false e h = fewer n e

  -- what is answered to a line that is written to a set on which w is granted
  wrote_so : (u : ℕ) (line : List ℕ) (target : Target) (set : DataSet) → At target to_write set
      → Says (Write u line) target (room_answer (nat_le 100000 (before set.mode p set.records)))
  wrote_so u line target set at =
      subst (λ (t : Target). Says (Write u line) t (room_answer (nat_le 100000 (before set.mode p set.records)))) (sym at.1)
      (ap (λ (a : Acted). a.answer) (granted_is (acting.Write p line) at.0 set at.2 at.3 tt) ∙ written set.mode line set.records)

  full_from : (act : Act) (target : Target) → IsTrue (fits act (came act target).answer) → Says act target answer.Full → NoRoom act target
  full_from (Read u) target fit h = absurd (unfit (Read u) target answer.Full refl fit h)
  full_from (Write u line) Untied fit h = absurd (cc (h))
  full_from (Write u line) Data fit h = absurd (cc (h))
  full_from (Write u line) Spool fit h = absurd (cc (h))
  full_from (Write u line) (Set name) fit h = elim (granted_or_not (acting.Write p line) name) [
    | inl d ↦ absurd (let no : answer.Denied d.0 ≡ answer.Full = ap (λ (a : Acted). a.answer) (sym d.1) ∙ h in cc (no))
    | inr g ↦
        let says = sym (written g.0.mode line g.0.records) ∙ ap (λ (a : Acted). a.answer) (sym g.4) ∙ h in
        (refl, (g.0, (name, refl, g.1, g.2), full_from_test (before g.0.mode p g.0.records) says))
  ]
  full_from (Endfile u) target fit h = absurd (unfit (Endfile u) target answer.Full refl fit h)
  full_from (Rewind u) target fit h = absurd (unfit (Rewind u) target answer.Full refl fit h)

  full_so : (act : Act) (target : Target) → NoRoom act target → Says act target answer.Full
  full_so (Write u line) target (is, g) = wrote_so u line target g.0 g.1 ∙ ap room_answer (full_test (before g.0.mode p g.0.records) g.2)
  full_so (Read u) target (is, _) = absurd (cc (is))
  full_so (Endfile u) target (is, _) = absurd (cc (is))
  full_so (Rewind u) target (is, _) = absurd (cc (is))

  -- what is done
  ends_seq : (mode : Mode) → IsFor (acting.End p) mode → mode ≡ Seq
  ends_seq Seq for = refl
  ends_seq Append never = absurd never

  done_from : (act : Act) (target : Target) → IsTrue (fits act (came act target).answer) → Says act target answer.Done → IsDoneAt act target
  done_from (Read u) target fit h = absurd (unfit (Read u) target answer.Done refl fit h)
  done_from (Write u line) Untied fit h = absurd (cc (h))
  done_from (Write u line) Data fit h = absurd (cc (h))
  done_from (Write u line) Spool fit h = inl (refl, refl)
  done_from (Write u line) (Set name) fit h = elim (granted_or_not (acting.Write p line) name) [
    | inl d ↦ absurd (let no : answer.Denied d.0 ≡ answer.Done = ap (λ (a : Acted). a.answer) (sym d.1) ∙ h in cc (no))
    | inr g ↦
        let says = sym (written g.0.mode line g.0.records) ∙ ap (λ (a : Acted). a.answer) (sym g.4) ∙ h in
        inr (inr (inl (refl, (g.0, (name, refl, g.1, g.2), done_from_test (before g.0.mode p g.0.records) says))))
  ]
  done_from (Endfile u) Untied fit h = absurd (cc (h))
  done_from (Endfile u) Data fit h = absurd (cc (h))
  done_from (Endfile u) Spool fit h = absurd (cc (h))
  done_from (Endfile u) (Set name) fit h = elim (granted_or_not (acting.End p) name) [
    | inl d ↦ absurd (let no : answer.Denied d.0 ≡ answer.Done = ap (λ (a : Acted). a.answer) (sym d.1) ∙ h in cc (no))
    | inr g ↦ inr (inr (inr (refl, (g.0, (name, refl, g.1, g.2), ends_seq g.0.mode g.3))))
  ]
  done_from (Rewind u) Untied fit h = absurd (cc (h))
  done_from (Rewind u) Data fit h = inr (inl (refl, λ no. cc (no)))
  done_from (Rewind u) Spool fit h = inr (inl (refl, λ no. cc (no)))
  done_from (Rewind u) (Set name) fit h = inr (inl (refl, λ no. cc (no)))

  goes_back : (u : ℕ) (target : Target) → target ≢ Untied → Says (Rewind u) target answer.Done
  goes_back u Untied not = absurd (not refl)
  goes_back u Data not = refl
  goes_back u Spool not = refl
  goes_back u (Set name) not = refl

  ended_so : (u : ℕ) (target : Target) (set : DataSet) → At target to_write set → set.mode ≡ Seq → Says (Endfile u) target answer.Done
  ended_so u target set at mode =
      subst (λ (t : Target). Says (Endfile u) t answer.Done) (sym at.1)
      (ap (λ (a : Acted). a.answer) (granted_is (acting.End p) at.0 set at.2 at.3 (subst (IsFor (acting.End p)) (sym mode) tt))
      ∙ ap (λ (m : Mode). (ended m p set.records).answer) mode)

  done_so : (act : Act) (target : Target) → IsDoneAt act target → Says act target answer.Done
  done_so (Read u) target (inl (is, _)) = absurd (cc (is))
  done_so (Read u) target (inr (inl (is, _))) = absurd (cc (is))
  done_so (Read u) target (inr (inr (inl (is, _)))) = absurd (cc (is))
  done_so (Read u) target (inr (inr (inr (is, _)))) = absurd (cc (is))
  done_so (Write u line) target (inl (is, spool)) = subst (λ (t : Target). Says (Write u line) t answer.Done) (sym spool) refl
  done_so (Write u line) target (inr (inl (is, _))) = absurd (cc (is))
  done_so (Write u line) target (inr (inr (inl (is, g)))) =
      wrote_so u line target g.0 g.1 ∙ ap room_answer (room_test (before g.0.mode p g.0.records) g.2)
  done_so (Write u line) target (inr (inr (inr (is, _)))) = absurd (cc (is))
  done_so (Endfile u) target (inl (is, _)) = absurd (cc (is))
  done_so (Endfile u) target (inr (inl (is, _))) = absurd (cc (is))
  done_so (Endfile u) target (inr (inr (inl (is, _)))) = absurd (cc (is))
  done_so (Endfile u) target (inr (inr (inr (is, g)))) = ended_so u target g.0 g.1 g.2
  done_so (Rewind u) target (inl (is, _)) = absurd (cc (is))
  done_so (Rewind u) target (inr (inl (is, tied))) = goes_back u target tied
  done_so (Rewind u) target (inr (inr (inl (is, _)))) = absurd (cc (is))
  done_so (Rewind u) target (inr (inr (inr (is, _)))) = absurd (cc (is))

module _ (account : Account) (reach : Reach) (q : Request) where
  pub reads_past : ((serve account reach q).0 ≡ answer.EndOfFile) ↔ ReadsPast account reach q
  reads_past = (
    past_from account reach.units reach.sets (position_of reach.units q) q.act (target_of reach.units q) (serve_fits account reach q),
    past_so account reach.units reach.sets (position_of reach.units q) q.act (target_of reach.units q),
  )

  pub lacks_room : ((serve account reach q).0 ≡ answer.Full) ↔ LacksRoom account reach q
  lacks_room = (
    full_from account reach.units reach.sets (position_of reach.units q) q.act (target_of reach.units q) (serve_fits account reach q),
    full_so account reach.units reach.sets (position_of reach.units q) q.act (target_of reach.units q),
  )

  pub done_where : ((serve account reach q).0 ≡ answer.Done) ↔ IsDone account reach q
  done_where = (
    done_from account reach.units reach.sets (position_of reach.units q) q.act (target_of reach.units q) (serve_fits account reach q),
    done_so account reach.units reach.sets (position_of reach.units q) q.act (target_of reach.units q),
  )

-- NAMES

module _ (account : Account) where
  abbrev first_if : Decision → (List ℕ × DataSet) → Sets → List NamePart
  first_if d named shown = map name_part (cond (is_granted d) (named ∷ shown) shown)

  named_by : (named : List ℕ × DataSet) (sets : Sets) (d : Decision) → decision_on account named.1 to_execute ≡ d
      → AreNamed account sets (names_lent account sets) → AreNamed account (named ∷ sets) (first_if d named (names_shown account sets))
  named_by named sets decision.Granted is rest = inl (is, (names_lent account sets, refl, rest))
  named_by named sets (decision.Denied decider) is rest =
      inr ((λ granted. let no : decision.Granted ≡ decision.Denied decider = sym granted ∙ is in cc (no)), rest)

  pub are_named : (sets : Sets) → AreNamed account sets (names_lent account sets)
  are_named [] = refl
  are_named (named ∷ sets) = named_by named sets (decision_on account named.1 to_execute) refl (are_named sets)

-- COMMANDS

-- done, denied, or nothing that is told in one line
abbrev is_plain : Reply → Bool
is_plain reply.Done = true
is_plain (reply.Denied reason) = true
is_plain reply.NoAccount = false
is_plain reply.NameTaken = false
is_plain reply.CatalogueFull = false
is_plain (reply.BadList error) = false

abbrev is_plain_answer : commands.Answer → Bool
is_plain_answer (Told reply) = is_plain reply
is_plain_answer (Records records) = true
is_plain_answer (Shown list) = true
is_plain_answer (Names names) = true

told_plain : (a : commands.Answer) → is_plain_answer a ≡ true → (r : Reply) → is_plain r ≡ false → a ≡ Told r → ⊥
told_plain a is r not h = let no : true ≡ false = sym is ∙ ap is_plain_answer h ∙ not in cc (no)

shown_plain : {A : Type 0} (show : A → commands.Answer) → ((x : A) → is_plain_answer (show x) ≡ true) → (r : Result A Reason) → is_plain_answer (shown_as show r) ≡ true
shown_plain show is (Ok x) = is x
shown_plain show is (Err reason) = refl

module _ (account : Account) (sets : Sets) where
  abbrev told : Command → commands.Answer
  told command = (served account command sets).answer

  -- CREATE
  abbrev refusal_of : Option DataSet → Bool → Option CreateError
  refusal_of found full = if is_some found then Some create.NameTaken else if full then Some create.CatalogueFull else None

  abbrev created_as : List ℕ → Mode → Option DataSet → Bool → Reply
  created_as name mode found full = creation_reply (created_unless (refusal_of found full) account sets name mode).0

  created_from : (by name : List ℕ) (mode : Mode) (found : Option DataSet) (full : Bool) → find_set name sets ≡ found → nat_le 1000 (length sets) ≡ full
      → (r : Reply) → is_plain r ≡ false → created_as name mode found full ≡ r → IsTold account sets (Create by name mode) r
  created_from by name mode (Some set) full is e r not h =
      subst (λ (x : Reply). IsTold account sets (Create by name mode) x) h (λ none. let no : Some set ≡ None = sym is ∙ none in cc (no))
  created_from by name mode None true is e r not h = subst (λ (x : Reply). IsTold account sets (Create by name mode) x) h (is, many (length sets) e)
    where
      many : (n : ℕ) → nat_le 1000 n ≡ true → 1000 ≤ n
      many n e = grind (arith, nat_tests)
  created_from by name mode None false is e r not h = absurd (let no : true ≡ false = ap is_plain h ∙ not in cc (no))

  created_so : (by name : List ℕ) (mode : Mode) (r : Reply) → is_plain r ≡ false → IsTold account sets (Create by name mode) r
      → created_as name mode (find_set name sets) (nat_le 1000 (length sets)) ≡ r
  created_so by name mode reply.Done not h = absurd (cc (not))
  created_so by name mode (reply.Denied reason) not h = absurd (cc (not))
  created_so by name mode reply.NoAccount not h = absurd h
  created_so by name mode reply.NameTaken not h = taken (find_set name sets) h
    where
      taken : (found : Option DataSet) → found ≢ None → created_as name mode found (nat_le 1000 (length sets)) ≡ reply.NameTaken
      taken None some = absurd (some refl)
      taken (Some set) some = refl
  created_so by name mode reply.CatalogueFull not h =
      ap (λ (o : Option DataSet). created_as name mode o (nat_le 1000 (length sets))) h.0 ∙ ap (created_as name mode None) (full (length sets) h.1)
    where
      full : (n : ℕ) → 1000 ≤ n → nat_le 1000 n ≡ true
      full n h = grind (arith, nat_tests)
  created_so by name mode (reply.BadList error) not h = absurd h

  -- SETACL
  given_from : (by name : List ℕ) (text : AclText) → OwnsNamed account sets name → (l : Result (List Entry) AclError) → list_of_text text ≡ l
      → (r : Reply) → is_plain r ≡ false → acl_reply (given l sets name).0 ≡ r → IsTold account sets (SetAcl by name text) r
  given_from by name text owns (Ok list) is r not h = absurd (let no : true ≡ false = ap is_plain h ∙ not in cc (no))
  given_from by name text owns (Err error) is r not h = subst (λ (x : Reply). IsTold account sets (SetAcl by name text) x) h (owns, is)

  list_from : (by name : List ℕ) (text : AclText) (denial : Option Reason) → (denial ≡ None → OwnsNamed account sets name)
      → (r : Reply) → is_plain r ≡ false → acl_reply (acl_set_unless denial sets name text).0 ≡ r → IsTold account sets (SetAcl by name text) r
  list_from by name text (Some reason) owns r not h = absurd (let no : true ≡ false = ap is_plain h ∙ not in cc (no))
  list_from by name text None owns r not h = given_from by name text (owns refl) (list_of_text text) refl r not h

  -- whoever is not denied owns the data set
  owns_by : (name : List ℕ) (found : Option DataSet) → find_set name sets ≡ found → owner_denial_of account found ≡ None → OwnsNamed account sets name
  owns_by name None is h = absurd (cc (h))
  owns_by name (Some set) is h = owner (is_owner account set.owner) refl h
    where
      owner : (b : Bool) → is_owner account set.owner ≡ b → (if b then None else Some NotOwner) ≡ None → OwnsNamed account sets name
      owner true e h = (set, is, (bytes_eq-Decides account.name set.owner).0 e)
      owner false e h = absurd (cc (h))

  not_denied : (name : List ℕ) → OwnsNamed account sets name → owner_denial account sets name ≡ None
  not_denied name h =
      ap (owner_denial_of account) h.1
      ∙ ap (λ (b : Bool). if b then None else Some NotOwner) ((bytes_eq-Decides account.name h.0.owner).1 h.2)

  list_so : (by name : List ℕ) (text : AclText) (r : Reply) → is_plain r ≡ false → IsTold account sets (SetAcl by name text) r
      → acl_reply (acl_set_unless (owner_denial account sets name) sets name text).0 ≡ r
  list_so by name text reply.Done not h = absurd (cc (not))
  list_so by name text (reply.Denied reason) not h = absurd (cc (not))
  list_so by name text reply.NoAccount not h = absurd h
  list_so by name text reply.NameTaken not h = absurd h
  list_so by name text reply.CatalogueFull not h = absurd h
  list_so by name text (reply.BadList error) not h =
      ap (λ (o : Option Reason). acl_reply (acl_set_unless o sets name text).0) (not_denied name h.0)
      ∙ ap (λ (l : Result (List Entry) AclError). acl_reply (given l sets name).0) h.1

  -- the others are done or denied, or show something
  abbrev Plain : Command → Type 0
  Plain command = (r : Reply) → is_plain r ≡ false → (told command ≡ Told r) ↔ IsTold account sets command r

  plainly : (command : Command) → is_plain_answer (told command) ≡ true → ((r : Reply) → is_plain r ≡ false → IsTold account sets command r → ⊥) → Plain command
  plainly command is never r not = ((λ h. absurd (told_plain (told command) is r not h)), (λ h. absurd (never r not h)))

  removed_plain : (denial : Option Reason) (name : List ℕ) → is_plain (removal_reply (removed_unless denial sets name).0) ≡ true
  removed_plain (Some reason) name = refl
  removed_plain None name = refl

  by_delete : (by name : List ℕ) (r : Reply) → is_plain r ≡ false → IsTold account sets (Delete by name) r → ⊥
  by_delete by name reply.Done not h = cc (not)
  by_delete by name (reply.Denied reason) not h = cc (not)
  by_delete by name reply.NoAccount not h = h
  by_delete by name reply.NameTaken not h = h
  by_delete by name reply.CatalogueFull not h = h
  by_delete by name (reply.BadList error) not h = h

  by_show : (by name : List ℕ) (r : Reply) → is_plain r ≡ false → IsTold account sets (ShowAcl by name) r → ⊥
  by_show by name reply.Done not h = cc (not)
  by_show by name (reply.Denied reason) not h = cc (not)
  by_show by name reply.NoAccount not h = h
  by_show by name reply.NameTaken not h = h
  by_show by name reply.CatalogueFull not h = h
  by_show by name (reply.BadList error) not h = h

  by_list : (by name : List ℕ) (r : Reply) → is_plain r ≡ false → IsTold account sets (Listing by name) r → ⊥
  by_list by name reply.Done not h = cc (not)
  by_list by name (reply.Denied reason) not h = cc (not)
  by_list by name reply.NoAccount not h = h
  by_list by name reply.NameTaken not h = h
  by_list by name reply.CatalogueFull not h = h
  by_list by name (reply.BadList error) not h = h

  by_catalog : (by : List ℕ) (r : Reply) → is_plain r ≡ false → IsTold account sets (Catalog by) r → ⊥
  by_catalog by reply.Done not h = cc (not)
  by_catalog by (reply.Denied reason) not h = cc (not)
  by_catalog by reply.NoAccount not h = h
  by_catalog by reply.NameTaken not h = h
  by_catalog by reply.CatalogueFull not h = h
  by_catalog by (reply.BadList error) not h = h

  same_reply : (r s : Reply) → Told r ≡ Told s → r ≡ s
  same_reply r s h = cc (h)

  other_told : (command : Command) → Plain command
  other_told (Create by name mode) r not = (
    (λ h. created_from by name mode (find_set name sets) (nat_le 1000 (length sets)) refl refl r not (same_reply _ r h)),
    (λ h. ap Told (created_so by name mode r not h)),
  )
  other_told (SetAcl by name text) r not = (
    (λ h. list_from by name text (owner_denial account sets name) (owns_by name (find_set name sets) refl) r not (same_reply _ r h)),
    (λ h. ap Told (list_so by name text r not h)),
  )
  other_told (Delete by name) r not = plainly (Delete by name) (removed_plain (owner_denial account sets name) name) (by_delete by name) r not
  other_told (ShowAcl by name) r not = plainly (ShowAcl by name) (shown_plain Shown (λ x. refl) (acl_lent account sets name)) (by_show by name) r not
  other_told (Listing by name) r not = plainly (Listing by name) (shown_plain Records (λ x. refl) (records_lent account sets name)) (by_list by name) r not
  other_told (Catalog by) r not = plainly (Catalog by) refl (by_catalog by) r not

-- each line that a command of a known account is told
module _ (orders : commanding.ChangesWhereGranted) (whys : commanding.DenialsSayWhy) (accounts : List Account) (sets : Sets) (command : Command)
    (account : Account) (known : IsKnown accounts command account) where
  abbrev said : Served
  said = answered accounts sets command

  same_answer : said.answer ≡ (served account command sets).answer
  same_answer = ap (λ (o : Option Account). (served_if_known o command sets).answer) known

  other : (r : Reply) → is_plain r ≡ false → (said.answer ≡ Told r) ↔ IsTold account sets command r
  other r not =
      let law = other_told account sets command r not in
      ((λ h. law.0 (sym same_answer ∙ h)), (λ h. same_answer ∙ law.1 h))

  pub is_told : (r : Reply) → (said.answer ≡ Told r) ↔ IsTold account sets command r
  is_told reply.Done = (
    (λ h. (
      said.sets,
      ((orders accounts sets command).changed account said.sets known).0
          (ap (λ (a : commands.Answer). record { answer = a; sets = said.sets }) h),
    )),
    (λ h. ap (λ (s : Served). s.answer) (((orders accounts sets command).changed account h.0 known).1 h.1)),
  )
  is_told (reply.Denied reason) = whys accounts sets command account reason known
  is_told reply.NoAccount = other reply.NoAccount refl
  is_told reply.NameTaken = other reply.NameTaken refl
  is_told reply.CatalogueFull = other reply.CatalogueFull refl
  is_told (reply.BadList error) = other (reply.BadList error) refl
