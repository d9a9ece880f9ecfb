-- What a job asks and is answered: of what, and why not.
use Rattle.std.proofs.Common.{◌≡◌, ℕ, zero, suc, Bool, true, false, List, [], ◌∷◌, length, Option, Some, None, Ok, Err, sym, subst, map}
use Rattle.std.specs.{Prelude.{◌==◌, IfSome, All, slice_get, slice_set, if◌then◌else◌}, Option.{option_map_or, option_and_then, unwrap_or}}
use Rattle.std.specs.List.{AllByRecursion, range_with_len}
use Rattle.mon_text.specs.Names.{IsName}
use Rattle.mon_acl.specs.{declared.entries.Perms.{Perms}, Entries.{IsEntry}}
use Rattle.mon_access.specs.declared.{account.Account.{Account}, access.Decision.{Decision}}
use Rattle.mon_access.specs.declared.access.Decision.TheVariants as decision
use Rattle.mon_catalogue.specs.declared.{mode.Mode.{Mode}, mode.Mode.TheVariants.{Seq, Append}, data_set.DataSet.{DataSet}}
use Rattle.mon_catalogue.specs.{declared.data_set.SetFull.{SetFull}, Sets.{Sets, find_set}, Writing.{Change, Cut, Add, writing, change_refusal, records_after}}
use Rattle.interaction.specs.declared.answer.Reason.TheVariants as reason
use Rattle.interaction.specs.declared.answer.Answer.TheVariants as answer
use Rattle.interaction.specs.declared.request.{Act.{Act}, Act.TheVariants.{Read, Write, Endfile, Rewind}, Request.{Request}}
use Rattle.mon_guard.specs.Acting as acting
use Rattle.mon_guard.specs.{Acting.{Acted, only_answered, read_at, changing, changed, done, asks, acted_on}, Deciding.{decision_on}, inner.Parts.{by_decision}}
use Rattle.deck_syntax.specs.declared.job_deck.UnitCard.{UnitCard}
use Rattle.mon_unit.specs.{declared.note.NoteAct.{NoteAct}, declared.tie.Target.{Target}, declared.tie.Tie.{Tie}, State.{UnitState}}
use Rattle.mon_unit.specs.{declared.tie.Target.TheVariants.{Untied, Data, Spool, Set}, Tying.{tied_to, first_target, new_units, tie_at}}
use Rattle.mon_unit.{specs.Serving.{Reach, unit_of, note_act, acted_at, set_at, set_of, serve}, specs.Laws.{target_of, targets}, proofs.Looks.{targets_stay}}
use Rattle.scheduler.specs.{Loads.{with_ties, tied_by, first_units}, Exchanged.{Exchanged}}
use Rattle.audit.specs.{Laws.{IsNamed}, Grants.{granting_entry}, Requests.{grant, permission, asked_of}}
use Rattle.mon_monitor.specs.Headline.{Follow}
use Rattle.audit_laws.specs.Sound.{IsEntryNamed, IsReasonNamed, AreWellNamed, IsSoundExchange}
use Rattle.audit_laws.proofs.{Sets.{found_named, reason_of_named, granting_named, change_stays}, Jobs.{IsSoundRequest}}

-- WHAT UNITS ARE TIED TO

abbrev pub AreTied : UnitState → Type 0
AreTied units = AllByRecursion IsNamed (targets units)

tie_named : (ties : List Tie) → AllByRecursion IsNamed (map (λ (tie : Tie). tie.target) ties) → (u : ℕ) → IsNamed (unwrap_or (slice_get ties u) (tied_to Untied)).target
tie_named [] h u = tt
tie_named (tie ∷ ties) h zero = h.0
tie_named (tie ∷ ties) h (suc u) = tie_named ties h.1 u

pub target_named : (units : UnitState) → AreTied units → (q : Request) → IsNamed (target_of units q)
target_named units h q = tie_named units.ties h (unit_of q.act)

first_named : (u : ℕ) → IsNamed (first_target u)
first_named u = by (u == 5) (u == 6)
  where
    by : (b c : Bool) → IsNamed (if b then Data else if c then Spool else Untied)
    by true c = tt
    by false true = tt
    by false false = tt

range_named : (us : List ℕ) → AllByRecursion IsNamed (map (λ (tie : Tie). tie.target) (map (λ u. tied_to (first_target u)) us))
range_named [] = tt
range_named (u ∷ us) = (first_named u, range_named us)

new_tied : (deck : List (List ℕ)) → AreTied (new_units deck)
new_tied deck = range_named (range_with_len 0 100)

set_named : (ties : List Tie) (u : ℕ) (tie : Tie) → IsNamed tie.target → AllByRecursion IsNamed (map (λ (t : Tie). t.target) ties)
    → AllByRecursion IsNamed (map (λ (t : Tie). t.target) (slice_set ties u tie))
set_named [] u tie new h = tt
set_named (first ∷ ties) zero tie new h = (new, h.1)
set_named (first ∷ ties) (suc u) tie new h = (h.0, set_named ties u tie new h.1)

abbrev pub NameSets : List UnitCard → Type 0
NameSets cards = AllByRecursion (λ card. IsName card.set) cards

ties_named : (cards : List UnitCard) (units : UnitState) → NameSets cards → AreTied units → AreTied (with_ties cards units)
ties_named [] units named h = h
ties_named (card ∷ cards) units named h = ties_named cards (tied_by card units) named.1 (set_named units.ties card.unit (tied_to (Set card.set)) named.0 h)

pub cards_tied : (cards : List UnitCard) (lines : List (List ℕ)) → NameSets cards → AreTied (with_ties cards (first_units lines))
cards_tied cards lines named = ties_named cards (first_units lines) named (new_tied (first_units lines).deck)

-- what is asked is asked for this account, of units that are tied so
abbrev pub IsFor : Account → Exchanged → Type 0
IsFor account e = (e.account ≡ account) × IsNamed (target_of e.reach.units e.request)

pub follow_named : (n : ℕ) (account : Account) (asked : List Exchanged) (units after : UnitState) → Follow n account units asked after → AreTied units
    → AllByRecursion (IsFor account) asked
follow_named n account [] units after f h = tt
follow_named n account (e ∷ asked) units after f h =
    let here = subst AreTied (sym f.2) h in (
      (f.1, target_named e.reach.units here e.request),
      follow_named n account asked (serve e.account e.reach e.request).1.units after f.3
          (subst (AllByRecursion IsNamed) (sym (targets_stay e.account e.reach e.request)) here),
    )

-- WHY NOT

abbrev Answers : Acted → Type 0
Answers acted = IsReasonNamed acted.answer

read_answers : (position : ℕ) (o : Option (List ℕ)) → Answers (read_at position o)
read_answers position None = tt
read_answers position (Some line) = tt

change_answers : (change : Change) (records : List (List ℕ)) → Answers (changing change records)
change_answers change records = by (change_refusal change records)
  where
    by : (o : Option SetFull) → Answers (option_map_or (λ _. only_answered answer.Full) o (record { answer = answer.Done; position = elim change [ Add line ↦ None | put ↦ Some (length (records_after put records)) ]; change = Some change }))
    by None = tt
    by (Some full) = tt

done_answers : (a : acting.Act) (set : DataSet) → Answers (done a set)
done_answers (acting.Read position) set = read_answers position (slice_get set.records position)
done_answers (acting.Write position line) set = change_answers (writing set.mode position line) set.records
done_answers (acting.End position) set = by set.mode
  where
    by : (mode : Mode) → Answers (elim mode [ Seq ↦ changing (Cut position) set.records | Append ↦ only_answered (answer.Denied reason.Mode) ])
    by Seq = change_answers (Cut position) set.records
    by Append = tt

abbrev HasEntries : DataSet → Type 0
HasEntries set = All IsEntry set.acl

guard_answers : (account : Account) (a : acting.Act) (o : Option DataSet) → IfSome o HasEntries → Answers (acted_on account a o)
guard_answers account a None h = tt
guard_answers account a (Some set) h = by (decision_on account set (asks a))
  where
    by : (d : Decision) → Answers (elim (by_decision set.acl d (done a set)) [ Ok acted ↦ acted | Err why ↦ only_answered (answer.Denied why) ])
    by decision.Granted = done_answers a set
    by (decision.Denied d) = reason_of_named set.acl h d

acted_answers : (account : Account) (a : Act) (units : UnitState) (position : ℕ) (target : Target) (o : Option DataSet) → IfSome o HasEntries
    → Answers (acted_at account a units position target o)
acted_answers account a units position Untied o h = tt
acted_answers account (Read u) units position Data o h = read_answers position (slice_get units.deck position)
acted_answers account (Write u line) units position Data o h = tt
acted_answers account (Endfile u) units position Data o h = tt
acted_answers account (Rewind u) units position Data o h = tt
acted_answers account (Read u) units position Spool o h = tt
acted_answers account (Write u line) units position Spool o h = tt
acted_answers account (Endfile u) units position Spool o h = tt
acted_answers account (Rewind u) units position Spool o h = tt
acted_answers account (Read u) units position (Set name) o h = guard_answers account (acting.Read position) o h
acted_answers account (Write u line) units position (Set name) o h = guard_answers account (acting.Write position line) o h
acted_answers account (Endfile u) units position (Set name) o h = guard_answers account (acting.End position) o h
acted_answers account (Rewind u) units position (Set name) o h = tt

looked_named : (sets : Sets) → AreWellNamed sets → (o : Option (List ℕ)) → IfSome (option_and_then (λ name. find_set name sets) o) HasEntries
looked_named sets h None = tt
looked_named sets h (Some name) = found_named name sets h

pub serve_answers : (account : Account) (reach : Reach) (q : Request) → AreWellNamed reach.sets → IsReasonNamed (serve account reach q).0
serve_answers account reach q h =
    let tie = tie_at reach.units (unit_of q.act) in
    acted_answers account q.act reach.units tie.position tie.target (option_and_then (λ name. find_set name reach.sets) (set_of reach.units q))
    (looked_named reach.sets h (set_of reach.units q))

-- WHAT IS LEFT

pub serve_stays : (account : Account) (reach : Reach) (q : Request) → AreWellNamed reach.sets → AreWellNamed (serve account reach q).1.sets
serve_stays account reach q h =
    let tie = tie_at reach.units (unit_of q.act) in
    let acted = acted_at account q.act reach.units tie.position tie.target (option_and_then (λ name. find_set name reach.sets) (set_of reach.units q)) in
    by (set_of reach.units q) acted.change
  where
    by : (o : Option (List ℕ)) (change : Option Change) → AreWellNamed (option_map_or (λ name. changed name change reach.sets) o reach.sets)
    by None change = h
    by (Some name) change = change_stays name change reach.sets h

-- BY WHAT IT IS GRANTED

grant_named : (account : Account) (a : NoteAct) (set : DataSet) → HasEntries set → IfSome (grant account a set) IsEntryNamed
grant_named account a set h = by (permission a)
  where
    by : (o : Option Perms) → IfSome (option_and_then (granting_entry account set) o) IsEntryNamed
    by None = tt
    by (Some request) = granting_named account set request h

some_grant : (account : Account) (a : NoteAct) (o : Option DataSet) → IfSome o HasEntries → IfSome (option_and_then (grant account a) o) IsEntryNamed
some_grant account a None h = tt
some_grant account a (Some set) h = grant_named account a set h

pub request_sound : (e : Exchanged) → IsSoundExchange e → IsSoundRequest (asked_of e.number e.account e.reach e.request) e.answer
request_sound e h =
    let tie = tie_at e.reach.units (unit_of e.request.act) in
    record {
      account = h.account;
      target = h.target;
      grant = some_grant e.account (note_act e.request.act) (option_and_then (λ name. find_set name e.reach.sets) (set_at e.request.act tie.target))
          (looked_named e.reach.sets h.sets (set_at e.request.act tie.target));
      reason = h.reason;
    }
