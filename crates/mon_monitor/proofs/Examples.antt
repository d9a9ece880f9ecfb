-- What is no history: of a small system, lists that differ from its history in one place.
use Rattle.std.proofs.Common.{◌≡◌, ℕ, zero, suc, List, [], ◌∷◌, ◌++◌, map, Option, Some, None, refl, sym, ap, ◌∙◌, subst, inl, inr, ◌⊎◌, codes}
use Rattle.mon_monitor.proofs.Common.{Exchange, Act, Read, Write, Done, Got, Denied, Normal, Job, turns_of, first_job, statements_of, Program, UserObj, GroupObj, Other, Account, find_account, Seq, Sets, By, Note, UnitState, serve, JobDeck, JobEnd, SlotState, seat_at, first_units, with_ties, program_in, SystemState, first_system, Event, Load, Drain, played, Exchanged, Entered, Asked, history, exchanges, Follow, EndsSo, IsJob, IsHistory, ann, no_perms, all_perms, Answer, Memory, Entry, Ended, noted}
use Rattle.mon_access.specs.AccessCheck.{decision}
use Rattle.interaction.specs.Asking.{IsTrace}
use Rattle.sno_run.specs.declared.ending.Step.TheVariants as step
use Rattle.mon_guard.specs.Owning.{plain}
use Rattle.mon_unit.specs.declared.note.NoteAct.TheVariants as act
use Rattle.mon_unit.specs.declared.note.NoteTarget.TheVariants as target
use Rattle.mon_unit.specs.declared.note.Why.TheVariants as why
use Rattle.mon_monitor.proofs.Telling.{asked_alone}

-- A WORLD OF TWO JOBS

abbrev bob : Account
bob = record { name = codes "BOB"; primary = codes "SALES"; groups = [] }

-- ann's data set, of one record, for herself alone
abbrev sets : Sets
sets = (
  codes "PAY",
  record {
    owner = codes "ANN";
    group = codes "DESK";
    mode = Seq;
    acl = plain UserObj all_perms ∷ plain GroupObj no_perms ∷ plain Other no_perms ∷ [];
    records = codes "ANN 900" ∷ [];
  },
) ∷ []

-- a job that copies one record of it
abbrev copies : ℕ → Account → JobDeck
copies n account = record {
  number = n;
  account = account.name;
  limits = record { statements = 2; steps = 10 };
  ties = record { unit = 5; set = codes "PAY" } ∷ [];
  lines = codes " OUTPUT = INPUT" ∷ codes "END" ∷ [];
}

-- bob's, and then ann's, in one slot
abbrev events : List Event
events = Load (copies 1 bob) ∷ Load (copies 2 ann) ∷ Drain ∷ []

abbrev w : SystemState
w = first_system 1 (bob ∷ ann ∷ []) sets

-- ITS HISTORY

abbrev first : UnitState
first = with_ties (copies 1 bob).ties (first_units (copies 1 bob).lines)

abbrev asks : ℕ → Account → UnitState → Act → Answer → Exchanged
asks n account units q a = record {
  number = n;
  account = account;
  reach = record { sets = sets; units = units };
  request = record { statement = 1; act = q };
  answer = a;
}

abbrev denied : Answer
denied = Denied (By Other None)

abbrev got : Answer
got = Got (codes "ANN 900")

abbrev bobs_note : Note
bobs_note = record { statement = 1; act = act.Read; target = target.Set (codes "PAY"); why = why.Denied (By Other None) }

abbrev end_of : ℕ → Account → List (List ℕ) → List Note → JobEnd
end_of n account spool notes = record { number = n; account = account.name; spool = spool; notes = notes; ending = Normal; statements = 1 }

-- all of a job that has ended
abbrev whole : ℕ → Account → List Exchanged → JobEnd → List Entry
whole n account asked end = Entered (copies n account) ∷ (map Asked asked ++ Ended end ∷ [])

abbrev bobs : List Entry
bobs = whole 1 bob (asks 1 bob first (Read 5) denied ∷ []) (end_of 1 bob [] (bobs_note ∷ []))

abbrev ann_reads : Exchanged
ann_reads = asks 2 ann first (Read 5) got

abbrev ann_writes : Exchanged
ann_writes = asks 2 ann (serve ann ann_reads.reach ann_reads.request).1.units (Write 6 (codes "ANN 900")) Done

abbrev anns_end : JobEnd
anns_end = end_of 2 ann (codes "ANN 900" ∷ []) []

its_history : history events [] w ≡ bobs ++ whole 2 ann (ann_reads ∷ ann_writes ∷ []) anns_end
unfolding decision
its_history = refl

-- WHAT IS NOT

abbrev IsIts : List Entry → Type 0
IsIts entries = let p = played events [] w in IsHistory events w entries p.printouts p.after

-- the end of a job whose cards spell this program, if they spell one
abbrev EndsAs : JobDeck → Option Program → List Exchange → JobEnd → Type 0
EndsAs deck None x end = ⊥
EndsAs deck (Some p) x end = EndsSo (first_job p deck.limits) x end

record Said (deck : JobDeck) (asked : List Exchanged) (end : JobEnd) : Type 0 where
  account : Account
  known : find_account w.accounts deck.account ≡ Some account
  units : UnitState
  follow : Follow deck.number account (with_ties deck.ties (first_units deck.lines)) asked units
  ends : EndsAs deck (program_in (statements_of deck.lines)) (exchanges asked) end
  notes : end.notes ≡ noted asked

-- what such a job asked, where memory did not break it off
ended : (start : Job) (x : List Exchange) (end : JobEnd) → EndsSo start x end
    → ((job : Job) × IsTrace (turns_of (suc start.limits.statements) start) x (step.Ended end.ending, job)) ⊎ (end.ending ≡ Memory)
ended start x end h = elim h.ends [
  | inl tells ↦ inl (tells.0, asked_alone (suc start.limits.statements) start (step.Ended end.ending, tells.0) h.passed x h.asked tells.1)
  | inr broken ↦ inr broken.0
]

parts : (x y : List Exchanged) (a b : JobEnd) → map Asked x ++ Ended a ∷ [] ≡ map Asked y ++ Ended b ∷ [] → (x ≡ y) × (a ≡ b)
parts [] [] a b h = (refl, cc (h))
parts [] (e ∷ y) a b h = absurd cc
parts (d ∷ x) [] a b h = absurd cc
parts (d ∷ x) (e ∷ y) a b h =
    let same : d ≡ e = cc (h) in
    let more : map Asked x ++ Ended a ∷ [] ≡ map Asked y ++ Ended b ∷ [] = cc (h) in
    let rest = parts x y a b more in
    (let others = rest.0 in cc (same, others), rest.1)

no_seat : (s : ℕ) (slot : SlotState) → seat_at s (None ∷ []) ≡ Some slot → ⊥
no_seat zero slot h = cc
no_seat (suc zero) slot h = cc
no_seat (suc (suc s)) slot h = cc

said : (deck : JobDeck) (asked : List Exchanged) (end : JobEnd) → IsJob w.accounts (None ∷ []) (Some deck) (Entered deck ∷ (map Asked asked ++ Ended end ∷ [])) → Said deck asked end
said deck asked end (inl h) = absurd (let is = h.all in cc (is))
said deck asked end (inr (inl h)) = absurd (no_seat h.slot h.state h.sits)
said deck asked end (inr (inr h)) =
    let all = h.all in
    let same = parts asked h.course.asked end h.end (cc (all)) in
    let ends : EndsAs deck (Some h.course.program) (exchanges h.course.asked) h.end = h.asks in
    record {
      account = h.course.account;
      known = h.course.known;
      units = h.course.units;
      follow = subst (λ (x : List Exchanged). Follow deck.number h.course.account (with_ties deck.ties (first_units deck.lines)) x h.course.units) (sym same.0) h.course.follow;
      ends =
          subst (λ (o : Option Program). EndsAs deck o (exchanges asked) end) (sym h.course.spelled)
          (subst (λ (x : List Exchanged). EndsAs deck (Some h.course.program) (exchanges x) end) (sym same.0)
          (subst (λ (e : JobEnd). EndsAs deck (Some h.course.program) (exchanges h.course.asked) e) (sym same.1) ends));
      notes = ap (λ (e : JobEnd). e.notes) same.1 ∙ h.notes ∙ ap noted (sym same.0);
    }

a_read_left_out : IsIts (bobs ++ whole 2 ann (ann_writes ∷ []) anns_end) → ⊥
unfolding decision
a_read_left_out h = elim (ended _ _ anns_end (said (copies 2 ann) (ann_writes ∷ []) anns_end (h.jobs 2)).ends) [
  | inl tells ↦ let is = tells.1.0 in cc (is)
  | inr broken ↦ cc (broken)
]

abbrev bobs_among_hers : List Exchanged
bobs_among_hers = ann_reads ∷ asks 2 bob first (Read 5) denied ∷ ann_writes ∷ []

an_exchange_of_another_job : IsIts (bobs ++ whole 2 ann bobs_among_hers anns_end) → ⊥
unfolding decision
an_exchange_of_another_job h =
    let s = said (copies 2 ann) bobs_among_hers anns_end (h.jobs 2) in
    let known : Some ann ≡ Some s.account = s.known in
    let is = s.follow.3.1 in
    cc (known, is)

an_answer_that_is_not_the_services : IsIts (whole 1 bob (asks 1 bob first (Read 5) got ∷ []) (end_of 1 bob [] []) ++ whole 2 ann (ann_reads ∷ ann_writes ∷ []) anns_end) → ⊥
unfolding decision
an_answer_that_is_not_the_services h = let is = h.lead.1.0.1 in cc (is)

another_jobs_note : IsIts (bobs ++ whole 2 ann (ann_reads ∷ ann_writes ∷ []) (end_of 2 ann (codes "ANN 900" ∷ []) (bobs_note ∷ []))) → ⊥
unfolding decision
another_jobs_note h =
    let is = (said (copies 2 ann) (ann_reads ∷ ann_writes ∷ []) (end_of 2 ann (codes "ANN 900" ∷ []) (bobs_note ∷ [])) (h.jobs 2)).notes in
    cc (is)

an_end_before_the_talks : IsIts (bobs ++ whole 2 ann (ann_reads ∷ []) (end_of 2 ann [] [])) → ⊥
unfolding decision
an_end_before_the_talks h = elim (ended _ _ (end_of 2 ann [] []) (said (copies 2 ann) (ann_reads ∷ []) (end_of 2 ann [] []) (h.jobs 2)).ends) [
  | inl tells ↦ tells.1.2
  | inr broken ↦ cc (broken)
]
