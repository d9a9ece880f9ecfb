-- What events leave as it was: that the names of data sets differ; and of a job that goes on, what its units are tied to.
use Rattle.std.proofs.Common.{◌≡◌, ℕ, zero, suc, nat_eq, Bool, true, false, List, [], ◌∷◌, length, Option, Some, None, ◌⊎◌, inl, inr, refl, sym, ap, subst, ◌∙◌, slice_get, slice_set, if◌then◌else◌, bytes_eq}
use Rattle.std.specs.{List.{IsDistinct}, Cmp.Lexicographic.{pointwise}, Option.{option_flatten}, Prelude.{drop, replicate}}
use Rattle.std.proofs.lemmas.Slice.Eq.{bytes_eq-Decides}
use Rattle.sno_run.specs.{declared.ending.Step.{Step}, Jobs.{turn_of}}
use Rattle.sno_run.specs.declared.ending.Step.TheVariants as step
use Rattle.mon_access.specs.{declared.account.Account.{Account}, Accounts.{find_account}}
use Rattle.mon_catalogue.specs.Sets.{Sets, NamesDiffer}
use Rattle.deck_lines.specs.{declared.command.Command.{Command}, Commands.{account_of}}
use Rattle.mon_command.{specs.Commanded.{commanded}, proofs.Shorthand.{served_if_known}}
use Rattle.mon_unit.{specs.Laws.{targets, KeepsToTies}, proofs.Looks.{run_keeps_to_ties, cut_keeps_to_ties}}
use Rattle.scheduler.specs.{States.{SlotState, SchedulerState, scheduler, seat_at, with_seat, job_in}, Turns.{reached, after_turn, seat, ends_by}}
use Rattle.scheduler.{specs.inner.Parts.{ends_then}, proofs.Shorthand.{turn_as_by, broken_by}}
use Rattle.scheduler.specs.Marks.{Mark, Marks, mark_of, exchanges_at, may_break, ran_as, turn_as, Past, nothing, until, never, rounds, turns_left, is_done, has_free_slot}
use Rattle.mon_monitor.specs.{SystemStates.{SystemState}, Events.{Event, Serve, Load, Give, Drain}, Played.{happened, played}, Isolation.{CommandsAgree}}
use Rattle.mon_monitor.specs.{Agreeing.{LooksAlike, Both, Agree}, Abstraction.{system}}

-- A TURN

broken_keeps : (b : Bool) (m : Mark) (slot : SlotState) (sets : Sets) → KeepsToTies (reached sets slot) (broken_by b m slot sets).1
broken_keeps false m slot sets = run_keeps_to_ties slot.account (reached sets slot) (turn_of slot.job)
broken_keeps true m slot sets = cut_keeps_to_ties slot.account (reached sets slot) (exchanges_at m slot sets) (turn_of slot.job)

ran_keeps : (m : Option Mark) (slot : SlotState) (sets : Sets) → KeepsToTies (reached sets slot) (ran_as m slot sets).1
ran_keeps None slot sets = run_keeps_to_ties slot.account (reached sets slot) (turn_of slot.job)
ran_keeps (Some m) slot sets = broken_keeps (may_break slot.job) m slot sets

-- who sits in a slot after one was changed
changed_seat : (slots : List (Option SlotState)) (i j : ℕ) (o : Option SlotState) (x : SlotState) → option_flatten (slice_get (slice_set slots i o) j) ≡ Some x
    → (option_flatten (slice_get slots j) ≡ Some x) ⊎ ((j ≡ i) × (o ≡ Some x))
changed_seat [] i j o x h = inl h
changed_seat (z ∷ slots) zero zero o x h = inr (refl, h)
changed_seat (z ∷ slots) zero (suc j) o x h = inl h
changed_seat (z ∷ slots) (suc i) zero o x h = inl h
changed_seat (z ∷ slots) (suc i) (suc j) o x h = elim (changed_seat slots i j o x h) [
  | inl was ↦ inl was
  | inr now ↦ inr (ap suc now.0, now.1)
]

pub seat_then : (s t : ℕ) (o : Option SlotState) (slots : List (Option SlotState)) (x : SlotState) → seat_at t (with_seat s o slots) ≡ Some x
    → (seat_at t slots ≡ Some x) ⊎ ((t ≡ s) × (o ≡ Some x))
seat_then zero t o slots x h = inl h
seat_then (suc i) zero o slots x h = inl h
seat_then (suc i) (suc j) o slots x h = elim (changed_seat slots i j o x h) [
  | inl was ↦ inl was
  | inr now ↦ inr (ap suc now.0, now.1)
]

-- each job there was there before, tied to the same
pub record Follows (v w : SchedulerState) : Type 0 where
  pub was : (s : ℕ) (x : SlotState) → job_in s v ≡ Some x → (y : SlotState) × (job_in s w ≡ Some y) × (targets x.units ≡ targets y.units)

pub follows_itself : (w : SchedulerState) → Follows w w
follows_itself w = record { was = λ s x h. (x, h, refl) }

follows_both : (u v w : SchedulerState) → Follows u v → Follows v w → Follows u w
follows_both u v w f g = record {
  was = λ s x h.
      let y = f.was s x h in
      let z = g.was s y.0 y.1 in
      (z.0, z.1, y.2 ∙ z.2);
}

-- who goes on is the one that had the turn
goes_on : (st : Step) (slot x : SlotState) → seat st slot ≡ Some x → slot ≡ x
goes_on step.Goes slot x h = cc (h)
goes_on (step.Ended ending) slot x h = absurd cc

-- what a turn leaves
record Left (v w : SchedulerState) : Type 0 where
  pub names : NamesDiffer w.sets → NamesDiffer v.sets
  pub follows : Follows v w

turn_left : (m : Option Mark) (s : ℕ) (o : Option SlotState) (w : SchedulerState) → job_in s w ≡ o → Left (turn_as_by m s o w).1 w
turn_left m s None w e = record { names = λ h. h; follows = follows_itself w }
turn_left m s (Some slot) w e =
    let r = ran_as m slot w.sets in
    let kept = ran_keeps m slot w.sets in
    let x = after_turn slot r in
    record {
      names = subst (IsDistinct (pointwise nat_eq)) (sym kept.names);
      follows = record {
        was = λ t y h. elim (seat_then s t (seat r.0.0 x) w.slots y h) [
          | inl was ↦ (y, was, refl)
          | inr now ↦ (
            slot,
            subst (λ (i : ℕ). job_in i w ≡ Some slot) (sym now.0) e,
            ap (λ (z : SlotState). targets z.units) (sym (goes_on r.0.0 x y now.1)) ∙ kept.targets,
          )
        ];
      };
    }

one_of : (b : Bool) (p q : Past) (w : SchedulerState) → Left p.after w → Left q.after w → Left (if b then p else q).after w
one_of true p q w f g = f
one_of false p q w f g = g

until_left : (stop : SchedulerState → Bool) (E : List ℕ) (m : Marks) (w : SchedulerState) → Left (until stop E m w).after w
until_left stop [] m w = record { names = λ h. h; follows = follows_itself w }
until_left stop (s ∷ E) m w =
    let t = turn_as (mark_of m) s w in
    let p = until stop E (drop 1 m) t.1 in
    let first = turn_left (mark_of m) s (job_in s w) w refl in
    let rest = until_left stop E (drop 1 m) t.1 in
    one_of (stop w) (nothing m w) (ends_then (ends_by s t.0) p) w (record { names = λ h. h; follows = follows_itself w })
    (record { names = λ h. rest.names (first.names h); follows = follows_both p.after t.1 w rest.follows first.follows })

pub until_follows : (stop : SchedulerState → Bool) (E : List ℕ) (m : Marks) (w : SchedulerState) → Follows (until stop E m w).after w
until_follows stop E m w = (until_left stop E m w).follows

until_names : (stop : SchedulerState → Bool) (E : List ℕ) (m : Marks) (w : SchedulerState) → NamesDiffer w.sets → NamesDiffer (until stop E m w).after.sets
until_names stop E m w = (until_left stop E m w).names

-- A COMMAND

all_like : (account : Account) (sets : Sets) → Both (LooksAlike account) sets sets
all_like account [] = tt
all_like account (e ∷ sets) =
    (refl, record { owner = refl; group = refl; mode = refl; acl = refl; owned = λ h. refl; read = λ h. refl; counted = λ h. refl; added = λ m h. refl }, all_like account sets)

-- an account that is found has the name that was looked for
found_name : (accounts : List Account) (name : List ℕ) (account : Account) → find_account accounts name ≡ Some account → name ≡ account.name
found_name [] name account h = absurd cc
found_name (a ∷ accounts) name account h = by (bytes_eq name a.name) refl h (found_name accounts name account)
  where
    by : (b : Bool) → bytes_eq name a.name ≡ b → (if b then Some a else find_account accounts name) ≡ Some account
        → (find_account accounts name ≡ Some account → name ≡ account.name) → name ≡ account.name
    by true e h rest = (bytes_eq-Decides name a.name).0 e ∙ ap (λ (b : Account). b.name) (let same : a ≡ account = cc (h) in same)
    by false e h rest = rest h

module _ (commands : CommandsAgree) where
  command_names : (accounts : List Account) (sets : Sets) (command : Command) → NamesDiffer sets → NamesDiffer (commanded accounts sets command).sets
  command_names accounts sets command differ = by (find_account accounts (account_of command)) refl
    where
      by : (o : Option Account) → find_account accounts (account_of command) ≡ o → NamesDiffer (commanded accounts sets command).sets
      by None e = subst (λ (o : Option Account). NamesDiffer (served_if_known o command sets).sets) (sym e) differ
      by (Some account) e =
          let name = found_name accounts (account_of command) account e in
          let w : SystemState = system accounts (scheduler sets []) in
          let agree : Agree account w w = record {
            accounts = refl;
            known = subst (λ (n : List ℕ). find_account accounts n ≡ Some account) name e;
            scheduler = record {
              slots = refl;
              own = λ s slot h. absurd (no_job s slot h);
              names = differ;
              sets = all_like account sets;
              ties = λ s slot h. absurd (no_job s slot h);
            };
          } in
          (commands account w w agree command name).after.scheduler.names
        where
          no_job : (s : ℕ) (slot : SlotState) → seat_at s [] ≡ Some slot → ⊥
          no_job zero slot h = cc
          no_job (suc i) slot h = cc

  event_names : (event : Event) (m : Marks) (w : SystemState) → NamesDiffer w.scheduler.sets → NamesDiffer (happened event m w).after.scheduler.sets
  event_names (Serve command) m w differ = command_names w.accounts w.scheduler.sets command differ
  event_names (Load deck) m w differ = until_names has_free_slot (rounds (turns_left w.scheduler.slots) (length w.scheduler.slots)) m w.scheduler differ
  event_names (Give slot count) m w differ = until_names never (replicate count slot) m w.scheduler differ
  event_names Drain m w differ = until_names is_done (rounds (turns_left w.scheduler.slots) (length w.scheduler.slots)) m w.scheduler differ

  pub played_names : (events : List Event) (m : Marks) (w : SystemState) → NamesDiffer w.scheduler.sets → NamesDiffer (played events m w).after.scheduler.sets
  played_names [] m w differ = differ
  played_names (event ∷ events) m w differ =
      let p = happened event m w in
      played_names events p.marks p.after (event_names event m w differ)
