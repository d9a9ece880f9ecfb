-- Turns of a job that is alone: each is a round.
use Rattle.std.proofs.Common.{◌≡◌, ◌≢◌, ℕ, zero, suc, ◌+◌, ◌-◌, ◌<◌, ◌≤◌, true, false, List, [], ◌∷◌, length, Option, Some, None, refl, ap, sym, ◌∙◌, subst, inl, inr, arith, ◌⊎◌, is_some, is_none, IsSome, slice_get, slice_set, position, drop}
use Rattle.scheduler.proofs.Common.{position_from-zero, range_with_len, position_from, list_all, option_flatten, Standing, Puts, puts_nothing, Sets, Ending, Step, JobEnd, Slot, Empty, seat_of, seats_of, SlotState, SchedulerState, scheduler, seat_at, with_seat, job_in, job_end, seat, turns_left, is_done, end_lines, TurnOr, ended_in, Stepped, jobs_in, Ahead, Going, IsLone, GoesOn, GoesToEnd, EndStays, SeatEnds, LoneEnds, Turned, Goes, told}
use Rattle.sno_run.specs.declared.ending.Step.TheVariants as step
use Rattle.scheduler.proofs.{Shorthand.{turns_ahead}, Seats.{set_get, set_set, map_set, none_at, none_of, seated_not_done}, Seating.{seat_changed, taken_seat}}
use Rattle.scheduler.proofs.{Past.{either_way, Falls, falls, with_less}, Calls.{empty_turn, stepped_turn, with_jobs, seat_is}}
use Rattle.scheduler.proofs.Rounding.{append_empty, begin, ahead_skip, ahead_more, going_begins, going_more}

-- THE SEAT

-- the first seat with a job, among those that are left
record First (slots : List (Option Slot)) (n s : ℕ) : Type 0 where
  pub place : ℕ
  pub number : s ≡ n + place
  pub job : IsSome (option_flatten (slice_get (seats_of slots) place))
  pub others : list_all (λ seat. is_none seat) (drop (suc place) slots) ≡ true → (j : ℕ) → j ≢ place → option_flatten (slice_get (seats_of slots) j) ≡ None

others_behind : (x : Slot) (slots : List (Option Slot)) → list_all (λ seat. is_none seat) slots ≡ true → (j : ℕ) → j ≢ 0
    → option_flatten (slice_get (seats_of (Some x ∷ slots)) j) ≡ None
others_behind x slots empty zero other = absurd (other refl)
others_behind x slots empty (suc j) other = none_at (seats_of slots) (sym (none_of slots) ∙ empty) (suc j)

first_behind : (n s : ℕ) (slots : List (Option Slot)) → First slots (n + 1) s → First (None ∷ slots) n s
first_behind n s slots rest = record {
  place = suc rest.place;
  number = (let e = rest.number in omega (arith, e));
  job = rest.job;
  others = by;
}
  where
    by : list_all (λ seat. is_none seat) (drop (suc rest.place) slots) ≡ true → (j : ℕ) → j ≢ suc rest.place → option_flatten (slice_get (seats_of (None ∷ slots)) j) ≡ None
    by empty zero other = refl
    by empty (suc j) other = rest.others empty j (λ e. other (ap suc e))

first_at : (n : ℕ) (slots : List (Option Slot)) (s : ℕ) → position_from (λ seat. is_some seat) n slots ≡ Some s → First slots n s
first_at n [] s h = absurd cc
first_at n (Some x ∷ slots) s h = record {
  place = 0;
  number = (let e : n ≡ s = cc (h) in omega (arith, e));
  job = refl;
  others = others_behind x slots;
}
first_at n (None ∷ slots) s h = first_behind n s slots (first_at (n + 1) slots s h)

-- a job is alone where the seats behind the first that has one are empty
pub lone_at : (slots : List (Option Slot)) (i : ℕ) → position (λ seat. is_some seat) slots ≡ Some i → list_all (λ seat. is_none seat) (drop (i + 1) slots) ≡ true → IsLone (i + 1) (seats_of slots)
lone_at slots i is empty =
    let e : suc i ≡ i + 1 = omega arith in
    subst (λ (s : ℕ). IsLone s (seats_of slots)) e (job, others)
  where
    first : First slots 0 i
    first = first_at 0 slots i (sym (position_from-zero (λ seat. is_some seat) slots) ∙ is)

    same : first.place ≡ i
    same = (let e = first.number in omega (arith, e))

    next : i + 1 ≡ suc first.place
    next = (let e = first.number in omega (arith, e))

    job : IsSome (seat_at (suc i) (seats_of slots))
    job = subst (λ (k : ℕ). IsSome (option_flatten (slice_get (seats_of slots) k))) same first.job

    others : (j : ℕ) → j ≢ suc i → seat_at j (seats_of slots) ≡ None
    others zero other = refl
    others (suc j) other =
        first.others (subst (λ (k : ℕ). list_all (λ seat. is_none seat) (drop k slots) ≡ true) next empty) j (λ e. other (ap suc (e ∙ same)))

get_within : (slots : List (Option SlotState)) (i : ℕ) → IsSome (option_flatten (slice_get slots i)) → i < length slots
get_within [] i h = absurd cc
get_within (x ∷ slots) zero h = omega arith
get_within (x ∷ slots) (suc i) h = let k = get_within slots i h in omega (arith, k)

-- A SEAT THAT IS CHANGED

seat_kept : (s : ℕ) (slots : List (Option SlotState)) (slot : SlotState) → seat_at s slots ≡ Some slot → with_seat s (Some slot) slots ≡ slots
seat_kept zero slots slot is = refl
seat_kept (suc i) slots slot is = set_get slots i (Some slot) (by (slice_get slots i) is)
  where
    by : (o : Option (Option SlotState)) → option_flatten o ≡ Some slot → o ≡ Some (Some slot)
    by None h = absurd cc
    by (Some x) h = ap (λ (y : Option SlotState). Some y) h

seat_twice : (s : ℕ) (o o' : Option SlotState) (slots : List (Option SlotState)) → with_seat s o' (with_seat s o slots) ≡ with_seat s o' slots
seat_twice zero o o' slots = refl
seat_twice (suc i) o o' slots = set_set slots i o o'

module _ (s : ℕ) (slots : List (Option SlotState)) (slot : SlotState) (o : Option SlotState) (is : seat_at s slots ≡ Some slot) where
  seat_placed : seat_at s (with_seat s o slots) ≡ o
  seat_placed = elim (seat_changed s s o slots (taken_seat s slots slot is)) [
    | inl same ↦ same.1
    | inr not ↦ absurd (not.0 refl)
  ]

  seat_beside : (j : ℕ) → j ≢ s → seat_at j (with_seat s o slots) ≡ seat_at j slots
  seat_beside j other = elim (seat_changed s j o slots (taken_seat s slots slot is)) [
    | inl same ↦ absurd (other same.0)
    | inr not ↦ not.1
  ]

lone_with : (s : ℕ) (slots : List (Option SlotState)) (slot slot' : SlotState) → seat_at s slots ≡ Some slot → IsLone s slots → IsLone s (with_seat s (Some slot') slots)
lone_with s slots slot slot' is lone =
    (ap is_some (seat_placed s slots slot (Some slot') is), λ j other. seat_beside s slots slot (Some slot') is j other ∙ lone.1 j other)

-- A ROUND

module _ (E : List ℕ) (w : SchedulerState) (x : Standing) where
  -- empty slots before the job's
  before : (k a m n b : ℕ) → n ≡ k + m → b ≡ a + k → is_done w ≡ false → ((j : ℕ) → j < b → job_in j w ≡ None)
      → Ahead is_done E w [] (range_with_len a n) w x x → Ahead is_done E w [] (range_with_len b m) w x x
  before zero a m n b size number busy none h =
      let e : n ≡ m = omega (arith, size) in
      let f : a ≡ b = omega (arith, number) in
      subst (λ (k : ℕ). Ahead is_done E w [] (range_with_len k m) w x x) f (subst (λ (k : ℕ). Ahead is_done E w [] (range_with_len a k) w x x) e h)
  before (suc k) a m n b size number busy none h =
      let e : n ≡ suc (k + m) = omega (arith, size) in
      let here : Ahead is_done E w [] (a ∷ range_with_len (a + 1) (k + m)) w x x = subst (λ (i : ℕ). Ahead is_done E w [] (range_with_len a i) w x x) e h in
      before k (a + 1) m (k + m) b refl (omega (arith, number)) busy none
      (ahead_more is_done E w [] [] a (range_with_len (a + 1) (k + m)) w w Empty x x x busy here (empty_turn a w x (none a (omega (arith, number)))) refl)

  -- and behind it
  behind : (m a : ℕ) (ends : List JobEnd) (v : SchedulerState) (y : Standing) → ((j : ℕ) → a ≤ j → job_in j v ≡ None)
      → Ahead is_done E w ends (range_with_len a m) v x y → Ahead is_done E w ends [] v x y
  behind zero a ends v y none h = h
  behind (suc m) a ends v y none h = behind m (a + 1) ends v y (λ j less. none j (omega (arith, less))) (by (either_way (is_done v)))
    where
      by : (is_done v ≡ true) ⊎ (is_done v ≡ false) → Ahead is_done E w ends (range_with_len (a + 1) m) v x y
      by (inl done) = ahead_skip is_done E w ends a (range_with_len (a + 1) m) v x y done h
      by (inr busy) = ahead_more is_done E w ends ends a (range_with_len (a + 1) m) v v Empty x y y busy h (empty_turn a v y (none a (omega arith))) (sym (append_empty ends))

-- the turn of the job that is alone is a whole round
lone_round : (s : ℕ) (w : SchedulerState) (sets' : Sets) (slot : SlotState) (o : Option SlotState) (t : Turned) (x y : Standing) → job_in s w ≡ Some slot → IsLone s w.slots
    → TurnOr s w t (scheduler sets' (with_seat s o w.slots)) x y → Ahead is_done (range_with_len 1 (length w.slots)) w (ended_in t) [] (scheduler sets' (with_seat s o w.slots)) x y
lone_round zero w sets' slot o t x y is lone one = absurd (let k : None ≡ Some slot = is in cc (k))
lone_round (suc i) w sets' slot o t x y is lone one =
    let E = range_with_len 1 (length w.slots) in
    let w' : SchedulerState = scheduler sets' (with_seat (suc i) o w.slots) in
    let busy = seated_not_done (suc i) w.slots lone.0 in
    let within = get_within w.slots i lone.0 in
    let m : ℕ = length w.slots - suc i in
    let size : length w.slots ≡ i + suc m = omega (arith, within) in
    let here : Ahead is_done E w [] (range_with_len (suc i) (suc m)) w x x =
    before E w x i 1 (suc m) (length w.slots) (suc i) size (omega arith) busy (λ j less. lone.1 j (λ e. omega (arith, e, less))) (begin is_done E w x) in
    let turned : Ahead is_done E w (ended_in t) (range_with_len (suc i + 1) m) w' x y =
    ahead_more is_done E w [] (ended_in t) (suc i) (range_with_len (suc i + 1) m) w w' t x x y busy here one refl in
    behind E w x m (suc i + 1) (ended_in t) w' y
    (λ j more. seat_beside (suc i) w.slots slot o is j (λ e. omega (arith, e, more)) ∙ lone.1 j (λ e. omega (arith, e, more))) turned

-- TURNS

pub goes_begins : (slot : SlotState) (sets : Sets) (a : Standing) → GoesOn slot sets slot sets a a
goes_begins slot sets a = record {
  rounds = λ s slots is lone.
      subst (λ (l : List (Option SlotState)). Going is_done (scheduler sets slots) [] (scheduler sets l) a a) (sym (seat_kept s slots slot is)) (going_begins is_done (scheduler sets slots) a);
}

module _ (slot : SlotState) (sets : Sets) (now : SlotState) (sets' : Sets) (after : SlotState) (sets_after : Sets) (a b c : Standing) (on : GoesOn slot sets now sets' a b) where
  -- one more is a round more
  one_more : (st : Step) (d : Standing) → Stepped now sets' st after sets_after b c → Puts c d (end_lines (told st after)) → (s : ℕ) (slots : List (Option SlotState)) → seat_at s slots ≡ Some slot
      → IsLone s slots → Going is_done (scheduler sets slots) (ended_in (told st after)) (scheduler sets_after (with_seat s (seat st after) slots)) a d
  one_more st d one put s slots is lone =
      let there : List (Option SlotState) = with_seat s (Some now) slots in
      let taken : seat_at s there ≡ Some now = seat_placed s slots slot (Some now) is in
      let still : IsLone s there = lone_with s slots slot now is lone in
      let turn : TurnOr s (scheduler sets' there) (told st after) (scheduler sets_after (with_seat s (seat st after) there)) b d =
      stepped_turn s sets' sets_after there now after b c d taken st one put in
      let round = lone_round s (scheduler sets' there) sets_after now (seat st after) (told st after) b d taken still turn in
      subst (λ (l : List (Option SlotState)). Going is_done (scheduler sets slots) (ended_in (told st after)) (scheduler sets_after l) a d) (seat_twice s (Some now) (seat st after) slots)
      (going_more is_done (scheduler sets slots) [] (scheduler sets' there) (scheduler sets_after (with_seat s (seat st after) there)) (ended_in (told st after)) a b d
      (λ v size done. done) (seated_not_done s there still.0) (on.rounds s slots is lone) round)

  pub goes_more : (st : Step) → st ≡ step.Goes → Stepped now sets' st after sets_after b c → GoesOn slot sets after sets_after a c
  goes_more st goes one = record { rounds = one_more step.Goes c (subst (λ (k : Step). Stepped now sets' k after sets_after b c) goes one) (puts_nothing c) }

  pub goes_to_end : (st : Step) (e : Ending) → st ≡ step.Ended e → Stepped now sets' st after sets_after b c → GoesToEnd slot sets e after sets_after a c
  goes_to_end st e ended one = record { rounds = λ d put. one_more (step.Ended e) d (subst (λ (k : Step). Stepped now sets' k after sets_after b c) ended one) put }

-- and leaves fewer turns
pub goes_less : (slot : SlotState) (sets : Sets) (slot' : SlotState) (sets' : Sets) (st : Step) (a b : Standing) → st ≡ step.Goes → Stepped slot sets st slot' sets' a b
    → turns_ahead (Some slot') < turns_ahead (Some slot)
goes_less slot sets slot' sets' st a b goes h =
    let w : SchedulerState = scheduler sets (Some slot ∷ []) in
    let w' : SchedulerState = scheduler sets' (Some slot' ∷ []) in
    let one : TurnOr 1 w Goes w' a b =
    stepped_turn 1 sets sets' (Some slot ∷ []) slot slot' a b b refl step.Goes (subst (λ (k : Step). Stepped slot sets k slot' sets' a b) goes h) (puts_nothing b) in
    by (subst (λ (p : Turned × SchedulerState). Falls 1 w p.1) one.is (falls one.mark 1 w))
  where
    by : Falls 1 (scheduler sets (Some slot ∷ [])) (scheduler sets' (Some slot' ∷ [])) → turns_ahead (Some slot') < turns_ahead (Some slot)
    by (inl none) = absurd (let k : Some slot ≡ None = none.0 in cc (k))
    by (inr less) = omega (arith, less)

-- THE SLOTS

module _ (s : ℕ) (sets sets' : Sets) (slots : List (Option SlotState)) (a b : Standing) (lone : IsLone s slots) where
  ended_in_slots : (slot : SlotState) (r : Option Ending) (seat' : Option SlotState) → seat_at s slots ≡ Some slot → (h : EndStays slot sets r seat' sets' a b)
      → LoneEnds s (scheduler sets slots) h.ending (scheduler sets' (with_seat s (Some h.after) slots)) a b
  ended_in_slots slot r seat' is h =
      let left : List (Option SlotState) = with_seat s None slots in
      let out : left ≡ with_seat s None (with_seat s (Some h.after) slots) = sym (seat_twice s (Some h.after) None slots) in
      let jobs = with_jobs s slots slot None is in
      let jobs_left : suc (jobs_in left) ≡ jobs_in slots = omega (arith, jobs) in
      record {
        slot = h.after;
        there = seat_placed s slots slot (Some h.after) is;
        is = λ c put.
            subst (λ (l : List (Option SlotState)). Going is_done (scheduler sets slots) (job_end h.after h.ending ∷ []) (scheduler sets' l) a c) out (h.goes.rounds c put s slots is lone);
        less = subst (λ (l : List (Option SlotState)). suc (turns_left l) ≤ turns_left slots) out (with_less s slots slot None is (omega arith));
        jobs = subst (λ (l : List (Option SlotState)). suc (jobs_in l) ≡ jobs_in slots) out jobs_left;
      }

  seat_ends : (o : Option SlotState) (r : Option Ending) (seat' : Option SlotState) (e : Ending) → seat_at s slots ≡ o → SeatEnds o sets r seat' sets' a b → r ≡ Some e
      → LoneEnds s (scheduler sets slots) e (scheduler sets' (with_seat s seat' slots)) a b
  seat_ends None r seat' e is h tells = absurd (let job = lone.0 in cc (job, is))
  seat_ends (Some slot) r seat' e is h tells =
      let same : h.ending ≡ e = (let t = h.tells in cc (t, tells)) in
      subst (λ (o : Option SlotState). LoneEnds s (scheduler sets slots) e (scheduler sets' (with_seat s o slots)) a b) (sym h.stays)
      (subst (λ (x : Ending). LoneEnds s (scheduler sets slots) x (scheduler sets' (with_seat s (Some h.after) slots)) a b) same (ended_in_slots slot r seat' is h))

  pub seat_tells : (o : Option SlotState) (r : Option Ending) (seat' : Option SlotState) → seat_at s slots ≡ o → SeatEnds o sets r seat' sets' a b → IsSome r
  seat_tells None r seat' is h = absurd (let job = lone.0 in cc (job, is))
  seat_tells (Some slot) r seat' is h = ap is_some h.tells

-- those of the program
pub slots_end : (i s : ℕ) (sets sets' : Sets) (slots : List (Option Slot)) (o o' : Option Slot) (r : Option Ending) (e : Ending) (a b : Standing) → s ≡ suc i → slice_get slots i ≡ Some o
    → IsLone s (seats_of slots) → SeatEnds (seat_of o) sets r (seat_of o') sets' a b → r ≡ Some e
    → LoneEnds s (scheduler sets (seats_of slots)) e (scheduler sets' (seats_of (slice_set slots i o'))) a b
slots_end i s sets sets' slots o o' r e a b number is lone h tells =
    let changed : with_seat s (seat_of o') (seats_of slots) ≡ seats_of (slice_set slots i o') =
    ap (λ (n : ℕ). with_seat n (seat_of o') (seats_of slots)) number ∙ sym (map_set seat_of slots i o') in
    subst (λ (l : List (Option SlotState)). LoneEnds s (scheduler sets (seats_of slots)) e (scheduler sets' l) a b) changed
    (seat_ends s sets sets' (seats_of slots) a b lone (seat_of o) r (seat_of o') e (seat_is i s slots o number is) h tells)
