-- The history of events tells each job's interaction, one after another.
use Rattle.std.proofs.Common.{◌≡◌, ◌≢◌, ◌⊎◌, ◌==◌, ℕ, zero, suc, ◌+◌, ◌-◌, ◌≤◌, Bool, true, false, List, [], ◌∷◌, ◌++◌, map, Option, Some, None, refl, ap, sym, ◌∙◌, subst, inl, inr, arith, append_assoc, append-nil, if◌then◌else◌}
use Rattle.mon_monitor.proofs.Common.{map-append, filter-append, flat_map-append, eqb-true, eqb-false, Exchange, Moment, Beginning, Requesting, MomentFits, IsTracePrefix, requests_in, statements_in, with_request, with_statement, plain_told, Ending, Step, Job, counted_turn, counted_turns, turns_of, statements_begun, Account, Note, UnitState, serve, JobDeck, SlotState, seat_at, with_seat, first_units, with_ties, seat, told, Event, Exchanged, Entered, Asked, end_entry, is_of, own, job_in_cards, exchange, exchanges, Follow, GoesOn, IsJob, job_of, tells_then, begins_then, begins_first, seat_changed, taken_seat, eq-eqb, Answer, Passed, IsTrace, Memory, Entry, spooled, noted}
use Rattle.interaction.specs.Asking as asking
use Rattle.sno_run.specs.declared.ending.Step.TheVariants as step
use Rattle.mon_monitor.{specs.Headline.{Course}, proofs.Exchanging.{Told, follow_both}}

-- WHOSE ENTRIES

pub same_or_not : (a b : ℕ) → (a ≡ b) ⊎ (a ≢ b)
same_or_not a b = by (a == b) refl
  where
    by : (t : Bool) → (a == b) ≡ t → (a ≡ b) ⊎ (a ≢ b)
    by true e = inl (eqb-true a b e)
    by false e = inr (λ is. eqb-false a b e is)

pub not_same : (a b : ℕ) → a ≢ b → (a == b) ≡ false
not_same a b ne = by (a == b) refl
  where
    by : (t : Bool) → (a == b) ≡ t → t ≡ false
    by true e = absurd (ne (eqb-true a b e))
    by false e = refl

-- entries of one job
pub record AreOf (n : ℕ) (xs : List Entry) : Type 0 where
  pub mine : own n xs ≡ xs
  pub others : (k : ℕ) → k ≢ n → own k xs ≡ []

own_of : (n : ℕ) (x : Entry) (xs : List Entry) → is_of n x ≡ true → own n (x ∷ xs) ≡ x ∷ own n xs
own_of n x xs h = ap (λ (b : Bool). if b then x ∷ own n xs else own n xs) h

own_not : (n : ℕ) (x : Entry) (xs : List Entry) → is_of n x ≡ false → own n (x ∷ xs) ≡ own n xs
own_not n x xs h = ap (λ (b : Bool). if b then x ∷ own n xs else own n xs) h

pub none_of : (n : ℕ) → AreOf n []
none_of n = record { mine = refl; others = λ k ne. refl }

pub more_of : (n : ℕ) (x : Entry) (xs : List Entry) → is_of n x ≡ true → ((k : ℕ) → k ≢ n → is_of k x ≡ false) → AreOf n xs → AreOf n (x ∷ xs)
more_of n x xs is not rest = record {
  mine = own_of n x xs is ∙ ap (λ (l : List Entry). x ∷ l) rest.mine;
  others = λ k ne. own_not k x xs (not k ne) ∙ rest.others k ne;
}

pub both_of : (n : ℕ) (xs ys : List Entry) → AreOf n xs → AreOf n ys → AreOf n (xs ++ ys)
both_of n xs ys a b = record {
  mine = filter-append (is_of n) xs ys ∙ ap (λ (l : List Entry). l ++ own n ys) a.mine ∙ ap (λ (l : List Entry). xs ++ l) b.mine;
  others = λ k ne. filter-append (is_of k) xs ys ∙ ap (λ (l : List Entry). l ++ own k ys) (a.others k ne) ∙ b.others k ne;
}

pub number_is : (n m : ℕ) → m ≡ n → (m == n) ≡ true
number_is n m e = eq-eqb m n e

pub number_not : (n m : ℕ) → m ≡ n → (k : ℕ) → k ≢ n → (m == k) ≡ false
number_not n m e k ne = not_same m k (λ (is : m ≡ k). ne (sym is ∙ e))

pub asked_of : (n : ℕ) (account : Account) (units after : UnitState) (x : List Exchanged) → Follow n account units x after → AreOf n (map Asked x)
asked_of n account units after [] f = none_of n
asked_of n account units after (e ∷ x) f =
    more_of n (Asked e) (map Asked x) (number_is n e.number f.0) (number_not n e.number f.0)
    (asked_of n account (serve e.account e.reach e.request).1.units after x f.3)

-- what is behind entries of a job
pub own_more : (n : ℕ) (xs ys : List Entry) → AreOf n ys → own n (xs ++ ys) ≡ own n xs ++ ys
own_more n xs ys a = filter-append (is_of n) xs ys ∙ ap (λ (l : List Entry). own n xs ++ l) a.mine

pub own_same : (n k : ℕ) (xs ys : List Entry) → AreOf n ys → k ≢ n → own k (xs ++ ys) ≡ own k xs
own_same n k xs ys a ne = filter-append (is_of k) xs ys ∙ ap (λ (l : List Entry). own k xs ++ l) (a.others k ne) ∙ append-nil (own k xs)

-- WHAT PASSED

one_more : (m : Moment) (r : Answer) (x y : List Exchange) → with_request m r (x ++ y) ≡ with_request m r x ++ y
one_more Beginning r x y = refl
one_more (Requesting q) r x y = refl

pub requests_both : (x y : List Passed) → requests_in (x ++ y) ≡ requests_in x ++ requests_in y
requests_both [] y = refl
requests_both (m ∷ x) y = ap (with_request m.asked m.reply) (requests_both x y) ∙ one_more m.asked m.reply (requests_in x) (requests_in y)

one_begun : (m : Moment) (a b : ℕ) → with_statement m (a + b) ≡ with_statement m a + b
one_begun Beginning a b = omega arith
one_begun (Requesting q) a b = refl

pub statements_both : (x y : List Passed) → statements_in (x ++ y) ≡ statements_in x + statements_in y
statements_both [] y = omega arith
statements_both (m ∷ x) y = ap (with_statement m.asked) (statements_both x y) ∙ one_begun m.asked (statements_in x) (statements_in y)

-- what is asked alone
pub asked_alone : (k : ℕ) (first : Job) (r : Step × Job) (passed : List Passed) (x : List Exchange) → x ≡ requests_in passed → IsTrace (counted_turns k first) passed r
    → asking.IsTrace (turns_of k first) x r
asked_alone k first r passed x is h =
    subst (λ (l : List Exchange). asking.IsTrace (turns_of k first) l r) (sym is) (plain_told (counted_turns k first) passed r h)

-- A JOB IN ITS SLOT

pub record Sitting (accounts : List Account) (given : Option JobDeck) (entries : List Entry) (slot : SlotState) : Type 0 where
  pub deck : JobDeck
  pub is : given ≡ Some deck
  pub course : Course accounts deck
  pub number : slot.number ≡ deck.number
  pub account : slot.account ≡ course.account
  pub units : slot.units ≡ course.units
  pub limits : slot.job.limits ≡ deck.limits
  pub all : entries ≡ Entered deck ∷ map Asked course.asked
  pub turns : ℕ
  pub within : turns + (deck.limits.statements - statements_begun slot.job) ≤ deck.limits.statements
  pub passed : List Passed
  pub asked : exchanges course.asked ≡ requests_in passed
  pub counted : statements_begun slot.job ≡ statements_in passed
  pub tells : IsTrace (counted_turns turns (job_in_cards accounts deck course)) passed (step.Goes, slot.job)
  pub spool : slot.units.spool ≡ spooled course.asked
  pub notes : slot.units.notes ≡ noted course.asked

pub goes_on : (accounts : List Account) (deck : JobDeck) (entries : List Entry) (s : ℕ) (slot : SlotState) (slots : List (Option SlotState))
    → (sit : Sitting accounts (Some deck) entries slot) → seat_at s slots ≡ Some slot → GoesOn accounts deck slots entries
goes_on accounts deck entries s slot slots sit at =
    let same : deck ≡ sit.deck = (let e = sit.is in cc (e)) in
    let there : GoesOn accounts sit.deck slots entries = record {
      course = sit.course;
      all = sit.all;
      slot = s;
      state = slot;
      sits = at;
      number = sit.number;
      account = sit.account;
      units = sit.units;
      turns = sit.turns;
      asks = asked_alone sit.turns (job_in_cards accounts sit.deck sit.course) (step.Goes, slot.job) sit.passed (exchanges sit.course.asked) sit.asked sit.tells;
    } in
    subst (λ (d : JobDeck). GoesOn accounts d slots entries) (sym same) there

-- what a turn of a job in its slot does
pub record Turn (slot : SlotState) (x : List Exchanged) (st : Step) (job : Job) (units : UnitState) : Type 0 where
  pub told : Told slot.number slot.account x slot.units units
  pub limits : job.limits ≡ slot.job.limits
  pub fewer : st ≡ step.Goes → suc (job.limits.statements - statements_begun job) ≤ slot.job.limits.statements - statements_begun slot.job
  pub passed : List Passed
  pub asked : exchanges x ≡ requests_in passed
  pub counted : statements_begun job ≡ statements_begun slot.job + statements_in passed
  pub ends : (IsTrace (counted_turn slot.job) passed (st, job) × ((ending : Ending) → st ≡ step.Ended ending → job.ended ≡ Some ending))
      ⊎ ((st ≡ step.Ended Memory) × IsTracePrefix (counted_turn slot.job) passed)

-- one that has ended asks nothing more
abbrev pub Again : Type 0
Again = (job : Job) (ending : Ending) → job.ended ≡ Some ending → IsTrace (counted_turn job) [] (step.Ended ending, job)

module _ (again : Again) (first job : Job) (ending : Ending) (x : List Passed) (ended : job.ended ≡ Some ending) where
  pub tells_on : (n m : ℕ) → n ≤ m → IsTrace (counted_turns n first) x (step.Ended ending, job) → IsTrace (counted_turns m first) x (step.Ended ending, job)
  tells_on n zero le h = let is : n ≡ 0 = omega (arith, le) in subst (λ (k : ℕ). IsTrace (counted_turns k first) x (step.Ended ending, job)) is h
  tells_on n (suc m) le h = elim (same_or_not n (suc m)) [
    | inl is ↦ subst (λ (k : ℕ). IsTrace (counted_turns k first) x (step.Ended ending, job)) is h
    | inr ne ↦
        subst (λ (l : List Passed). IsTrace (counted_turns (suc m) first) l (step.Ended ending, job)) (append-nil x)
        (tells_then MomentFits (counted_turns m first) (λ r. counted_turn r.1) x [] (step.Ended ending, job) (step.Ended ending, job)
        (tells_on n m (omega (arith, le, ne)) h) (again job ending ended))
  ]

pub begins_on : (first : Job) (x : List Passed) (n m : ℕ) → n ≤ m → IsTracePrefix (counted_turns n first) x → IsTracePrefix (counted_turns m first) x
begins_on first x n zero le h = let is : n ≡ 0 = omega (arith, le) in subst (λ (k : ℕ). IsTracePrefix (counted_turns k first) x) is h
begins_on first x n (suc m) le h = elim (same_or_not n (suc m)) [
  | inl is ↦ subst (λ (k : ℕ). IsTracePrefix (counted_turns k first) x) is h
  | inr ne ↦ begins_first MomentFits (counted_turns m first) (λ r. counted_turn r.1) x (begins_on first x n m (omega (arith, le, ne)) h)
]

-- the job goes on as the turn leaves it, or has ended so
abbrev pub left_as : SlotState → Job → UnitState → SlotState
left_as slot job units = record slot { job = job; units = units }

-- a job that is still to come, of events
abbrev pub IsToCome : (J : ℕ → Option JobDeck) → List Event → ℕ → List Entry → Type 0
IsToCome J E n entries = (entries ≡ []) × (J n ≡ job_of n E)

-- so far: each job is told, and each that sits in a slot goes on from there; E is what is still to come
pub record SoFar (accounts : List Account) (J : ℕ → Option JobDeck) (E : List Event) (H : List Entry) (slots : List (Option SlotState)) : Type 0 where
  pub each : (n : ℕ) → IsJob accounts slots (J n) (own n H) ⊎ IsToCome J E n (own n H)
  pub fresh : (n : ℕ) (deck : JobDeck) → job_of n E ≡ Some deck → (own n H ≡ []) × (J n ≡ Some deck)
  pub seats : (s : ℕ) (slot : SlotState) → seat_at s slots ≡ Some slot → Sitting accounts (J slot.number) (own slot.number H) slot
  pub one : (s t : ℕ) (slot other : SlotState) → seat_at s slots ≡ Some slot → seat_at t slots ≡ Some other → slot.number ≡ other.number → s ≡ t

-- other seats' jobs stay as they were told
pub still_job : (accounts : List Account) (slots others : List (Option SlotState)) (entries : List Entry) (o : Option JobDeck)
    → ((s : ℕ) (slot : SlotState) (deck : JobDeck) → o ≡ Some deck → slot.number ≡ deck.number → seat_at s slots ≡ Some slot → seat_at s others ≡ Some slot)
    → IsJob accounts slots o entries → IsJob accounts others o entries
still_job accounts slots others entries None same h = h
still_job accounts slots others entries (Some deck) same (inl r) = inl r
still_job accounts slots others entries (Some deck) same (inr (inr e)) = inr (inr e)
still_job accounts slots others entries (Some deck) same (inr (inl g)) = inr (inl (record {
  course = g.course;
  all = g.all;
  slot = g.slot;
  state = g.state;
  sits = same g.slot g.state deck refl g.number g.sits;
  number = g.number;
  account = g.account;
  units = g.units;
  turns = g.turns;
  asks = g.asks;
}))

module _ (again : Again) (accounts : List Account) (J : ℕ → Option JobDeck) (numbered : (n : ℕ) (deck : JobDeck) → J n ≡ Some deck → deck.number ≡ n) (E : List Event) (H : List Entry) where
  -- A TURN
  module _ (s : ℕ) (slot : SlotState) (slots : List (Option SlotState)) (far : SoFar accounts J E H slots) (at : seat_at s slots ≡ Some slot)
      (sit : Sitting accounts (J slot.number) (own slot.number H) slot) (x : List Exchanged) (st : Step) (job : Job) (units : UnitState) (turn : Turn slot x st job units) where
    abbrev after : SlotState
    after = left_as slot job units

    abbrev more : List Entry
    more = map Asked x ++ end_entry (told st after)

    abbrev seats_now : List (Option SlotState)
    seats_now = with_seat s (seat st after) slots

    end_of : (q : Step) → AreOf slot.number (end_entry (told q after))
    end_of step.Goes = none_of slot.number
    end_of (step.Ended ending) = more_of slot.number _ [] (number_is slot.number slot.number refl) (number_not slot.number slot.number refl) (none_of slot.number)

    more_is : AreOf slot.number more
    more_is = both_of slot.number (map Asked x) (end_entry (told st after)) (asked_of slot.number slot.account slot.units units x turn.told.follow) (end_of st)

    -- the course of the job, so far and in this turn
    follow : Follow sit.deck.number sit.course.account sit.course.units x units
    follow =
        subst (λ (n : ℕ). Follow n sit.course.account sit.course.units x units) sit.number
        (subst (λ (a : Account). Follow slot.number a sit.course.units x units) sit.account
        (subst (λ (u : UnitState). Follow slot.number slot.account u x units) sit.units turn.told.follow))

    abbrev course : Course accounts sit.deck
    course = record {
      good = sit.course.good;
      account = sit.course.account;
      known = sit.course.known;
      program = sit.course.program;
      spelled = sit.course.spelled;
      asked = sit.course.asked ++ x;
      units = units;
      follow = follow_both sit.deck.number sit.course.account (with_ties sit.deck.ties (first_units sit.deck.lines)) sit.course.units units sit.course.asked x sit.course.follow follow;
    }

    said : exchanges (sit.course.asked ++ x) ≡ exchanges sit.course.asked ++ exchanges x
    said = map-append exchange sit.course.asked x

    abbrev first : Job
    first = job_in_cards accounts sit.deck sit.course

    abbrev passed : List Passed
    passed = sit.passed ++ turn.passed

    asked : exchanges (sit.course.asked ++ x) ≡ requests_in passed
    asked =
        said ∙ ap (λ (l : List Exchange). l ++ exchanges x) sit.asked ∙ ap (λ (l : List Exchange). requests_in sit.passed ++ l) turn.asked
        ∙ sym (requests_both sit.passed turn.passed)

    counted : statements_begun job ≡ statements_in passed
    counted =
        let both = statements_both sit.passed turn.passed in
        omega (arith, both, sit.counted, turn.counted)

    tells : (q : Step) → IsTrace (counted_turn slot.job) turn.passed (q, job) → IsTrace (counted_turns (suc sit.turns) first) passed (q, job)
    tells q h = tells_then MomentFits (counted_turns sit.turns first) (λ r. counted_turn r.1) sit.passed turn.passed (step.Goes, slot.job) (q, job) sit.tells h

    begins : IsTracePrefix (counted_turn slot.job) turn.passed → IsTracePrefix (counted_turns (suc sit.turns) first) passed
    begins h = begins_then MomentFits (counted_turns sit.turns first) (λ r. counted_turn r.1) sit.passed turn.passed (step.Goes, slot.job) sit.tells h

    same_limit : slot.job.limits.statements ≡ sit.deck.limits.statements
    same_limit = ap (λ l. l.statements) sit.limits

    -- no more turns than there can be
    few : suc sit.turns ≤ suc sit.deck.limits.statements
    few = omega (arith, sit.within)

    within : st ≡ step.Goes → suc sit.turns + (sit.deck.limits.statements - statements_begun job) ≤ sit.deck.limits.statements
    within goes =
        let less = turn.fewer goes in
        let limit : job.limits.statements ≡ sit.deck.limits.statements = ap (λ l. l.statements) (turn.limits ∙ sit.limits) in
        omega (arith, sit.within, less, limit, same_limit)

    -- its entries then
    joined : (tail : List Entry) → (Entered sit.deck ∷ map Asked sit.course.asked) ++ (map Asked x ++ tail) ≡ Entered sit.deck ∷ (map Asked (sit.course.asked ++ x) ++ tail)
    joined tail =
        ap (λ (l : List Entry). Entered sit.deck ∷ l)
        (sym (append_assoc (map Asked sit.course.asked) (map Asked x) tail) ∙ ap (λ (l : List Entry). l ++ tail) (sym (map-append Asked sit.course.asked x)))

    entries : own slot.number (H ++ more) ≡ Entered sit.deck ∷ (map Asked (sit.course.asked ++ x) ++ end_entry (told st after))
    entries =
        own_more slot.number H more more_is ∙ ap (λ (l : List Entry). l ++ more) sit.all ∙ joined (end_entry (told st after))

    spool : units.spool ≡ spooled (sit.course.asked ++ x)
    spool =
        turn.told.spool ∙ ap (λ (l : List (List ℕ)). l ++ spooled x) sit.spool
        ∙ sym (flat_map-append _ sit.course.asked x)

    notes : units.notes ≡ noted (sit.course.asked ++ x)
    notes =
        turn.told.notes ∙ ap (λ (l : List Note). l ++ noted x) sit.notes
        ∙ sym (flat_map-append _ sit.course.asked x)

    goes : st ≡ step.Goes → IsTrace (counted_turns (suc sit.turns) first) passed (step.Goes, job)
    goes is = elim turn.ends [
      | inl h ↦ tells step.Goes (subst (λ (r : Step). IsTrace (counted_turn slot.job) turn.passed (r, job)) is h.0)
      | inr h ↦ absurd (let e : step.Goes ≡ step.Ended Memory = sym is ∙ h.0 in cc (e))
    ]

    -- what has been told of it then
    now : (q : Step) → st ≡ q → IsJob accounts (with_seat s (seat q after) slots) (Some sit.deck) (Entered sit.deck ∷ (map Asked (sit.course.asked ++ x) ++ end_entry (told q after)))
    now step.Goes is = inr (inl (record {
      course = course;
      all = append-nil (Entered sit.deck ∷ map Asked (sit.course.asked ++ x));
      slot = s;
      state = after;
      sits = elim (seat_changed s s (seat step.Goes after) slots (taken_seat s slots slot at)) [
        | inl h ↦ h.1
        | inr h ↦ absurd (h.0 refl)
      ];
      number = sit.number;
      account = sit.account;
      units = refl;
      turns = suc sit.turns;
      asks = asked_alone (suc sit.turns) first (step.Goes, job) passed (exchanges (sit.course.asked ++ x)) asked (goes is);
    }))
    now (step.Ended ending) is = inr (inr (record {
      course = course;
      end = record { number = slot.number; account = slot.account.name; spool = units.spool; notes = units.notes; ending = ending; statements = statements_begun job };
      all = refl;
      asks = record {
        passed = passed;
        asked = asked;
        counted = counted;
        ends = elim turn.ends [
          | inl h ↦ inl (
            job,
            tells_on again first job ending passed (h.1 ending is) (suc sit.turns) (suc sit.deck.limits.statements) few
                (tells (step.Ended ending) (subst (λ (r : Step). IsTrace (counted_turn slot.job) turn.passed (r, job)) is h.0)),
          )
          | inr h ↦ inr (
            (let e : step.Ended ending ≡ step.Ended Memory = sym is ∙ h.0 in cc (e)),
            begins_on first passed (suc sit.turns) (suc sit.deck.limits.statements) few (begins h.1),
          )
        ];
      };
      number = sit.number;
      account = ap (λ (a : Account). a.name) sit.account;
      spool = spool;
      notes = notes;
    }))

    abbrev H_now : List Entry
    H_now = H ++ more

    -- this job
    mine : IsJob accounts seats_now (J slot.number) (own slot.number H_now)
    mine =
        subst (λ (l : List Entry). IsJob accounts seats_now (J slot.number) l) (sym entries)
        (subst (λ (o : Option JobDeck). IsJob accounts seats_now o (Entered sit.deck ∷ (map Asked (sit.course.asked ++ x) ++ end_entry (told st after)))) (sym sit.is) (now st refl))

    -- and another
    others : (k : ℕ) → k ≢ slot.number → IsJob accounts slots (J k) (own k H) ⊎ IsToCome J E k (own k H) → IsJob accounts seats_now (J k) (own k H_now) ⊎ IsToCome J E k (own k H_now)
    others k ne (inl h) =
        inl (subst (λ (l : List Entry). IsJob accounts seats_now (J k) l) (sym (own_same slot.number k H more more_is ne))
        (still_job accounts slots seats_now (own k H) (J k) stays h))
      where
        stays : (t : ℕ) (other : SlotState) (deck : JobDeck) → J k ≡ Some deck → other.number ≡ deck.number → seat_at t slots ≡ Some other → seat_at t seats_now ≡ Some other
        stays t other deck is same there = elim (seat_changed s t (seat st after) slots (taken_seat s slots slot at)) [
          | inl here ↦
              let who : Some other ≡ Some slot = sym there ∙ ap (λ (i : ℕ). seat_at i slots) here.0 ∙ at in
              let who_is : other ≡ slot = cc (who) in
              absurd (ne (sym (numbered k deck is) ∙ sym same ∙ ap (λ (o : SlotState). o.number) who_is))
          | inr not ↦ not.1 ∙ there
        ]
    others k ne (inr h) = inr (own_same slot.number k H more more_is ne ∙ h.0, h.1)

    each : (k : ℕ) → IsJob accounts seats_now (J k) (own k H_now) ⊎ IsToCome J E k (own k H_now)
    each k = elim (same_or_not k slot.number) [
      | inl is ↦ inl (subst (λ (n : ℕ). IsJob accounts seats_now (J n) (own n H_now)) (sym is) mine)
      | inr ne ↦ others k ne (far.each k)
    ]

    fresh : (n : ℕ) (deck : JobDeck) → job_of n E ≡ Some deck → (own n H_now ≡ []) × (J n ≡ Some deck)
    fresh n deck is =
        let before = far.fresh n deck is in
        let ne : n ≢ slot.number = (λ e. (let full : Entered sit.deck ∷ map Asked sit.course.asked ≡ [] = sym sit.all ∙ ap (λ (k : ℕ). own k H) (sym e) ∙ before.0 in cc (full))) in
        (own_same slot.number n H more more_is ne ∙ before.0, before.1)

    -- who sits there now
    sits_now : (q : Step) → st ≡ q → (other : SlotState) → seat q after ≡ Some other → Sitting accounts (J slot.number) (Entered sit.deck ∷ (map Asked (sit.course.asked ++ x) ++ end_entry (told q after))) other × (after ≡ other)
    sits_now (step.Ended ending) is other h = absurd cc
    sits_now step.Goes is other h =
        let same : after ≡ other = cc (h) in
        let sitting : Sitting accounts (J slot.number) (Entered sit.deck ∷ (map Asked (sit.course.asked ++ x) ++ [])) after = record {
          deck = sit.deck;
          is = sit.is;
          course = course;
          number = sit.number;
          account = sit.account;
          units = refl;
          limits = turn.limits ∙ sit.limits;
          all = append-nil (Entered sit.deck ∷ map Asked (sit.course.asked ++ x));
          turns = suc sit.turns;
          within = within is;
          passed = passed;
          asked = asked;
          counted = counted;
          tells = goes is;
          spool = spool;
          notes = notes;
        } in
        (subst (λ (o : SlotState). Sitting accounts (J slot.number) (Entered sit.deck ∷ (map Asked (sit.course.asked ++ x) ++ [])) o) same sitting, same)

    -- each who sits somewhere sat there before, under that number
    was : (t : ℕ) (other : SlotState) → seat_at t seats_now ≡ Some other
        → ((t ≡ s) × (seat st after ≡ Some other)) ⊎ ((t ≢ s) × (seat_at t slots ≡ Some other))
    was t other h = elim (seat_changed s t (seat st after) slots (taken_seat s slots slot at)) [
      | inl here ↦ inl (here.0, sym here.1 ∙ h)
      | inr not ↦ inr (not.0, sym not.1 ∙ h)
    ]

    was_numbered : (t : ℕ) (other : SlotState) → seat_at t seats_now ≡ Some other → (before : SlotState) × (seat_at t slots ≡ Some before) × (before.number ≡ other.number)
    was_numbered t other h = elim (was t other h) [
      | inl here ↦ (slot, ap (λ (i : ℕ). seat_at i slots) here.0 ∙ at, ap (λ (o : SlotState). o.number) (sits_now st refl other here.1).1)
      | inr not ↦ (other, not.1, refl)
    ]

    seated : (t : ℕ) (other : SlotState) → seat_at t seats_now ≡ Some other → Sitting accounts (J other.number) (own other.number H_now) other
    seated t other h = elim (was t other h) [
      | inl here ↦
          let q = sits_now st refl other here.1 in
          let mine_is : Sitting accounts (J slot.number) (own slot.number H_now) other = subst (λ (l : List Entry). Sitting accounts (J slot.number) l other) (sym entries) q.0 in
          subst (λ (n : ℕ). Sitting accounts (J n) (own n H_now) other) (ap (λ (o : SlotState). o.number) q.1) mine_is
      | inr not ↦
          let ne : other.number ≢ slot.number = (λ e. not.0 (far.one t s other slot not.1 at e)) in
          subst (λ (l : List Entry). Sitting accounts (J other.number) l other) (sym (own_same slot.number other.number H more more_is ne)) (far.seats t other not.1)
    ]

    pub turn_far : SoFar accounts J E H_now seats_now
    turn_far = record {
      each = each;
      fresh = fresh;
      seats = seated;
      one = λ t u a b h g same.
          let p = was_numbered t a h in
          let q = was_numbered u b g in
          far.one t u p.0 q.0 p.1 q.1 (p.2 ∙ same ∙ sym q.2);
    }
