-- One event behind the others.
use Rattle.std.proofs.Common.{◌≡◌, ◌≤◌, ◌^◌, ℕ, ◌-◌, Bool, true, false, List, [], ◌∷◌, ◌++◌, Some, None, refl, sym, ap, ◌∙◌, subst, arith}
use Rattle.std.{specs.Prelude.{if◌then◌else◌, ◌==◌, ◌&&◌, nat_le, nat_lt}, proofs.lemmas.Bool.Decides.{nat_tests}}
use Rattle.ledger_text.specs.Records as said
use Rattle.ledger_text.specs.{Records.{Said}, Text.{commit_of}, Digests.{digest_of}}
use Rattle.ledger_laws.specs.Course as course
use Rattle.ledger_laws.{specs.Course.{Machine, behind_first, with_record, folded, Follows, AreHonest}, proofs.Coursing.{both_honest}}
use Rattle.ledger_run.specs.{declared.event.Event.{Event as Made}, Runs.{Seen, AreAlike, IsKept, state_of, answer_in}}
use Rattle.ledger_run.specs.Meaning.{Step, Event, State, machine_of, start, event_of, event_behind, Says, end_of, answer_among}
use Rattle.ledger_run.specs.Following.{seen_event, first_number, is_number, is_free, may_follow, IsTold, Tells, runs, after_event, changed_by}
use Rattle.ledger_run.specs.declared.event.Event.TheVariants as code

in_row : {A : Type 0} (xs ys zs : List A) → (xs ++ ys) ++ zs ≡ xs ++ (ys ++ zs)
in_row [] ys zs = refl
in_row {A} (x ∷ xs) ys zs = ap (λ (l : List A). x ∷ l) (in_row xs ys zs)

none_behind : {A : Type 0} (xs : List A) → xs ++ [] ≡ xs
none_behind [] = refl
none_behind {A} (x ∷ xs) = ap (λ (l : List A). x ∷ l) (none_behind xs)

-- ---- the same, with one change more

alike_more : (step : Step) (one other : List (List ℕ)) (change : List ℕ) → AreAlike step one other → AreAlike step (one ++ change ∷ []) (other ++ change ∷ [])
alike_more step one other change alike more text =
    ap (step text) (in_row one (change ∷ []) more) ∙ alike (change ∷ more) text ∙ sym (ap (step text) (in_row other (change ∷ []) more))

alike_now : (step : Step) (one other : List (List ℕ)) (text : List ℕ) → AreAlike step one other → step text one ≡ step text other
alike_now step one other text alike = ap (step text) (sym (none_behind one)) ∙ alike [] text ∙ ap (step text) (none_behind other)

-- ---- what the ledger in memory comes to

owed_more : (given owed more answers : List (ℕ × List ℕ)) → given ++ owed ≡ answers → given ++ (owed ++ more) ≡ answers ++ more
owed_more given owed more answers e = sym (in_row given owed more) ∙ ap (λ (l : List (ℕ × List ℕ)). l ++ more) e

pub becomes : (step : Step) (event : Made) (seen : Seen) (behind : List (List ℕ)) (kept : State) → IsKept step seen behind kept
    → IsKept step (after_event event seen) (changed_by event behind) (with_record (machine_of step) (seen_event event) kept)
becomes step (code.Took file text) seen behind kept is =
    record { state = is.state; waiting = ap (λ (l : List (ℕ × List ℕ)). l ++ (file.number, text.now) ∷ []) is.waiting; next = refl; given = is.given; answers = is.answers }
becomes step (code.Refused file reply) seen behind kept is =
    record { state = is.state; waiting = is.waiting; next = refl; given = is.given; answers = owed_more is.given seen.owed ((file.number, reply.now) ∷ []) kept.answers is.answers }
becomes step (code.Ran n printout change) seen behind kept is = record {
  state = alike_more step behind kept.state change.now is.state;
  waiting = ap behind_first is.waiting;
  next = is.next;
  given = is.given;
  answers = owed_more is.given seen.owed ((n, printout.now) ∷ []) kept.answers is.answers;
}
becomes step (code.Dropped n reply) seen behind kept is =
    record { state = is.state; waiting = ap behind_first is.waiting; next = is.next; given = is.given; answers = owed_more is.given seen.owed ((n, reply.now) ∷ []) kept.answers is.answers }
becomes step (code.Edited change) seen behind kept is =
    record { state = alike_more step behind kept.state change.now is.state; waiting = is.waiting; next = is.next; given = is.given; answers = is.answers }
becomes step code.Gave seen behind kept is =
    record { state = is.state; waiting = is.waiting; next = is.next; given = is.given ++ seen.owed; answers = none_behind (is.given ++ seen.owed) ∙ is.answers }
becomes step code.Noted seen behind kept is = is

-- ---- it follows

beyond : (next n : ℕ) → is_free next n ≡ true → next ≤ n
beyond next n h = by (nat_le next n) refl (nat_lt n (2 ^ 64 - 1)) h
  where
    by : (a : Bool) → nat_le next n ≡ a → (b : Bool) → (a && b) ≡ true → next ≤ n
    by true e b h = grind (arith, nat_tests, e)
    by false e b h = absurd (cc (h))

record IsAhead (n : ℕ) (waiting : List (ℕ × List ℕ)) : Type 0 where
  text : List ℕ
  rest : List (ℕ × List ℕ)
  is : waiting ≡ (n, text) ∷ rest

ahead : (n : ℕ) (waiting : List (ℕ × List ℕ)) → is_number n (first_number waiting) ≡ true → IsAhead n waiting
ahead n [] h = absurd (cc (h))
ahead n ((m, text) ∷ rest) h = let same : m ≡ n = grind (arith, nat_tests, h) in record { text = text; rest = rest; is = ap (λ (k : ℕ). (k, text) ∷ rest) same }

pub follows : (step : Step) (event : Event) (seen : Seen) (behind : List (List ℕ)) (kept : State) → IsKept step seen behind kept
    → may_follow seen.next (first_number seen.waiting) event ≡ true → IsTold step event kept → Follows (machine_of step) event kept
follows step (course.Took n text) seen behind kept is may told = subst (λ (next : ℕ). next ≤ n) is.next (beyond seen.next n may)
follows step (course.Refused n reply) seen behind kept is may told = subst (λ (next : ℕ). next ≤ n) is.next (beyond seen.next n may)
follows step (course.Ran n printout change) seen behind kept is may told =
    let a : IsAhead n seen.waiting = ahead n seen.waiting may in
    let first : kept.waiting ≡ (n, a.text) ∷ a.rest = sym is.waiting ∙ a.is in
    record { text = a.text; rest = a.rest; first = first; told = told a.text a.rest first }
follows step (course.Dropped n reply) seen behind kept is may told =
    let a : IsAhead n seen.waiting = ahead n seen.waiting may in record { text = a.text; rest = a.rest; first = sym is.waiting ∙ a.is }
follows step (course.Edited change) seen behind kept is may told = tt
follows step course.Noted seen behind kept is may told = tt

-- what the first text's run came to
pub told_of : (step : Step) (seen : Seen) (behind : List (List ℕ)) (kept : State) (n : ℕ) (text printout change : List ℕ) (rest : List (ℕ × List ℕ)) → IsKept step seen behind kept
    → seen.waiting ≡ (n, text) ∷ rest → step text behind ≡ (printout, change) → IsTold step (course.Ran n printout change) kept
told_of step seen behind kept n text printout change rest is first told other more e =
    ap (λ (t : List ℕ). step t kept.state) (inside n other more (sym e ∙ sym is.waiting ∙ first)) ∙ sym (alike_now step behind kept.state text is.state) ∙ told
  where
    first_text : List (ℕ × List ℕ) → List ℕ
    first_text [] = []
    first_text (x ∷ xs) = x.1

    inside : (m : ℕ) (other : List ℕ) (more : List (ℕ × List ℕ)) → (m, other) ∷ more ≡ (n, text) ∷ rest → other ≡ text
    inside m other more e = ap first_text e

module _ (step : Step) (seen : Seen) (behind : List (List ℕ)) where
  told_alone : (event : Event) → ((kept : State) → IsKept step seen behind kept → IsTold step event kept) → Tells step (Some event) seen behind
  told_alone event told = record { tells = λ other e kept is. subst (λ (x : Event). IsTold step x kept) (inside event other e) (told kept is) }
    where
      inside : (a b : Event) → Some a ≡ Some b → a ≡ b
      inside a b e = cc (e)

  told_none : Tells step None seen behind
  told_none = record { tells = λ other e kept is. absurd (cc (e)) }

  pub told_first : (n : ℕ) (text printout change : List ℕ) (rest : List (ℕ × List ℕ)) → seen.waiting ≡ (n, text) ∷ rest → step text behind ≡ (printout, change)
      → Tells step (Some (course.Ran n printout change)) seen behind
  told_first n text printout change rest first told =
      told_alone (course.Ran n printout change) (λ kept is. told_of step seen behind kept n text printout change rest is first told)

  pub untold : (one : Said) (change : List ℕ) → runs one ≡ false → Tells step (event_of one change) seen behind
  untold (said.Took n account uid name text) change e = told_alone (course.Took n text) (λ kept is. tt)
  untold (said.Refused n account uid name reply) change e = told_alone (course.Refused n reply) (λ kept is. tt)
  untold (said.Ran n printout) change e = absurd (cc (e))
  untold (said.Audit n lines) change e = told_none
  untold (said.Keep n set first records) change e = told_none
  untold (said.Set n set head records) change e = told_none
  untold (said.Gone n set) change e = told_none
  untold (said.Dropped n reason reply) change e = told_alone (course.Dropped n reply) (λ kept is. tt)
  untold (said.Gave first last) change e = told_alone course.Noted (λ kept is. tt)
  untold (said.Tables tables) change e = told_alone course.Noted (λ kept is. tt)
  untold (said.Checked count digest) change e = told_alone course.Noted (λ kept is. tt)
  untold (said.Edit who act) change e = told_alone (course.Edited change) (λ kept is. tt)

-- ---- the chain, and what it says

pub says_more : (before : List ℕ) (chain : List (List ℕ)) (events : List Event) (text : List ℕ) (event : Event) → Says before chain events
    → event_behind (end_of before chain) (commit_of text) ≡ Some event → Says before (chain ++ text ∷ []) (events ++ event ∷ [])
says_more before [] [] text event says is = (is, tt)
says_more before [] (e ∷ events) text event says is = elim says [ ]
says_more before (t ∷ chain) [] text event says is = elim says [ ]
says_more before (t ∷ chain) (e ∷ events) text event says is = (says.0, says_more (digest_of t) chain events text event says.1 is)

pub end_more : (before : List ℕ) (chain : List (List ℕ)) (text : List ℕ) → end_of before (chain ++ text ∷ []) ≡ digest_of text
end_more before [] text = refl
end_more before (t ∷ chain) text = end_more (digest_of t) chain text

module _ (step : Step) where
  folded_more : (events : List Event) (event : Event) (kept : State) → folded (machine_of step) (events ++ event ∷ []) kept ≡ with_record (machine_of step) event (folded (machine_of step) events kept)
  folded_more [] event kept = refl
  folded_more (e ∷ events) event kept = folded_more events event (with_record (machine_of step) e kept)

  pub state_more : (events : List Event) (event : Event) → state_of step (events ++ event ∷ []) ≡ with_record (machine_of step) event (state_of step events)
  state_more events event = folded_more events event start

  pub honest_more : (events : List Event) (event : Event) → AreHonest (machine_of step) events start → Follows (machine_of step) event (state_of step events)
      → AreHonest (machine_of step) (events ++ event ∷ []) start
  honest_more events event honest is = both_honest (machine_of step) events (event ∷ []) start honest (is, tt)

  -- ---- answers stay

  record AreMore (event : Event) (kept : State) : Type 0 where
    more : List (ℕ × List ℕ)
    is : (with_record (machine_of step) event kept).answers ≡ kept.answers ++ more

  answers_more : (event : Event) (kept : State) → AreMore event kept
  answers_more (course.Took n text) kept = record { more = []; is = sym (none_behind kept.answers) }
  answers_more (course.Refused n reply) kept = record { more = (n, reply) ∷ []; is = refl }
  answers_more (course.Ran n printout change) kept = record { more = (n, printout) ∷ []; is = refl }
  answers_more (course.Dropped n reply) kept = record { more = (n, reply) ∷ []; is = refl }
  answers_more (course.Edited change) kept = record { more = []; is = sym (none_behind kept.answers) }
  answers_more course.Noted kept = record { more = []; is = sym (none_behind kept.answers) }

  among_more : (xs ys : List (ℕ × List ℕ)) (m : ℕ) (bytes : List ℕ) → answer_among xs m ≡ Some bytes → answer_among (xs ++ ys) m ≡ Some bytes
  among_more [] ys m bytes e = absurd (cc (e))
  among_more (x ∷ xs) ys m bytes e = by (m == x.0) e (λ h. among_more xs ys m bytes h)
    where
      by : (b : Bool) → (if b then Some x.1 else answer_among xs m) ≡ Some bytes → (answer_among xs m ≡ Some bytes → answer_among (xs ++ ys) m ≡ Some bytes)
          → (if b then Some x.1 else answer_among (xs ++ ys) m) ≡ Some bytes
      by true e later = e
      by false e later = later e

  pub answer_more : (events : List Event) (event : Event) (m : ℕ) (bytes : List ℕ) → answer_in step events m ≡ Some bytes → answer_in step (events ++ event ∷ []) m ≡ Some bytes
  answer_more events event m bytes e =
      let a : AreMore event (state_of step events) = answers_more event (state_of step events) in
      ap (λ (s : State). answer_among s.answers m) (state_more events event) ∙ ap (λ (l : List (ℕ × List ℕ)). answer_among l m) a.is
      ∙ among_more (state_of step events).answers a.more m bytes e
