-- How choices are left and taken, row by row of the table.
use Rattle.std.proofs.Common.{◌≡◌, ◌≢◌, ℕ, suc, ◌+◌, ◌*◌, ◌-◌, ◌<◌, ◌≤◌, List, [], ◌∷◌, ◌++◌, length, true, false, refl, sym, ap, ◌∙◌, subst, arith, inl, inr}
use Rattle.std.specs.{List.{range_with_len}, Prelude.{nat_eq, Result, Ok, Err, IfOk}, declared.rc.Rc.{Rc}, declared.alloc.Global.{Global}}
use Rattle.std.proofs.lemmas.List.{map-append}
use Rattle.sno_text.specs.{declared.fault.Fault.{Fault as AFault}, declared.node.Node.{Node}, Nodes.{pattern_of}, Patterns.{Pattern}, inner.Reaching.{reached}}
use Rattle.sno_text.specs.{Balance.{part, balanced_ends}, declared.reach.Reach.TheVariants.{Here, Nowhere}}
use Rattle.interaction.{specs.Interactions.{Asks}, specs.Holding.{RunsTo, StopsIn}, proofs.Held.{cut_here}}
use Rattle.sno_text.specs.Patterns as pattern
use Rattle.sno_pattern.specs.{declared.ending.Pending.{Pending}, Looks.{Look, Told, Fits}, declared.trail.Waiting.{Waiting}, declared.choice_points.Turn.{Turn}}
use Rattle.sno_pattern.specs.declared.{host.Taken.TheVariants.{Part, Cursor}, choice_points.Turn.TheVariants.{Go, Meet as MeetNow, Stay}}
use Rattle.sno_pattern.proofs.{Trying.{IsLast, last_stays, then_fails}, Table.{takes_off, no_step_left}, Reaches.{row_nowhere, row_here, missed}}
use Rattle.sno_pattern.specs.Steps.{Goal, Meet, More, EndConditional, EndImmediate, End, Failure, WholeFails, OutOfSteps, Fault, Trying, ends, on_failure, at_each, row, outcome}
use Rattle.sno_pattern.specs.declared.choice_points.Ended.TheVariants as ended
use Rattle.sno_pattern.specs.inner.Stack.{Choice, Trial, Second, Each, Balanced, Whole, Ahead, waiting_of, second, resume, rank, assigning, looking, AllWithin, Led, Moved}

-- an end that is no failure takes no choice
pub resume_last : (text : List ℕ) (xs : List Choice) (e : End) (n : ℕ) → IsLast e → resume text xs (ends e n) ≡ ends e n
resume_last text [] e n h = refl
resume_last text (x ∷ xs) e n h = ap (resume text xs) (last_stays e n (second text x) h) ∙ resume_last text xs e n h

pub out_of_steps : (text : List ℕ) (g : Goal) (r : List Goal) (c : ℕ) (w : List Pending) (n : ℕ) → n ≡ 0 → outcome text (g ∷ r) c w n ≡ ends OutOfSteps n
out_of_steps text g r c w n e = subst (λ (k : ℕ). outcome text (g ∷ r) c w k ≡ ends OutOfSteps k) (sym e) (no_step_left text g r c w)

-- the question comes first, whatever choices are open
pub resume_asks : (text : List ℕ) (xs : List Choice) (q : Look) (f : Told → Trying) → resume text xs (Asks q f) ≡ Asks q (λ r. resume text xs (f r))
resume_asks text [] q f = refl
resume_asks text (x ∷ xs) q f = resume_asks text xs q (λ r. on_failure (f r) (second text x))

-- a cursor where a pattern is missed at once takes a step, and then comes the next
pub skip_one : (text : List ℕ) (a : Pattern) (c m : ℕ) (r : List Goal) (p : List Pending) → c < length text → m ≢ 0 → reached text a c ≡ Nowhere
    → at_each (outcome text) (Meet a ∷ r) (range_with_len c (length text + 1 - c)) p m
    ≡ at_each (outcome text) (Meet a ∷ r) (range_with_len (c + 1) (length text + 1 - (c + 1))) p (m - 1)
skip_one text a c m r p l h e =
    let more : length text + 1 - c ≡ suc (length text + 1 - (c + 1)) = omega arith in
    let one : m ≡ suc (m - 1) = omega arith in
    let next = λ (n : ℕ). at_each (outcome text) (Meet a ∷ r) (range_with_len (c + 1) (length text + 1 - (c + 1))) p n in
    ap (λ k. at_each (outcome text) (Meet a ∷ r) (range_with_len c k) p m) more
    ∙ ap (λ k. on_failure (outcome text (Meet a ∷ r) c p k) next) one
    ∙ ap (λ t. on_failure t next) (takes_off text (Meet a) r c p (m - 1) ∙ row_nowhere text (outcome text) r c p (m - 1) a (missed text a c e))

abbrev pub choice : Trial → List Goal → ℕ → List Waiting → Choice
choice trial gs c w = record { trial = trial; goals = gs; at = c; waits = w }

abbrev pub ahead : List Goal → List Waiting → List Choice → Ahead
ahead gs w opens = record { goals = gs; waits = w; opens = opens }

-- an attempt goes on as others do
module _ (text : List ℕ) (old : List Choice) (t : Trying) (n : ℕ) where
  -- with the same choices
  pub goes_on : (gs : List Goal) (c : ℕ) (w : List Waiting) (m : ℕ) → t ≡ outcome text gs c (waiting_of text w) m → m ≤ n
      → AllWithin (length text) old → c ≤ length text → Led text old t n (Go c) (ahead gs w old) m
  goes_on gs c w m e f all h = record { comes = ap (resume text old) e; fewer = f; all = all; here = h }

  -- with a pattern before them
  pub hands_on : (gs : List Goal) (p : Rc Node Global) (c : ℕ) (w : List Waiting) (m : ℕ)
      → t ≡ outcome text (Meet (pattern_of p.value) ∷ gs) c (waiting_of text w) m → m ≤ n
      → AllWithin (length text) old → c ≤ length text → Led text old t n (MeetNow p c) (ahead gs w old) m
  hands_on gs p c w m e f all h = record { comes = ap (resume text old) e; fewer = f; all = all; here = h }

  -- with one choice more
  pub leaves : (gs : List Goal) (c : ℕ) (w : List Waiting) (x : Choice) (m : ℕ)
      → t ≡ on_failure (outcome text gs c (waiting_of text w) m) (second text x) → m ≤ n → AllWithin (length text) old → c ≤ length text
      → x.at ≤ length text → Led text old t n (Go c) (ahead gs w (x ∷ old)) m
  leaves gs c w x m e f all h k = record { comes = ap (resume text old) e; fewer = f; all = (k, all); here = h }

  pub same_as : {t' : Trying} {turn : Turn} {new : Ahead} {m : ℕ} → t ≡ t' → Led text old t' n turn new m → Led text old t n turn new m
  same_as step b = record { comes = ap (resume text old) step ∙ b.comes; fewer = b.fewer; all = b.all; here = b.here }

-- a goal is met by its row, one step later, or by none where no step is left
module _ (text : List ℕ) (g : Goal) (r : List Goal) (c : ℕ) (w : List Pending) (n : ℕ) where
  pub one_step : n ≢ 0 → outcome text (g ∷ r) c w n ≡ row text (outcome text) g r c w (n - 1)
  one_step h = let one : n ≡ suc (n - 1) = omega arith in ap (outcome text (g ∷ r) c w) one ∙ takes_off text g r c w (n - 1)

  pub stepped : {old : List Choice} {turn : Turn} {new : Ahead} {m : ℕ} → n ≢ 0 → Led text old (row text (outcome text) g r c w (n - 1)) (n - 1) turn new m
      → Led text old (outcome text (g ∷ r) c w n) n turn new m
  stepped {old} h k = record {
    comes = ap (resume text old) (one_step h) ∙ k.comes;
    fewer = (let f = k.fewer in omega arith);
    all = k.all;
    here = k.here;
  }

  pub not_stepped : (now : Ahead) → n ≡ 0 → AllWithin (length text) now.opens → Led text now.opens (outcome text (g ∷ r) c w n) n (Stay ended.OutOfSteps) now n
  not_stepped now e all = record {
    comes = ap (resume text now.opens) (out_of_steps text g r c w n e);
    fewer = omega arith;
    all = all;
    here = λ j. resume_last text now.opens OutOfSteps j tt;
  }

pub immediate_asks : (text v : List ℕ) (d : ℕ) (r : List Goal) (c : ℕ) (w : List Pending) (n : ℕ) → n ≢ 0
    → outcome text (EndImmediate v d ∷ r) c w n ≡ assigning text v (Part (part text d c)) r c w (n - 1)
unfolding row
immediate_asks text v d r c w n h = one_step text (EndImmediate v d) r c w n h

pub rank_most : (turn : Turn) (m : ℕ) → rank turn m ≤ 3 * m + 2
rank_most (Go c) m = omega arith
rank_most (MeetNow p c) m = omega arith
rank_most (Stay e) m = omega arith

pub led_falls : {E : Type 0} (text : List ℕ) (old : List Choice) (t : Trying) (r : Result Turn E) (n : ℕ) (new : Ahead) (m k : ℕ) → n < k
    → IfOk r (λ turn. Led text old t n turn new m) → IfOk r (λ turn. rank turn m < 3 * k + 1)
led_falls text old t (Ok turn) n new m k l b = let f = b.fewer in let most = rank_most turn m in omega arith
led_falls text old t (Err e) n new m k l b = tt

-- the rows that ask the host
module _ (text : List ℕ) (p : Pattern) (v : List ℕ) (r : List Goal) (c : ℕ) (w : List Pending) (n : ℕ) where
  pub defer_asks : p ≡ pattern.Defer v → row text (outcome text) (Meet p) r c w n ≡ looking text v r c w n
  unfolding row
  defer_asks e = rw e refl

  pub cursor_asks : p ≡ pattern.Cursor v → row text (outcome text) (Meet p) r c w n ≡ assigning text v (Cursor c) r c w n
  unfolding row
  cursor_asks e = rw e refl

-- the last choice is taken
module _ (text : List ℕ) (old : List Choice) (n : ℕ) (within : AllWithin (length text) old) where
  module _ (trial : Trial) (c : ℕ) (new : Ahead) (e : old ≡ choice trial new.goals c new.waits ∷ new.opens) where
    pub parts : AllWithin (length text) (choice trial new.goals c new.waits ∷ new.opens)
    parts = subst (AllWithin (length text)) e within

    pub backed_to : {turn : Turn} {newest : Ahead} {m : ℕ} → Led text new.opens (second text (choice trial new.goals c new.waits) n) n turn newest m
        → Led text old (ends Failure n) n turn newest m
    backed_to k = record { comes = ap (λ zs. resume text zs (ends Failure n)) e ∙ k.comes; fewer = k.fewer; all = k.all; here = k.here }

  pub backed_whole : (c : ℕ) (new : Ahead) → old ≡ choice Whole new.goals c new.waits ∷ new.opens
      → Led text old (ends Failure n) n (Stay ended.WholeFails) new n
  backed_whole c new e =
      let k = parts Whole c new e in
      backed_to Whole c new e (record { comes = refl; fewer = omega arith; all = k.1; here = λ m. resume_last text new.opens WholeFails m tt })

-- these goals, at the last cursor or with more to come
module _ (text : List ℕ) (old : List Choice) (gs : List Goal) (w : List Waiting) (all : AllWithin (length text) old) where
  pub each_last : (t : Trying) (n c m : ℕ) → t ≡ at_each (outcome text) gs (range_with_len c (length text + 1 - c)) (waiting_of text w) m → m ≤ n
      → c ≤ length text → length text ≤ c → Led text old t n (Go c) (ahead gs w old) m
  each_last t n c m e f h l =
      let one : length text + 1 - c ≡ 1 = omega arith in
      goes_on text old t n gs c w m (e ∙ ap (λ k. at_each (outcome text) gs (range_with_len c k) (waiting_of text w) m) one
      ∙ then_fails (outcome text gs c (waiting_of text w) m)) f all h

  pub each_more : (t : Trying) (n c m : ℕ) → t ≡ at_each (outcome text) gs (range_with_len c (length text + 1 - c)) (waiting_of text w) m → m ≤ n
      → c < length text → Led text old t n (Go c) (ahead gs w (choice Each gs (c + 1) w ∷ old)) m
  each_more t n c m e f l =
      let more : length text + 1 - c ≡ suc (length text + 1 - (c + 1)) = omega arith in
      leaves text old t n gs c w (choice Each gs (c + 1) w) m
      (e ∙ ap (λ k. at_each (outcome text) gs (range_with_len c k) (waiting_of text w) m) more) f all (omega arith) (omega arith)

  -- or where parentheses are in pairs
  pub balanced_last : (n c : ℕ) → balanced_ends text c ≡ [] → c ≤ length text
      → Led text old (at_each (outcome text) gs (c ∷ balanced_ends text c) (waiting_of text w) n) n (Go c) (ahead gs w old) n
  balanced_last n c e h =
      goes_on text old _ n gs c w n (ap (λ cs. at_each (outcome text) gs (c ∷ cs) (waiting_of text w) n) e
      ∙ then_fails (outcome text gs c (waiting_of text w) n)) (omega arith) all h

  pub balanced_more : (n c d : ℕ) → balanced_ends text c ≡ d ∷ balanced_ends text d → c ≤ length text → d ≤ length text
      → Led text old (at_each (outcome text) gs (c ∷ balanced_ends text c) (waiting_of text w) n) n (Go c) (ahead gs w (choice Balanced gs d w ∷ old)) n
  balanced_more n c d e h k =
      leaves text old _ n gs c w (choice Balanced gs d w) n (ap (λ cs. at_each (outcome text) gs (c ∷ cs) (waiting_of text w) n) e) (omega arith) all h k

-- the rows of the table
module _ (text : List ℕ) (r : List Goal) (c : ℕ) (w : List Waiting) (old : List Choice) (all : AllWithin (length text) old) (n : ℕ) where
  pub stands : (a : Pattern) (e : ℕ) → reached text a c ≡ Here e → e ≤ length text
      → Led text old (row text (outcome text) (Meet a) r c (waiting_of text w) n) n (Go e) (ahead r w old) n
  stands a e h k = goes_on text old _ n r e w n (row_here text (outcome text) r c (waiting_of text w) n a e h) (omega arith) all k

  pub misses : (a : Pattern) {turn : Turn} {new : Ahead} {m : ℕ} → reached text a c ≡ Nowhere → Led text old (ends Failure n) n turn new m
      → Led text old (row text (outcome text) (Meet a) r c (waiting_of text w) n) n turn new m
  misses a h b = same_as text old _ n (row_nowhere text (outcome text) r c (waiting_of text w) n a (missed text a c h)) b

  pub arb : {turn : Turn} {new : Ahead} {m : ℕ} → Led text old
      (at_each (outcome text) r (range_with_len c (length text + 1 - c)) (waiting_of text w) n) n turn new m
      → Led text old (row text (outcome text) (Meet pattern.Arb) r c (waiting_of text w) n) n turn new m
  unfolding row
  arb b = b

  pub bal : (cs : List ℕ) {turn : Turn} {new : Ahead} {m : ℕ} → balanced_ends text c ≡ cs
      → Led text old (at_each (outcome text) r cs (waiting_of text w) n) n turn new m
      → Led text old (row text (outcome text) (Meet pattern.Bal) r c (waiting_of text w) n) n turn new m
  unfolding row
  bal cs e b = same_as text old _ n (ap (λ es. at_each (outcome text) r es (waiting_of text w) n) e) b

  -- it goes on, and where that fails with a pattern before other goals
  turns_back : (t : Trying) (a : Pattern) (gs : List Goal) → c ≤ length text
      → t ≡ on_failure (outcome text r c (waiting_of text w) n) (λ n'. outcome text (Meet a ∷ gs) c (waiting_of text w) n')
      → Led text old t n (Go c) (ahead r w (choice (Second a) gs c w ∷ old)) n
  turns_back t a gs h e = leaves text old t n r c w (choice (Second a) gs c w) n e (omega arith) all h h

  pub arbno : (a : Pattern) → c ≤ length text → Led text old (row text (outcome text) (Meet (pattern.Arbno a)) r c (waiting_of text w) n) n (Go c)
      (ahead r w (choice (Second a) (More a c ∷ r) c w ∷ old)) n
  unfolding row
  arbno a h = turns_back (row text (outcome text) (Meet (pattern.Arbno a)) r c (waiting_of text w) n) a (More a c ∷ r) h refl

  pub succeed : c ≤ length text → Led text old (row text (outcome text) (Meet pattern.Succeed) r c (waiting_of text w) n) n (Go c)
      (ahead r w (choice (Second pattern.Succeed) r c w ∷ old)) n
  unfolding row
  succeed h = turns_back (row text (outcome text) (Meet pattern.Succeed) r c (waiting_of text w) n) pattern.Succeed r h refl

  pub fence : c ≤ length text → Led text old (row text (outcome text) (Meet pattern.Fence) r c (waiting_of text w) n) n (Go c)
      (ahead r w (choice Whole r c w ∷ old)) n
  unfolding row
  fence h = leaves text old (row text (outcome text) (Meet pattern.Fence) r c (waiting_of text w) n) n r c w (choice Whole r c w) n refl (omega arith) all h h

  pub aborts : Led text old (row text (outcome text) (Meet pattern.Abort) r c (waiting_of text w) n) n (Stay ended.WholeFails) (ahead r w old) n
  unfolding row
  aborts = record { comes = refl; fewer = omega arith; all = all; here = λ m. resume_last text old WholeFails m tt }

  pub end_cond : (v : List ℕ) (d : ℕ) → c ≤ length text → Led text old (row text (outcome text) (EndConditional v d) r c (waiting_of text w) n) n
      (Go c) (ahead r (w ++ (let x : Waiting = record { variable = v; from = d; to = c } in x) ∷ []) old) n
  unfolding row
  end_cond v d h =
      let x : Waiting = record { variable = v; from = d; to = c } in
      goes_on text old _ n r c (w ++ x ∷ []) n (ap (λ l. outcome text r c l n) (sym (map-append _ w (x ∷ [])))) (omega arith) all h

  pub more_stuck : (a : Pattern) (d : ℕ) {turn : Turn} {new : Ahead} {m : ℕ} → nat_eq c d ≡ true → Led text old (ends Failure n) n turn new m
      → Led text old (row text (outcome text) (More a d) r c (waiting_of text w) n) n turn new m
  unfolding row
  more_stuck a d h b = same_as text old _ n (rw h refl) b

  pub more_turn : (a : Pattern) (d : ℕ) {turn : Turn} {new : Ahead} {m : ℕ} → nat_eq c d ≡ false
      → Led text old (row text (outcome text) (Meet (pattern.Arbno a)) r c (waiting_of text w) n) n turn new m
      → Led text old (row text (outcome text) (More a d) r c (waiting_of text w) n) n turn new m
  unfolding row
  more_turn a d h k = same_as text old _ n (rw h refl) k

  pub faults : (f : AFault) → Led text old (ends (Fault f) n) n (Stay (ended.Fault f)) (ahead r w old) n
  faults f = record { comes = refl; fewer = omega arith; all = all; here = λ m. resume_last text old (Fault f) m tt }

module _ {S : Type 0} (tells : S → Look → Told → S → Type 0) (broken : S → Look → S → Type 0) (text : List ℕ) (s : S) (old : List Choice)
    (t : Trying) (n : ℕ) where
  -- with no word to the host
  pub quietly : {turn : Turn} {new : Ahead} {m : ℕ} → Led text old t n turn new m → Moved tells broken text s old t n s turn new m
  quietly {turn} {new} {m} k = record {
    held = λ b v h. subst (λ (z : Trying). RunsTo tells Fits z s b v) (sym k.comes) h;
    cut = λ v h. subst (λ (z : Trying). StopsIn tells Fits broken z s v) (sym k.comes) h;
    fewer = k.fewer;
    all = k.all;
    here = k.here;
  }

  module _ (q : Look) (f : Told → Trying) (is : t ≡ Asks q f) where
    first : resume text old t ≡ Asks q (λ r. resume text old (f r))
    first = ap (resume text old) is ∙ resume_asks text old q f

    -- the host was asked, and told something
    pub asked : {u : S} (r : Told) {turn : Turn} {new : Ahead} {m : ℕ} → tells s q r u → Fits q r → Led text old (f r) n turn new m
        → Moved tells broken text s old t n u turn new m
    asked {u} r {turn} {new} {m} h fits k = record {
      held = λ b v g. subst (λ (z : Trying). RunsTo tells Fits z s b v) (sym first)
          (r, u, h, fits, subst (λ (z : Trying). RunsTo tells Fits z u b v) (sym k.comes) g);
      cut = λ v g. subst (λ (z : Trying). StopsIn tells Fits broken z s v) (sym first)
          (inr (inr (r, u, h, fits, subst (λ (z : Trying). StopsIn tells Fits broken z u v) (sym k.comes) g)));
      fewer = k.fewer;
      all = k.all;
      here = k.here;
    }

    -- and nothing followed
    pub asked_cut : (u : S) (r : Told) → tells s q r u → Fits q r → StopsIn tells Fits broken (resume text old t) s u
    asked_cut u r h fits = subst (λ (z : Trying). StopsIn tells Fits broken z s u) (sym first)
        (inr (inr (r, u, h, fits, cut_here tells Fits broken (resume text old (f r)) u)))

    -- or broke off
    pub asked_broken : (u : S) → broken s q u → StopsIn tells Fits broken (resume text old t) s u
    asked_broken u h = subst (λ (z : Trying). StopsIn tells Fits broken z s u) (sym first) (inr (inl h))

  -- what stands for it goes on as the host told
  pub moved_as : (t' : Trying) (old' : List Choice) (k : ℕ) {u : S} {turn : Turn} {new : Ahead} {m : ℕ} → resume text old t ≡ resume text old' t' → k ≤ n
      → Moved tells broken text s old' t' k u turn new m → Moved tells broken text s old t n u turn new m
  moved_as t' old' k e l d = record {
    held = λ b v h. subst (λ (z : Trying). RunsTo tells Fits z s b v) (sym e) (d.held b v h);
    cut = λ v h. subst (λ (z : Trying). StopsIn tells Fits broken z s v) (sym e) (d.cut v h);
    fewer = (let f = d.fewer in omega arith);
    all = d.all;
    here = d.here;
  }

  pub cut_as : (t' : Trying) (old' : List Choice) (v : S) → resume text old t ≡ resume text old' t' → StopsIn tells Fits broken (resume text old' t') s v
      → StopsIn tells Fits broken (resume text old t) s v
  cut_as t' old' v e h = subst (λ (z : Trying). StopsIn tells Fits broken z s v) (sym e) h
