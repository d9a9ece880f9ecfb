-- Patterns met without goals of their own in memory.
use Rattle.std.proofs.Common.{◌≡◌, ◌≢◌, ℕ, zero, suc, ◌-◌, ◌<◌, ◌≤◌, List, ◌∷◌, length, refl, sym, ap, ◌∙◌, arith}
use Rattle.sno_text.specs.{Patterns.{Pattern}, declared.reach.Reach.TheVariants.{Here, Nowhere}, inner.Reaching.{reached}}
use Rattle.sno_text.specs.Patterns as pattern
use Rattle.sno_pattern.specs.declared.{ending.Pending.{Pending}, trail.Waiting.{Waiting}, choice_points.Turn.TheVariants.{Stay}}
use Rattle.sno_pattern.specs.Steps.{Goal, Meet, EndConditional, EndImmediate, OutOfSteps, Trying, on_failure, row, outcome}
use Rattle.sno_pattern.specs.inner.Stack.{Choice, Ahead, Second, waiting_of, resume, AllWithin, Entering, Led}
use Rattle.sno_pattern.proofs.{Table.{takes_off, no_step_left}, Reaches.{row_here}, Missing.{missed_now}, Pushing.{choice, resume_last, out_of_steps}}
use Rattle.sno_pattern.specs.declared.choice_points.Ended.TheVariants as ended

module _ (text : List ℕ) (c : ℕ) (w : List Pending) where
  -- where a pattern is missed at once, what is behind it does not matter
  pub nothing_behind : (a : Pattern) (r r' : List Goal) (n : ℕ) → reached text a c ≡ Nowhere
      → outcome text (Meet a ∷ r) c w n ≡ outcome text (Meet a ∷ r') c w n
  nothing_behind a r r' zero h = no_step_left text (Meet a) r c w ∙ sym (no_step_left text (Meet a) r' c w)
  nothing_behind a r r' (suc n) h = missed_now text r c w n a h ∙ sym (missed_now text r' c w n a h)

  module _ (r : List Goal) (a b : Pattern) where
    pub cat_on : (n : ℕ) → row text (outcome text) (Meet (pattern.Cat a b)) r c w n ≡ outcome text (Meet a ∷ Meet b ∷ r) c w n
    unfolding row
    cat_on n = refl

    pub cat_here : (e n : ℕ) → n ≢ 0 → reached text a c ≡ Here e
        → row text (outcome text) (Meet (pattern.Cat a b)) r c w n ≡ outcome text (Meet b ∷ r) e w (n - 1)
    cat_here e n l h =
        let one : n ≡ suc (n - 1) = omega arith in
        cat_on n ∙ ap (λ k. outcome text (Meet a ∷ Meet b ∷ r) c w k) one ∙ takes_off text (Meet a) (Meet b ∷ r) c w (n - 1)
        ∙ row_here text (outcome text) (Meet b ∷ r) c w (n - 1) a e h

    pub cat_misses : (n : ℕ) → reached text a c ≡ Nowhere → row text (outcome text) (Meet (pattern.Cat a b)) r c w n ≡ outcome text (Meet a ∷ r) c w n
    cat_misses n h = cat_on n ∙ nothing_behind a (Meet b ∷ r) r n h

    alt_on : (n : ℕ) → row text (outcome text) (Meet (pattern.Alt a b)) r c w n
        ≡ on_failure (outcome text (Meet a ∷ r) c w n) (λ n'. outcome text (Meet b ∷ r) c w n')
    unfolding row
    alt_on n = refl

    pub alt_misses : (n : ℕ) → n ≢ 0 → reached text a c ≡ Nowhere
        → row text (outcome text) (Meet (pattern.Alt a b)) r c w n ≡ outcome text (Meet b ∷ r) c w (n - 1)
    alt_misses n l h =
        let one : n ≡ suc (n - 1) = omega arith in
        let next = λ (k : ℕ). outcome text (Meet b ∷ r) c w k in
        alt_on n ∙ ap (λ k. on_failure (outcome text (Meet a ∷ r) c w k) next) one ∙ ap (λ t. on_failure t next) (missed_now text r c w (n - 1) a h)

    -- the second is left to be tried
    pub alt_leaves : (old : List Choice) (waits : List Waiting) (n : ℕ) → waiting_of text waits ≡ w
        → resume text old (row text (outcome text) (Meet (pattern.Alt a b)) r c w n)
        ≡ resume text (choice (Second b) r c waits ∷ old) (outcome text (Meet a ∷ r) c w n)
    alt_leaves old waits n e =
        ap (resume text old) (alt_on n ∙ ap (λ l. on_failure (outcome text (Meet a ∷ r) c w n) (λ n'. outcome text (Meet b ∷ r) c l n')) (sym e))

  pub conditional_on : (r : List Goal) (a : Pattern) (v : List ℕ) (n : ℕ)
      → row text (outcome text) (Meet (pattern.Conditional a v)) r c w n ≡ outcome text (Meet a ∷ EndConditional v c ∷ r) c w n
  unfolding row
  conditional_on r a v n = refl

  pub immediate_on : (r : List Goal) (a : Pattern) (v : List ℕ) (n : ℕ)
      → row text (outcome text) (Meet (pattern.Immediate a v)) r c w n ≡ outcome text (Meet a ∷ EndImmediate v c ∷ r) c w n
  unfolding row
  immediate_on r a v n = refl

-- an attempt with the choices so far is a pattern met with those after it
pub record Coming (text : List ℕ) (old : List Choice) (t : Trying) (n : ℕ) (p : Pattern) (r : List Goal) (c : ℕ) (w : List Pending)
    (new : List Choice) (m : ℕ) : Type 0 where
  pub comes : resume text old t ≡ resume text new (outcome text (Meet p ∷ r) c w m)
  pub fewer : m ≤ n
  pub all : AllWithin (length text) new
  pub here : c ≤ length text

module _ (text : List ℕ) (old : List Choice) (t : Trying) (n : ℕ) where
  pub entered : (p q : Pattern) (r r' : List Goal) (c c' : ℕ) (w : List Pending) (new new' : List Choice) (m m' : ℕ)
      → Entering text old t n p r c w new m → resume text new (row text (outcome text) (Meet p) r c w m)
      ≡ resume text new' (outcome text (Meet q ∷ r') c' w m') → m' ≤ m → AllWithin (length text) new' → c' ≤ length text → Coming text old t n q r' c' w new' m'
  entered p q r r' c c' w new new' m m' k e f all h = record {
    comes = k.comes ∙ e;
    fewer = (let g = k.fewer in omega arith);
    all = all;
    here = h;
  }

  pub pays : (p : Pattern) (r : List Goal) (c : ℕ) (w : List Pending) (new : List Choice) (m : ℕ) → 0 < m
      → Coming text old t n p r c w new m → Entering text old t n p r c w new (m - 1)
  pays p r c w new m l k =
      let one : m ≡ suc (m - 1) = omega arith in
      record {
        comes = k.comes ∙ ap (resume text new) (ap (outcome text (Meet p ∷ r) c w) one ∙ takes_off text (Meet p) r c w (m - 1));
        fewer = (let g = k.fewer in omega arith);
        all = k.all;
        here = k.here;
      }

  pub started : (p : Pattern) (r : List Goal) (c : ℕ) (w : List Pending) → t ≡ outcome text (Meet p ∷ r) c w n → AllWithin (length text) old → c ≤ length text
      → Coming text old t n p r c w old n
  started p r c w e all h = record { comes = ap (resume text old) e; fewer = omega arith; all = all; here = h }

  -- no step is left for it
  pub runs_out : (p : Pattern) (r : List Goal) (c : ℕ) (w : List Pending) (now : Ahead) (m : ℕ) → m ≡ 0
      → Coming text old t n p r c w now.opens m → Led text old t n (Stay ended.OutOfSteps) now m
  runs_out p r c w now m e k = record {
    comes = k.comes ∙ ap (resume text now.opens) (out_of_steps text (Meet p) r c w m e);
    fewer = k.fewer;
    all = k.all;
    here = λ j. resume_last text now.opens OutOfSteps j tt;
  }

-- what becomes of a pattern with parts, case by case
module _ {text : List ℕ} {old : List Choice} {t : Trying} {n : ℕ} {p : Pattern} {r : List Goal} {c : ℕ} {w : List Pending} {new : List Choice} {m : ℕ} where
  -- the first part ends in one place, and is passed
  pub cat_ends : Entering text old t n p r c w new m → (a b : Pattern) (e : ℕ) → p ≡ pattern.Cat a b → 0 < m → reached text a c ≡ Here e → e ≤ length text
      → Coming text old t n b r e w new (m - 1)
  cat_ends i a b e is l h within =
      entered text old t n p b r r c e w new new m (m - 1) i (rw is (ap (resume text new) (cat_here text c w r a b e m (omega (arith, l)) h)))
      (omega arith) i.all within

  -- it fails, and what is behind it is not kept
  pub cat_fails : Entering text old t n p r c w new m → (a b : Pattern) → p ≡ pattern.Cat a b → reached text a c ≡ Nowhere → Coming text old t n a r c w new m
  cat_fails i a b is h =
      entered text old t n p a r r c c w new new m m i (rw is (ap (resume text new) (cat_misses text c w r a b m h))) (omega arith) i.all i.here

  -- the second part waits as a goal
  pub cat_waits : Entering text old t n p r c w new m → (a b : Pattern) → p ≡ pattern.Cat a b → Coming text old t n a (Meet b ∷ r) c w new m
  cat_waits i a b is =
      entered text old t n p a r (Meet b ∷ r) c c w new new m m i (rw is (ap (resume text new) (cat_on text c w r a b m))) (omega arith) i.all i.here

  -- the first alternative fails at once
  pub alt_fails : Entering text old t n p r c w new m → (a b : Pattern) → p ≡ pattern.Alt a b → 0 < m → reached text a c ≡ Nowhere
      → Coming text old t n b r c w new (m - 1)
  alt_fails i a b is l h =
      entered text old t n p b r r c c w new new m (m - 1) i (rw is (ap (resume text new) (alt_misses text c w r a b m (omega (arith, l)) h)))
      (omega arith) i.all i.here

  -- the second is left to be tried
  pub alt_tries : Entering text old t n p r c w new m → (a b : Pattern) (waits : List Waiting) → p ≡ pattern.Alt a b → waiting_of text waits ≡ w
      → Coming text old t n a r c w (choice (Second b) r c waits ∷ new) m
  alt_tries i a b waits is e =
      entered text old t n p a r r c c w new (choice (Second b) r c waits ∷ new) m m i (rw is (alt_leaves text c w r a b new waits m e))
      (omega arith) (i.here, i.all) i.here

  -- what is to be assigned waits for the end of the part
  pub conditional_met : Entering text old t n p r c w new m → (a : Pattern) (v : List ℕ) → p ≡ pattern.Conditional a v
      → Coming text old t n a (EndConditional v c ∷ r) c w new m
  conditional_met i a v is =
      entered text old t n p a r (EndConditional v c ∷ r) c c w new new m m i (rw is (ap (resume text new) (conditional_on text c w r a v m)))
      (omega arith) i.all i.here

  pub immediate_met : Entering text old t n p r c w new m → (a : Pattern) (v : List ℕ) → p ≡ pattern.Immediate a v
      → Coming text old t n a (EndImmediate v c ∷ r) c w new m
  immediate_met i a v is =
      entered text old t n p a r (EndImmediate v c ∷ r) c c w new new m m i (rw is (ap (resume text new) (immediate_on text c w r a v m)))
      (omega arith) i.all i.here
