-- Goals and choices in memory: what is put on them and cut off.
use Rattle.std.proofs.Common.{◌≡◌, ◌≢◌, ℕ, ◌+◌, ◌-◌, ◌≤◌, List, [], ◌∷◌, ◌++◌, length, Bool, refl, sym, ap, ◌∙◌, subst, arith, get_or}
use Rattle.std.{specs.Prelude.{take, drop, map, reverse, if◌then◌else◌}, proofs.lemmas.Bool.{eq-eqb, ne_eqb}}
use Rattle.std.proofs.lemmas.List.{reverse-append, take-append-drop, take-append-le, take_more, length-append, length-reverse, length-take-le}
use Rattle.sno_pattern.specs.{declared.trail.Cell.{Cell}, declared.trail.Open.{Open}, declared.trail.Waiting.{Waiting}, Steps.{Goal}}
use Rattle.sno_pattern.specs.inner.{Stack.{goal_of, trial_of, Choice, Ahead}, Cells.{goals_at, choice_of, ahead_of, AreBehind, AreKept, IsTrail}}

-- the goal that stands last
pub own : (c : Cell) (older : List Cell) (k : ℕ) → k ≡ length (c ∷ older) → goals_at (c ∷ older) k ≡ goal_of c.goal ∷ goals_at older c.rest
own c older k e = ap (λ (b : Bool). if b then goal_of c.goal ∷ goals_at older c.rest else goals_at older k) (eq-eqb k (length (c ∷ older)) e)

past : (c : Cell) (older : List Cell) (k : ℕ) → k ≤ length older → goals_at (c ∷ older) k ≡ goals_at older k
past c older k h =
    ap (λ (b : Bool). if b then goal_of c.goal ∷ goals_at older c.rest else goals_at older k) (ne_eqb k (length (c ∷ older)) (λ e. absurd (omega arith)))

-- what stands up to a place is read alike whatever comes later
older_goals : (newer older : List Cell) (k : ℕ) → k ≤ length older → goals_at (newer ++ older) k ≡ goals_at older k
older_goals [] older k h = refl
older_goals (c ∷ cs) older k h =
    let l : length (cs ++ older) ≡ length cs + length older = length-append cs older in
    past c (cs ++ older) k (omega arith) ∙ older_goals cs older k h

module _ (newer older : List Cell) (all waits : List Waiting) (same : (k : ℕ) → k ≤ length waits → take k all ≡ take k waits) where
  older_choice : (o : Open) → o.top ≤ length older → o.waits ≤ length waits → choice_of (newer ++ older) all o ≡ choice_of older waits o
  older_choice o h k =
      ap (λ (g : List Goal). let x : Choice = record { trial = trial_of o.kind; goals = g; at = o.at; waits = take o.waits all } in x) (older_goals newer older o.top h)
      ∙ ap (λ (w : List Waiting). let x : Choice = record { trial = trial_of o.kind; goals = goals_at older o.top; at = o.at; waits = w } in x) (same o.waits k)

  -- so are the choices that were left by then
  older_choices : (kept w : ℕ) (opens : List Open) → AreKept kept w opens → kept ≤ length older → w ≤ length waits
      → map (choice_of (newer ++ older) all) opens ≡ map (choice_of older waits) opens
  older_choices kept w [] h k l = refl
  older_choices kept w (o ∷ os) h k l =
      let t = h.0 in let u = h.1 in let v = h.2 in
      ap (λ x. x ∷ map (choice_of (newer ++ older) all) os) (older_choice o (omega arith) (omega arith))
      ∙ ap (λ xs. choice_of older waits o ∷ xs) (older_choices o.kept o.waits os h.3 (omega arith) (omega arith))

more_kept : (kept w w' : ℕ) (opens : List Open) → AreKept kept w opens → w ≤ w' → AreKept kept w' opens
more_kept kept w w' [] h l = tt
more_kept kept w w' (o ∷ os) h l = let v = h.2 in (h.0, h.1, (omega arith), h.3)

behind_older : (newer older : List Cell) → AreBehind (newer ++ older) → AreBehind older
behind_older [] older h = h
behind_older (c ∷ cs) older h = behind_older cs older h.1

-- the first so many, read from their end, are the last to be read
cut : {X : Type 0} (m : ℕ) (xs : List X) → reverse xs ≡ reverse (drop m xs) ++ reverse (take m xs)
cut m xs = ap reverse (sym (take-append-drop m xs)) ∙ reverse-append (take m xs) (drop m xs)

module _ (items : List Cell) (top kept : ℕ) (waits : List Waiting) (opens : List Open) (is : IsTrail (reverse items) top kept waits opens) where
  abbrev pub ahead : List Goal → List Waiting → Ahead
  ahead goals all = record { goals = goals; waits = all; opens = map (choice_of (reverse items) waits) opens }

  -- a goal is put in front
  pub put : (c : Cell) (new : List Cell) (k : ℕ) → new ≡ items ++ c ∷ [] → k ≡ length new → c.rest ≡ top
      → ahead_of (reverse new) k waits opens ≡ ahead (goal_of c.goal ∷ goals_at (reverse items) top) waits
  put c new k e l rest =
      let r : reverse new ≡ c ∷ reverse items = ap reverse e ∙ reverse-append items (c ∷ []) in
      let m : k ≡ length (c ∷ reverse items) = l ∙ sym (length-reverse new) ∙ ap length r in
      let room = is.room in
      let first : goals_at (c ∷ reverse items) k ≡ goal_of c.goal ∷ goals_at (reverse items) top = own c (reverse items) k m
      ∙ ap (λ j. goal_of c.goal ∷ goals_at (reverse items) j) rest in
      ap (λ cs. ahead_of cs k waits opens) r
      ∙ ap (λ (g : List Goal). let a : Ahead = record { goals = g; waits = waits; opens = map (choice_of (c ∷ reverse items) waits) opens } in a) first
      ∙ ap (λ (xs : List Choice). let a : Ahead = record { goals = goal_of c.goal ∷ goals_at (reverse items) top; waits = waits; opens = xs } in a)
      (older_choices (c ∷ []) (reverse items) waits waits (λ k h. refl) kept (length waits) opens is.needed room (omega arith))

  -- the goal in front, which no choice needs, is taken out
  pub popped : (c : Cell) (new : List Cell) → items ≡ new ++ c ∷ [] → top ≡ length items → kept ≤ length new
      → ahead_of (reverse items) top waits opens ≡ record {
        goals = goal_of c.goal ∷ goals_at (reverse new) c.rest;
        waits = waits;
        opens =
            map (choice_of (reverse new) waits) opens;
      }
  popped c new e l h =
      let r : reverse items ≡ c ∷ reverse new = ap reverse e ∙ reverse-append new (c ∷ []) in
      let m : top ≡ length (c ∷ reverse new) = l ∙ sym (length-reverse items) ∙ ap length r in
      let n : length (reverse new) ≡ length new = length-reverse new in
      ap (λ cs. ahead_of cs top waits opens) r
      ∙ ap (λ (g : List Goal). let a : Ahead = record { goals = g; waits = waits; opens = map (choice_of (c ∷ reverse new) waits) opens } in a)
      (own c (reverse new) top m)
      ∙ ap (λ (xs : List Choice). let a : Ahead = record { goals = goal_of c.goal ∷ goals_at (reverse new) c.rest; waits = waits; opens = xs } in a)
      (older_choices (c ∷ []) (reverse new) waits waits (λ k h. refl) kept (length waits) opens is.needed (omega arith) (omega arith))

  -- the goal in front, and those behind it
  module _ (x : Cell) (some : top ≢ 0) (here : x ≡ get_or items (top - 1) x) where
    abbrev before : List Cell
    before = reverse (take (top - 1) items)

    abbrev after : List Cell
    after = reverse (drop top items)

    place : top ≤ length items
    place = subst (λ l. top ≤ l) (length-reverse items) is.place

    split : reverse items ≡ after ++ x ∷ before
    split =
        let p = place in
        let one : top ≡ top - 1 + 1 = omega arith in
        cut top items
        ∙ ap (λ t. after ++ reverse t) (ap (λ k. take k items) one ∙ take_more items (top - 1) x (omega arith)
        ∙ ap (λ y. take (top - 1) items ++ y ∷ []) (sym here))
        ∙ ap (λ t. after ++ t) (reverse-append (take (top - 1) items) (x ∷ []))

    many : length before ≡ top - 1
    many = let p = place in length-reverse (take (top - 1) items) ∙ length-take-le (top - 1) items (omega arith)

    lower : x.rest ≤ length before
    lower = (behind_older after (x ∷ before) (subst AreBehind split is.behind)).0

    pub rest_within : x.rest ≤ length (reverse items)
    rest_within = let l = lower in let m = many in let p = is.place in omega arith

    pub in_front : goals_at (reverse items) top ≡ goal_of x.goal ∷ goals_at (reverse items) x.rest
    in_front =
        let l = lower in let m = many in
        ap (λ cs. goals_at cs top) split ∙ older_goals after (x ∷ before) top (omega arith) ∙ own x before top (omega arith)
        ∙ ap (λ gs. goal_of x.goal ∷ gs) (sym (past x before x.rest l) ∙ sym (older_goals after (x ∷ before) x.rest (omega arith))
        ∙ ap (λ cs. goals_at cs x.rest) (sym split))

    pub passed : IsTrail (reverse items) x.rest kept waits opens
    passed = record { place = rest_within; room = is.room; behind = is.behind; needed = is.needed }

  -- one more assignment waits
  module _ (w : Waiting) where
    pub waited : ahead_of (reverse items) top (waits ++ w ∷ []) opens ≡ ahead (goals_at (reverse items) top) (waits ++ w ∷ [])
    waited =
        ap (λ (xs : List Choice). let a : Ahead = record { goals = goals_at (reverse items) top; waits = waits ++ w ∷ []; opens = xs } in a)
        (older_choices [] (reverse items) (waits ++ w ∷ []) waits (λ k h. take-append-le k waits (w ∷ []) h) kept
        (length waits) opens is.needed is.room (omega arith))

    pub waits_on : IsTrail (reverse items) top kept (waits ++ w ∷ []) opens
    waits_on =
        let l : length (waits ++ w ∷ []) ≡ length waits + 1 = length-append waits (w ∷ []) in
        record {
          place = is.place;
          room = is.room;
          behind = is.behind;
          needed =
              more_kept kept (length waits) (length (waits ++ w ∷ [])) opens is.needed (omega arith);
        }

-- the last choice is taken off, and what came after it is cut off
module _ (items : List Cell) (top kept : ℕ) (waits : List Waiting) (all opens : List Open) (o : Open)
    (is : IsTrail (reverse items) top kept waits (reverse all)) (e : all ≡ opens ++ o ∷ []) where
  last_first : reverse all ≡ o ∷ reverse opens
  last_first = ap reverse e ∙ reverse-append opens (o ∷ [])

  needs : AreKept kept (length waits) (o ∷ reverse opens)
  needs = subst (AreKept kept (length waits)) last_first is.needed

  abbrev older : List Cell
  older = reverse (take kept items)

  abbrev newer : List Cell
  newer = reverse (drop kept items)

  so_many : length older ≡ kept
  so_many = length-reverse (take kept items) ∙ length-take-le kept items (subst (λ l. kept ≤ l) (length-reverse items) is.room)

  so_long : length (take o.waits waits) ≡ o.waits
  so_long = length-take-le o.waits waits needs.2

  pub taken_back : IsTrail (reverse (take kept items)) o.top o.kept (take o.waits waits) (reverse opens)
  taken_back =
      let n = needs in let t = n.0 in let u = n.1 in let m = so_many in let l = so_long in
      record {
        place = omega arith;
        room = omega arith;
        behind = behind_older newer older (subst AreBehind (cut kept items) is.behind);
        needed = more_kept o.kept o.waits (length (take o.waits waits)) (reverse opens) n.3 (omega arith);
      }

  pub last_open : map (choice_of (reverse items) waits) (reverse all)
      ≡ record { trial = trial_of o.kind; goals = goals_at (reverse (take kept items)) o.top; at = o.at; waits = take o.waits waits }
      ∷ map (choice_of (reverse (take kept items)) (take o.waits waits)) (reverse opens)
  last_open =
      let n = needs in let t = n.0 in let u = n.1 in let m = so_many in let l = so_long in
      ap (map (choice_of (reverse items) waits)) last_first
      ∙ ap (λ cs. map (choice_of cs waits) (o ∷ reverse opens)) (cut kept items)
      ∙ ap (λ (g : List Goal). (let x : Choice = record { trial = trial_of o.kind; goals = g; at = o.at; waits = take o.waits waits } in x)
      ∷ map (choice_of (newer ++ older) waits) (reverse opens)) (older_goals newer older o.top (omega arith))
      ∙ ap (λ xs. (let x : Choice = record { trial = trial_of o.kind; goals = goals_at older o.top; at = o.at; waits = take o.waits waits } in x) ∷ xs)
      (older_choices newer older waits (take o.waits waits)
      (λ k h. ap (take k) (sym (take-append-drop o.waits waits)) ∙ take-append-le k (take o.waits waits) (drop o.waits waits) h) o.kept o.waits
      (reverse opens) n.3 (omega arith) (omega arith))

-- what is known of goals behind one
pub behind_one : {X : Type 0} (xs ys : List X) (x : X) → xs ≡ x ∷ ys → xs ≡ x ∷ drop 1 xs
behind_one xs ys x e = e ∙ ap (λ zs. x ∷ drop 1 zs) (sym e)

-- no goal stands at 0
pub empty_at : (cells : List Cell) (k : ℕ) → k ≡ 0 → goals_at cells k ≡ []
empty_at [] k e = refl
empty_at (c ∷ cells) k e =
    ap (λ (b : Bool). if b then goal_of c.goal ∷ goals_at cells c.rest else goals_at cells k) (ne_eqb k (length (c ∷ cells)) (λ f. absurd (omega arith)))
    ∙ empty_at cells k e

pub none_at : (cells : List Cell) (k : ℕ) → k ≡ 0 → goals_at cells k ≡ drop 1 (goals_at cells k)
none_at cells k e = empty_at cells k e ∙ ap (drop 1) (sym (empty_at cells k e))
