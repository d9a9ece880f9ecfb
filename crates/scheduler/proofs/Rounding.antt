-- What the loops over turns and rounds come to.
use Rattle.std.proofs.Common.{◌≡◌, ◌≢◌, ℕ, suc, ◌+◌, ◌-◌, ◌<◌, ◌≤◌, Bool, true, false, List, [], ◌∷◌, ◌++◌, length, refl, ap, sym, ◌∙◌, subst, inl, inr, arith, append_assoc, map, Option, Some, None, is_some}
use Rattle.scheduler.proofs.Common.{range_with_len, Standing, puts_nothing, puts_then, JobEnd, Empty, Goal, SlotState, SchedulerState, job_in, ends_by, Marks, Past, nothing, until, rounds, turns_left, rounds_until, is_done, ends_then, turn_lines, lines_until, lines_of_rounds, TurnOr, UntilIs, RoundsAre, ended_in, Ahead, RoundTo, Going, GoingTo, Unless, stop_of, Turned, Goes, Ended}
use Rattle.scheduler.specs.declared.rounds.Goal.TheVariants as goal
use Rattle.scheduler.{specs.Turning.{Passed}, proofs.Calls.{empty_turn}, proofs.Lines.{lines_stop, lines_go, lines_append, lines_after, lines_same}}
use Rattle.scheduler.proofs.Past.{until_stops, until_goes, until_append, until_length, after_past, rounds_same, round_falls, room_at_last}

pub append_empty : {A : Type 0} (xs : List A) → xs ++ [] ≡ xs
append_empty [] = refl
append_empty {A} (x ∷ xs) = ap (λ (l : List A). x ∷ l) (append_empty xs)

ended_is : (x : ℕ) (t : Turned) → map (λ e. e.1) (ends_by x t) ≡ ended_in t
ended_is x Empty = refl
ended_is x Goes = refl
ended_is x (Ended e) = refl

map_append : (xs ys : List (ℕ × JobEnd)) → map (λ e. e.1) (xs ++ ys) ≡ map (λ e. e.1) xs ++ map (λ e. e.1) ys
map_append [] ys = refl
map_append (y ∷ xs) ys = ap (λ (l : List JobEnd). y.1 ∷ l) (map_append xs ys)

chained : (xs ys : List (ℕ × JobEnd)) (p : Past) → ends_then xs (ends_then ys p) ≡ ends_then (xs ++ ys) p
chained xs ys p = ap (λ (l : List (ℕ × JobEnd)). let q : Past = record { ends = l; after = p.after; marks = p.marks } in q) (sym (append_assoc xs ys p.ends))

pub passed : (numbered : List (ℕ × JobEnd)) (ends : List JobEnd) (now : SchedulerState) (rest : Marks) (p : Past)
    → map (λ e. e.1) numbered ≡ ends → p ≡ ends_then numbered (nothing rest now) → Passed ends now rest p
passed numbered ends now rest p is whole = record {
  ended = ap (λ (q : Past). map (λ e. e.1) q.ends) whole ∙ ap (λ (l : List (ℕ × JobEnd)). map (λ e. e.1) l) (append_empty numbered) ∙ is;
  after = ap (λ (q : Past). q.after) whole;
  marks = ap (λ (q : Past). q.marks) whole;
}

module _ (stop : SchedulerState → Bool) where
  pub begin : (E : List ℕ) (w : SchedulerState) (a : Standing) → Ahead stop E w [] E w a a
  begin E w a = record { marks = []; numbered = []; ended = refl; is = λ rest. refl; lines = []; tells = λ rest. refl; audited = puts_nothing a }

  -- where it stops, no turn is given
  pub ahead_skip : (E : List ℕ) (w : SchedulerState) (ends : List JobEnd) (s : ℕ) (F : List ℕ) (now : SchedulerState) (a b : Standing) → stop now ≡ true
      → Ahead stop E w ends (s ∷ F) now a b → Ahead stop E w ends F now a b
  ahead_skip E w ends s F now a b d h = record {
    marks = h.marks;
    numbered = h.numbered;
    ended = h.ended;
    is = λ rest. h.is rest ∙ ap (ends_then h.numbered) (until_stops stop (s ∷ F) rest now d ∙ sym (until_stops stop F rest now d));
    lines = h.lines;
    tells = λ rest. h.tells rest ∙ ap (λ (l : List ℕ). h.lines ++ l) (lines_stop stop (s ∷ F) rest now d ∙ sym (lines_stop stop F rest now d));
    audited = h.audited;
  }

  -- and elsewhere one
  pub ahead_more : (E : List ℕ) (w : SchedulerState) (ends ends' : List JobEnd) (s : ℕ) (F : List ℕ) (now now' : SchedulerState) (t : Turned) (a b c : Standing) → stop now ≡ false
      → Ahead stop E w ends (s ∷ F) now a b → TurnOr s now t now' b c → ends' ≡ ends ++ ended_in t → Ahead stop E w ends' F now' a c
  ahead_more E w ends ends' s F now now' t a b c d h one e = record {
    marks = h.marks ++ one.mark ∷ [];
    numbered = h.numbered ++ ends_by s t;
    ended = map_append h.numbered (ends_by s t) ∙ ap (λ (l : List JobEnd). l ++ map (λ e. e.1) (ends_by s t)) h.ended ∙ ap (λ (l : List JobEnd). ends ++ l) (ended_is s t) ∙ sym e;
    is = λ rest.
        ap (λ (m : Marks). until stop E m w) (append_assoc h.marks (one.mark ∷ []) rest)
        ∙ h.is (one.mark ∷ rest)
        ∙ ap (ends_then h.numbered) (until_goes stop s F (one.mark ∷ rest) now d
        ∙ ap (λ (p : Turned × SchedulerState). ends_then (ends_by s p.0) (until stop F rest p.1)) one.is)
        ∙ chained h.numbered (ends_by s t) (until stop F rest now');
    lines = h.lines ++ turn_lines one.mark s now;
    tells = λ rest.
        ap (λ (m : Marks). lines_until stop E m w) (append_assoc h.marks (one.mark ∷ []) rest)
        ∙ h.tells (one.mark ∷ rest)
        ∙ ap (λ (l : List ℕ). h.lines ++ l) (lines_go stop s F (one.mark ∷ rest) now d
        ∙ ap (λ (p : Turned × SchedulerState). turn_lines one.mark s now ++ lines_until stop F rest p.1) one.is)
        ∙ sym (append_assoc h.lines (turn_lines one.mark s now) (lines_until stop F rest now'));
    audited = puts_then a b c h.lines (turn_lines one.mark s now) h.audited one.audited;
  }

  -- all of them
  pub ahead_done : (E : List ℕ) (w : SchedulerState) (ends : List JobEnd) (F : List ℕ) (now : SchedulerState) (a b : Standing) → F ≡ [] → Ahead stop E w ends F now a b → UntilIs stop E w ends now a b
  ahead_done E w ends F now a b none h = record {
    marks = h.marks;
    is = λ rest. passed h.numbered ends now rest (until stop E (h.marks ++ rest) w) h.ended
        (h.is rest ∙ ap (λ (l : List ℕ). ends_then h.numbered (until stop l rest now)) none);
    lines = h.lines;
    tells = λ rest. h.tells rest ∙ ap (λ (l : List ℕ). h.lines ++ lines_until stop l rest now) none ∙ append_empty h.lines;
    audited = h.audited;
  }

  -- the loop over a round
  pub round_begins : (w : SchedulerState) (before : List JobEnd) (a : Standing) → RoundTo stop w before before (range_with_len (0 + 1) (length w.slots - 0)) w a a
  round_begins w before a =
      let e : length w.slots ≡ length w.slots - 0 = omega arith in
      subst (λ (n : ℕ). RoundTo stop w before before (range_with_len 1 n) w a a) e (record { more = []; grown = sym (append_empty before); is = begin (range_with_len 1 (length w.slots)) w a })

  from_step : (s n : ℕ) → s < n → range_with_len (s + 1) (n - s) ≡ (s + 1) ∷ range_with_len (s + 1 + 1) (n - (s + 1))
  from_step s n h =
      let e : n - s ≡ suc (n - (s + 1)) = omega (arith, h) in
      ap (range_with_len (s + 1)) e

  pub round_skip : (w : SchedulerState) (before ends : List JobEnd) (s n : ℕ) (now : SchedulerState) (a b : Standing) → s < n → stop now ≡ true
      → RoundTo stop w before ends (range_with_len (s + 1) (n - s)) now a b → RoundTo stop w before ends (range_with_len (s + 1 + 1) (n - (s + 1))) now a b
  round_skip w before ends s n now a b below d r = record {
    more = r.more;
    grown = r.grown;
    is = ahead_skip (range_with_len 1 (length w.slots)) w r.more (s + 1) (range_with_len (s + 1 + 1) (n - (s + 1))) now a b d
        (subst (λ (F : List ℕ). Ahead stop (range_with_len 1 (length w.slots)) w r.more F now a b) (from_step s n below) r.is);
  }

  pub round_turn : (w : SchedulerState) (before ends ends' : List JobEnd) (s n : ℕ) (now now' : SchedulerState) (t : Turned) (a b c : Standing) → s < n → stop now ≡ false
      → RoundTo stop w before ends (range_with_len (s + 1) (n - s)) now a b → TurnOr (s + 1) now t now' b c → ends' ≡ ends ++ ended_in t
      → RoundTo stop w before ends' (range_with_len (s + 1 + 1) (n - (s + 1))) now' a c
  round_turn w before ends ends' s n now now' t a b c below d r one is = record {
    more = r.more ++ ended_in t;
    grown = is ∙ ap (λ (l : List JobEnd). l ++ ended_in t) r.grown ∙ append_assoc before r.more (ended_in t);
    is = ahead_more (range_with_len 1 (length w.slots)) w r.more (r.more ++ ended_in t) (s + 1) (range_with_len (s + 1 + 1) (n - (s + 1))) now now' t a b c d
        (subst (λ (F : List ℕ). Ahead stop (range_with_len 1 (length w.slots)) w r.more F now a b) (from_step s n below) r.is) one refl;
  }

  pub round_step : (w : SchedulerState) (before ends ends' : List JobEnd) (s n : ℕ) (now now' : SchedulerState) (a b c : Standing) → s < n
      → RoundTo stop w before ends (range_with_len (s + 1) (n - s)) now a b → Unless stop (s + 1) now ends ends' now' b c
      → RoundTo stop w before ends' (range_with_len (s + 1 + 1) (n - (s + 1))) now' a c
  round_step w before ends ends' s n now now' a b c below r (inl u) =
      let same = round_skip w before ends s n now a b below u.0 r in
      subst (λ (y : Standing). RoundTo stop w before ends' (range_with_len (s + 1 + 1) (n - (s + 1))) now' a y) (sym u.3)
      (subst (λ (l : List JobEnd). RoundTo stop w before l (range_with_len (s + 1 + 1) (n - (s + 1))) now' a b) (sym u.1)
      (subst (λ (v : SchedulerState). RoundTo stop w before ends (range_with_len (s + 1 + 1) (n - (s + 1))) v a b) (sym u.2) same))
  round_step w before ends ends' s n now now' a b c below r (inr u) = round_turn w before ends ends' s n now now' u.1.told a b c below u.0 r u.1.is u.1.kept

-- a whole round
module _ (stop : SchedulerState → Bool) (size : ℕ) (at_last : (v : SchedulerState) → length v.slots ≡ size → is_done v ≡ true → stop v ≡ true)
    (w : SchedulerState) (ends : List JobEnd) (now : SchedulerState) (a b : Standing) (is_size : length w.slots ≡ size) (h : Ahead stop (range_with_len 1 size) w ends [] now a b) where
  pub round_length : length now.slots ≡ size
  round_length = sym (ap (λ (p : Past). length p.after.slots) (h.is [])) ∙ until_length stop (range_with_len 1 size) (h.marks ++ []) w ∙ is_size

  pub round_less : stop w ≡ false → suc (turns_left now.slots) ≤ turns_left w.slots
  round_less busy =
      subst (λ (p : Past). suc (turns_left p.after.slots) ≤ turns_left w.slots) (h.is []) (round_falls stop size at_last (h.marks ++ []) w is_size busy)

  -- is first, and then the rounds of what is left
  pub round_then : stop w ≡ false → (rest : Marks) → rounds_until stop (h.marks ++ rest) w ≡ ends_then h.numbered (rounds_until stop rest now)
  round_then busy rest =
      let less = round_less busy in
      let n = turns_left w.slots in
      ap (λ (k : ℕ). until stop (rounds n k) (h.marks ++ rest) w) is_size
      ∙ rounds_same stop size at_last n (suc n) (h.marks ++ rest) w is_size (omega arith) (omega arith)
      ∙ until_append stop (range_with_len 1 size) (rounds n size) (h.marks ++ rest) w
      ∙ ap (after_past stop (rounds n size)) (h.is rest)
      ∙ ap (λ (l : List (ℕ × JobEnd)). let p = until stop (rounds n size) rest now in let q : Past = record { ends = l ++ p.ends; after = p.after; marks = p.marks } in q) (append_empty h.numbered)
      ∙ ap (ends_then h.numbered) (rounds_same stop size at_last n (turns_left now.slots) rest now round_length (omega (arith, less)) (omega arith)
      ∙ ap (λ (k : ℕ). until stop (rounds (turns_left now.slots) k) rest now) (sym round_length))

  -- and so are its lines
  pub round_tells : stop w ≡ false → (rest : Marks) → lines_of_rounds stop (h.marks ++ rest) w ≡ h.lines ++ lines_of_rounds stop rest now
  round_tells busy rest =
      let less = round_less busy in
      let n = turns_left w.slots in
      ap (λ (k : ℕ). lines_until stop (rounds n k) (h.marks ++ rest) w) is_size
      ∙ lines_same stop size at_last n (suc n) (h.marks ++ rest) w is_size (omega arith) (omega arith)
      ∙ lines_append stop (range_with_len 1 size) (rounds n size) (h.marks ++ rest) w
      ∙ ap (lines_after stop (lines_until stop (range_with_len 1 size) (h.marks ++ rest) w) (rounds n size)) (h.is rest)
      ∙ ap (λ (l : List ℕ). l ++ lines_until stop (rounds n size) rest now) (h.tells rest ∙ append_empty h.lines)
      ∙ ap (λ (l : List ℕ). h.lines ++ l) (lines_same stop size at_last n (turns_left now.slots) rest now round_length (omega (arith, less)) (omega arith)
      ∙ ap (λ (k : ℕ). lines_until stop (rounds (turns_left now.slots) k) rest now) (sym round_length))

-- the loop over rounds
pub going_begins : (stop : SchedulerState → Bool) (w : SchedulerState) (a : Standing) → Going stop w [] w a a
going_begins stop w a = record { marks = []; numbered = []; ended = refl; is = λ rest. refl; lines = []; tells = λ rest. refl; audited = puts_nothing a }

module _ (stop : SchedulerState → Bool) where
  pub going_more : (w : SchedulerState) (ends : List JobEnd) (now now' : SchedulerState) (more : List JobEnd) (a b c : Standing)
      → ((v : SchedulerState) → length v.slots ≡ length now.slots → is_done v ≡ true → stop v ≡ true) → stop now ≡ false
      → Going stop w ends now a b → Ahead stop (range_with_len 1 (length now.slots)) now more [] now' b c → Going stop w (ends ++ more) now' a c
  going_more w ends now now' more a b c at_last busy h one = record {
    marks = h.marks ++ one.marks;
    numbered = h.numbered ++ one.numbered;
    ended = map_append h.numbered one.numbered ∙ ap (λ (l : List JobEnd). l ++ map (λ e. e.1) one.numbered) h.ended ∙ ap (λ (l : List JobEnd). ends ++ l) one.ended;
    is = λ rest.
        ap (λ (m : Marks). rounds_until stop m w) (append_assoc h.marks one.marks rest)
        ∙ h.is (one.marks ++ rest)
        ∙ ap (ends_then h.numbered) (round_then stop (length now.slots) at_last now more now' b c refl one busy rest)
        ∙ chained h.numbered one.numbered (rounds_until stop rest now');
    lines = h.lines ++ one.lines;
    tells = λ rest.
        ap (λ (m : Marks). lines_of_rounds stop m w) (append_assoc h.marks one.marks rest)
        ∙ h.tells (one.marks ++ rest)
        ∙ ap (λ (l : List ℕ). h.lines ++ l) (round_tells stop (length now.slots) at_last now more now' b c refl one busy rest)
        ∙ sym (append_assoc h.lines one.lines (lines_of_rounds stop rest now'));
    audited = puts_then a b c h.lines one.lines h.audited one.audited;
  }

  -- some rounds after others
  going_on : (w : SchedulerState) (ends : List JobEnd) (now now' : SchedulerState) (more : List JobEnd) (a b c : Standing)
      → Going stop w ends now a b → Going stop now more now' b c → Going stop w (ends ++ more) now' a c
  going_on w ends now now' more a b c h on = record {
    marks = h.marks ++ on.marks;
    numbered = h.numbered ++ on.numbered;
    ended = map_append h.numbered on.numbered ∙ ap (λ (l : List JobEnd). l ++ map (λ e. e.1) on.numbered) h.ended ∙ ap (λ (l : List JobEnd). ends ++ l) on.ended;
    is = λ rest.
        ap (λ (m : Marks). rounds_until stop m w) (append_assoc h.marks on.marks rest)
        ∙ h.is (on.marks ++ rest)
        ∙ ap (ends_then h.numbered) (on.is rest)
        ∙ chained h.numbered on.numbered (rounds_until stop rest now');
    lines = h.lines ++ on.lines;
    tells = λ rest.
        ap (λ (m : Marks). lines_of_rounds stop m w) (append_assoc h.marks on.marks rest)
        ∙ h.tells (on.marks ++ rest)
        ∙ ap (λ (l : List ℕ). h.lines ++ l) (on.tells rest)
        ∙ sym (append_assoc h.lines on.lines (lines_of_rounds stop rest now'));
    audited = puts_then a b c h.lines on.lines h.audited on.audited;
  }

  pub going_to : (w : SchedulerState) (before ends : List JobEnd) (now now' : SchedulerState) (a b c : Standing)
      → Going stop w before now a b → GoingTo stop now before ends now' b c → Going stop w ends now' a c
  going_to w before ends now now' a b c h on = subst (λ (l : List JobEnd). Going stop w l now' a c) (sym on.grown) (going_on w before now now' on.more a b c h on.is)

  -- one round
  pub going_round : (before ends : List JobEnd) (now now' : SchedulerState) (a b : Standing) → ((v : SchedulerState) → length v.slots ≡ length now.slots → is_done v ≡ true → stop v ≡ true) → stop now ≡ false
      → RoundTo stop now before ends [] now' a b → GoingTo stop now before ends now' a b
  going_round before ends now now' a b at_last busy r = record {
    more = r.more;
    grown = r.grown;
    is = going_more now [] now now' r.more a a b at_last busy (going_begins stop now a) r.is;
  }

  pub going_done : (w : SchedulerState) (ends : List JobEnd) (now : SchedulerState) (a b : Standing) → stop now ≡ true → Going stop w ends now a b → RoundsAre stop w ends now a b
  going_done w ends now a b done h = record {
    marks = h.marks;
    is = λ rest. passed h.numbered ends now rest (rounds_until stop (h.marks ++ rest) w) h.ended
        (h.is rest ∙ ap (ends_then h.numbered) (until_stops stop (rounds (turns_left now.slots) (length now.slots)) rest now done));
    lines = h.lines;
    tells = λ rest. h.tells rest ∙ ap (λ (l : List ℕ). h.lines ++ l) (lines_stop stop (rounds (turns_left now.slots) (length now.slots)) rest now done) ∙ append_empty h.lines;
    audited = h.audited;
  }

-- both goals are met at the latest when all slots are empty
pub goal_at_last : (g : Goal) (size : ℕ) → size ≢ 0 → (v : SchedulerState) → length v.slots ≡ size → is_done v ≡ true → stop_of g v ≡ true
goal_at_last goal.Empty size some v is h = h
goal_at_last goal.Room size some v is h = room_at_last size some v is h

pub below : (a b : ℕ) → suc a ≤ b → a < b
below a b h = omega (arith, h)

-- a slot that is empty is passed
none_where : (o : Option SlotState) → is_some o ≡ false → o ≡ None
none_where None h = refl
none_where (Some x) h = absurd cc

pub no_turn : (stop : SchedulerState → Bool) (s : ℕ) (w : SchedulerState) (ends : List JobEnd) (a : Standing) → is_some (job_in s w) ≡ false → Unless stop s w ends ends w a a
no_turn stop s w ends a none = by (stop w) refl
  where
    by : (b : Bool) → stop w ≡ b → Unless stop s w ends ends w a a
    by true e = inl (e, refl, refl, refl)
    by false e = inr (e, record { told = Empty; is = empty_turn s w a (none_where (job_in s w) none); kept = sym (append_empty ends) })
