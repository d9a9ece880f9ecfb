-- A larger number than the statements that may still begin changes nothing.
use Rattle.std.proofs.Common.{◌≡◌, ℕ, zero, suc, ◌+◌, ◌≤◌, ◌<◌, Option, Some, None, refl, sym, ap, ◌∙◌, subst, arith}
use Rattle.std.specs.{Prelude.{slice_get}, Option.{option_map_or}}
use Rattle.interaction.{specs.Interactions.{Interaction, Returns, Asks, ◌>>=◌}, specs.Endings.{EndsIn}, proofs.Enough.{ends_in_then, same_then, ends_in_weaker}}
use Rattle.sno_expression.specs.Expressions.{Expression}
use Rattle.sno_semantics.specs.{declared.got.Halt.TheVariants.{Normal, StatementLimit}, declared.got.Evaluated.{Evaluated}, Evaluation.{evaluate, name_of}}
use Rattle.sno_semantics.specs.{declared.got.Evaluated.TheVariants.{Halts}, Keeping.{Keeping}, Lines.{Point, At, End, Return, FailureReturn, Line, Lines}}
use Rattle.sno_semantics.specs.{Execution.{Jump}, Running.{Ended, executed, passed, if_begun, run_line, run, settled, turn_line, turn}, Limits.{Counts}}
use Rattle.sno_semantics.proofs.Relating.{Keeps, executed_alike, passed_alike}

weaker : {Q R A K : Type 0} (allowed : K → ℕ) (b n : ℕ) (t : Interaction Q R (A × K)) → n ≤ b
    → EndsIn (λ (r : A × K). allowed r.1 ≤ n) t → EndsIn (λ (r : A × K). allowed r.1 ≤ b) t
weaker {A = A} {K = K} allowed b n t le h = ends_in_weaker (λ (r : A × K). allowed r.1 ≤ n) (λ (r : A × K). allowed r.1 ≤ b) t (λ r x. omega arith) h

ends_behind : {Q R A B : Type 0} (P : B → Type 0) (t : Interaction Q R A) (after : Interaction Q R B) → EndsIn P after → EndsIn P (t >>= (λ _. after))
ends_behind P (Returns a) after h = h
ends_behind P (Asks q f) after h = λ r. ends_behind P (f r) after h

module _ {Q R K : Type 0} (allowed : K → ℕ) (b : ℕ) where
  -- two interactions that are the same, and leave a state in which at most b statements may begin
  abbrev pub Alike : {A : Type 0} → Interaction Q R (A × K) → Interaction Q R (A × K) → Type 0
  Alike {A} t t' = (t ≡ t') × EndsIn (λ (r : A × K). allowed r.1 ≤ b) t'

  both : {A B : Type 0} (t t' : Interaction Q R (A × K)) (k k' : A × K → Interaction Q R (B × K)) → Alike t t' → ((r : A × K) → allowed r.1 ≤ b → Alike (k r) (k' r))
      → Alike (t >>= k) (t' >>= k')
  both {A} {B} t t' k k' h g = (
    ap (λ (z : Interaction Q R (A × K)). z >>= k) h.0 ∙ same_then (λ (r : A × K). allowed r.1 ≤ b) t' k k' h.1 (λ r x. (g r x).0),
    ends_in_then (λ (r : A × K). allowed r.1 ≤ b) (λ (r : B × K). allowed r.1 ≤ b) t' k' h.1 (λ r x. (g r x).1),
  )

  -- they are so from a state on in which at most b may begin
  abbrev AlikeFrom : (A : Type 0) → K → Interaction Q R (A × K) → Interaction Q R (A × K) → Type 0
  AlikeFrom A st t t' = allowed st ≤ b → Alike t t'

  alike_done : (A : Type 0) (r : A × K) → AlikeFrom A r.1 (Returns r) (Returns r)
  alike_done A r = λ h. (refl, h)

  alike_then : (A C : Type 0) (st : K) (t t' : Interaction Q R (A × K)) (k k' : A × K → Interaction Q R (C × K))
      → AlikeFrom A st t t' → ((r : A × K) → AlikeFrom C r.1 (k r) (k' r)) → AlikeFrom C st (t >>= k) (t' >>= k')
  alike_then A C st t t' k k' h g = λ le. both t t' k k' (h le) (λ r x. g r x)

  keeps : (keeping : Keeping Q R K) → Counts keeping allowed → Keeps AlikeFrom alike_done alike_then keeping
  keeps keeping counts = record {
    used = λ n st h. (refl, weaker allowed b (allowed st) (keeping.used n st) h (counts.used n st));
    assigned = λ n v st h. (refl, weaker allowed b (allowed st) (keeping.assigned n v st) h (counts.assigned n v st));
    keyword_set = λ n v st h. (refl, (let less : allowed (keeping.keyword_set n v st).1 ≤ allowed st = counts.keyword_set n v st in omega (arith, less, h)));
    item_set = λ t k v st h. (refl, (let less : allowed (keeping.item_set t k v st).1 ≤ allowed st = counts.item_set t k v st in omega (arith, less, h)));
    matched = λ text p st h. (refl, weaker allowed b (allowed st) (keeping.matched text p st) h (counts.matched text p st));
    entered = λ f vs entry st inside is t t' h le.
        h (let less : allowed inside ≤ allowed st = counts.entered f vs entry st inside is in omega (arith, less, le));
    left = λ got st h. (refl, (let less : allowed (keeping.left st).1 ≤ allowed st = counts.left st in omega (arith, less, h)));
    primitive = λ f vs st h. (refl, weaker allowed b (allowed st) (keeping.primitive f vs st) h (counts.primitive f vs st));
  }

module _ {Q R K : Type 0} (allowed : K → ℕ) (keeping : Keeping Q R K) (counts : Counts keeping allowed) (program : Lines Expression Expression) where
  abbrev Go : Type 0
  Go = Point → K → Interaction Q R (Evaluated × K)

  -- from a point on, as they are
  abbrev SameFrom : ℕ → Go → Go → Type 0
  SameFrom b go go' = (p : Point) (st : K) → allowed st ≤ b → Alike {Q = Q} {R = R} allowed b (go p st) (go' p st)

  pub executed_same : (b : ℕ) (go go' : Go) → SameFrom b go go' → (line : Line Expression Expression) (i : ℕ) (st : K) → allowed st ≤ b
      → Alike {Q = Q} {R = R} allowed b (executed keeping evaluate name_of program go line i st) (executed keeping evaluate name_of program go' line i st)
  executed_same b go go' g line i st h =
      executed_alike (AlikeFrom {Q = Q} {R = R} allowed b) (alike_done allowed b) (alike_then allowed b) keeping (keeps allowed b keeping counts)
      program go go' g line i st h

  passed_same : (b : ℕ) (go go' : Go) → SameFrom b go go' → (r : Jump × K) → allowed r.1 ≤ b
      → Alike {Q = Q} {R = R} allowed b (passed keeping evaluate name_of program go r) (passed keeping evaluate name_of program go' r)
  passed_same b go go' g r h =
      passed_alike (AlikeFrom {Q = Q} {R = R} allowed b) (alike_done allowed b) (alike_then allowed b) keeping (keeps allowed b keeping counts)
      program go go' g r h

  abbrev goes : ℕ → Go
  goes n = run keeping evaluate name_of program n

  -- a statement that has begun, and all that follows it
  abbrev does : Go → Line Expression Expression → ℕ → K → Interaction Q R (Jump × K)
  does go line i st = executed keeping evaluate name_of program go line i st

  abbrev follows : Go → Line Expression Expression → ℕ → K → Interaction Q R (Evaluated × K)
  follows go line i st = does go line i st >>= passed keeping evaluate name_of program go

  -- where it begins
  abbrev begins : Go → Line Expression Expression → ℕ → Option K → K → Interaction Q R (Evaluated × K)
  begins go line i o st = if_begun keeping evaluate name_of program (Halts StatementLimit) o st (λ st1. follows go line i st1)

  abbrev none_left : Option (Line Expression Expression) → K → Interaction Q R (Evaluated × K)
  none_left o st = Returns (Halts (option_map_or (λ _. StatementLimit) o Normal), st)

  abbrev at_line : Go → ℕ → Option (Line Expression Expression) → K → Interaction Q R (Evaluated × K)
  at_line go i o st = run_line keeping evaluate name_of program go i o st

  none_begin : (go : Go) (i : ℕ) (line : Line Expression Expression) (st : K) → allowed st ≤ 0 → (o : Option K) → keeping.begun (i + 1) st ≡ o
      → begins go line i o st ≡ none_left (Some line) st
  none_begin go i line st h None is = refl
  none_begin go i line st h (Some after) is =
      let less : allowed after < allowed st = counts.begun (i + 1) st after is in
      absurd (omega arith)

  line_stops : (go : Go) (i : ℕ) (o : Option (Line Expression Expression)) (st : K) → allowed st ≤ 0 → at_line go i o st ≡ none_left o st
  line_stops go i None st h = refl
  line_stops go i (Some line) st h = none_begin go i line st h (keeping.begun (i + 1) st) refl

  run_stops : (n : ℕ) (p : Point) (st : K) → allowed st ≤ 0 → goes (suc n) p st ≡ goes zero p st
  run_stops n (At i) st h = line_stops (goes n) i (slice_get program.lines i) st h
  run_stops n End st h = refl
  run_stops n Return st h = refl
  run_stops n FailureReturn st h = refl

  abbrev LeavesWithin : ℕ → Interaction Q R (Evaluated × K) → Type 0
  LeavesWithin b t = EndsIn (λ (r : Evaluated × K). allowed r.1 ≤ b) t

  none_within : (b : ℕ) (o : Option (Line Expression Expression)) (st : K) → allowed st ≤ b → LeavesWithin b (none_left o st)
  none_within b None st h = h
  none_within b (Some line) st h = h

  zero_within : (b : ℕ) (p : Point) (st : K) → allowed st ≤ b → LeavesWithin b (goes zero p st)
  zero_within b (At i) st h = none_within b (slice_get program.lines i) st h
  zero_within b End st h = h
  zero_within b Return st h = h
  zero_within b FailureReturn st h = h

  -- what is told of a beginning does not matter
  noted_then : (b : ℕ) (t t' : Interaction Q R (Evaluated × K)) → Alike {Q = Q} {R = R} allowed b t t'
      → Alike {Q = Q} {R = R} allowed b (keeping.noted >>= (λ _. t)) (keeping.noted >>= (λ _. t'))
  noted_then b t t' h = (
    ap (λ (z : Interaction Q R (Evaluated × K)). keeping.noted >>= (λ _. z)) h.0,
    ends_behind (λ (r : Evaluated × K). allowed r.1 ≤ b) keeping.noted t' h.1,
  )

  follows_same : (n m b : ℕ) → SameFrom b (goes n) (goes m) → (i : ℕ) (line : Line Expression Expression) (st : K) → allowed st ≤ b
      → Alike {Q = Q} {R = R} allowed b (follows (goes n) line i st) (follows (goes m) line i st)
  follows_same n m b g i line st h =
      both allowed b (does (goes n) line i st) (does (goes m) line i st)
      (passed keeping evaluate name_of program (goes n)) (passed keeping evaluate name_of program (goes m))
      (executed_same b (goes n) (goes m) g line i st h) (λ r x. passed_same b (goes n) (goes m) g r x)

  begun_same : (n m b : ℕ) → SameFrom b (goes n) (goes m)
      → (i : ℕ) (line : Line Expression Expression) (st : K) → allowed st ≤ suc b → (o : Option K) → keeping.begun (i + 1) st ≡ o
      → Alike {Q = Q} {R = R} allowed (suc b) (begins (goes n) line i o st) (begins (goes m) line i o st)
  begun_same n m b g i line st h None is = (refl, h)
  begun_same n m b g i line st h (Some after) is =
      let less : allowed after < allowed st = counts.begun (i + 1) st after is in
      let within : allowed after ≤ b = omega arith in
      let at = follows_same n m b g i line after within in
      noted_then (suc b) (follows (goes n) line i after) (follows (goes m) line i after)
      (at.0, weaker allowed (suc b) b (follows (goes m) line i after) (omega arith) at.1)

  line_same : (n m b : ℕ) → SameFrom b (goes n) (goes m) → (i : ℕ) (o : Option (Line Expression Expression)) (st : K) → allowed st ≤ suc b
      → Alike {Q = Q} {R = R} allowed (suc b) (at_line (goes n) i o st) (at_line (goes m) i o st)
  line_same n m b g i None st h = (refl, h)
  line_same n m b g i (Some line) st h = begun_same n m b g i line st h (keeping.begun (i + 1) st) refl

  point_same : (n m b : ℕ) → SameFrom b (goes n) (goes m) → SameFrom (suc b) (goes (suc n)) (goes (suc m))
  point_same n m b g (At i) st h = line_same n m b g i (slice_get program.lines i) st h
  point_same n m b g End st h = (refl, h)
  point_same n m b g Return st h = (refl, h)
  point_same n m b g FailureReturn st h = (refl, h)

  pub same_runs : (n m b : ℕ) → b ≤ n → b ≤ m → SameFrom b (goes n) (goes m)
  same_runs zero zero b le le' p st h = (refl, zero_within b p st h)
  same_runs zero (suc m) b le le' p st h =
      let stop : goes (suc m) p st ≡ goes zero p st = run_stops m p st (omega arith) in
      (sym stop, subst (λ (t : Interaction Q R (Evaluated × K)). LeavesWithin b t) (sym stop) (zero_within b p st h))
  same_runs (suc n) zero b le le' p st h = (run_stops n p st (omega arith), zero_within b p st h)
  same_runs (suc n) (suc m) zero le le' p st h =
      let stop : goes (suc m) p st ≡ goes zero p st = run_stops m p st h in
      (run_stops n p st h ∙ sym stop, subst (λ (t : Interaction Q R (Evaluated × K)). LeavesWithin zero t) (sym stop) (zero_within zero p st h))
  same_runs (suc n) (suc m) (suc b) le le' p st h = point_same n m b (λ p1 st1 h1. same_runs n m b (omega arith) (omega arith) p1 st1 h1) p st h

  pub exact_run : (n m : ℕ) (p : Point) (st : K) → allowed st ≤ n → allowed st ≤ m → goes n p st ≡ goes m p st
  exact_run n m p st le le' = (same_runs n m (allowed st) le le' p st (omega arith)).0

  turn_begun_same : (n m i : ℕ) (line : Line Expression Expression) (st : K) → allowed st ≤ n → allowed st ≤ m → (o : Option K) → keeping.begun (i + 1) st ≡ o
      → if_begun keeping evaluate name_of program (Ended StatementLimit) o st (λ st1. does (goes n) line i st1 >>= (λ next. Returns (settled keeping evaluate name_of program next)))
      ≡ if_begun keeping evaluate name_of program (Ended StatementLimit) o st (λ st1. does (goes m) line i st1 >>= (λ next. Returns (settled keeping evaluate name_of program next)))
  turn_begun_same n m i line st le le' None is = refl
  turn_begun_same n m i line st le le' (Some after) is =
      let less : allowed after < allowed st = counts.begun (i + 1) st after is in
      ap (λ (t : Interaction Q R (Jump × K)). keeping.noted >>= (λ _. t >>= (λ next. Returns (settled keeping evaluate name_of program next))))
      (executed_same (allowed after) (goes n) (goes m) (same_runs n m (allowed after) (omega arith) (omega arith)) line i after (omega arith)).0

  turn_line_same : (n m i : ℕ) (o : Option (Line Expression Expression)) (st : K) → allowed st ≤ n → allowed st ≤ m
      → turn_line keeping evaluate name_of program n i o st ≡ turn_line keeping evaluate name_of program m i o st
  turn_line_same n m i None st le le' = refl
  turn_line_same n m i (Some line) st le le' = turn_begun_same n m i line st le le' (keeping.begun (i + 1) st) refl

  pub exact_turn : (n m : ℕ) (p : Point) (st : K) → allowed st ≤ n → allowed st ≤ m
      → turn keeping evaluate name_of program n p st ≡ turn keeping evaluate name_of program m p st
  exact_turn n m (At i) st le le' = turn_line_same n m i (slice_get program.lines i) st le le'
  exact_turn n m End st le le' = refl
  exact_turn n m Return st le le' = refl
  exact_turn n m FailureReturn st le le' = refl
