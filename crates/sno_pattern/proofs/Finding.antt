-- A simple pattern asks nothing, and comes out at the first of its ends.
use Rattle.std.specs.Prelude.{◌≡◌, ℕ, zero, suc, ◌+◌, ◌-◌, ◌<◌, ◌≤◌, List, [], ◌∷◌, ◌++◌, length, take, drop, Bool, true, false, cond, not, ◌&&◌, if◌then◌else◌, nat_eq, nat_le, nat_lt}
use Rattle.std.proofs.Common.{refl, sym, ap, ◌∙◌, arith, length-take, length-drop}
use Rattle.std.specs.List.{starts_with, flat_map, filter, prefix_len, position_or_len, range_with_len}
use Rattle.std.proofs.lemmas.{Grind.{flat_map-append}, List.{append-nil}, Bool.Decides.{nat_tests}}
use lib.Pointwise.{pointwise_long}
use Rattle.interaction.specs.Interactions.{Returns, Asks}
use Rattle.sno_text.specs.{Patterns.{Pattern}, Sets.{is_one_of}, Balance.{part, in_pairs, balanced_ends}}
use Rattle.sno_text.specs.Patterns as pattern
use Rattle.sno_pattern.specs.{declared.ending.Pending.{Pending}, Places.{IsSimple, ends_of_turns, one_end, ends_of, Finds, Comes}}
use Rattle.sno_pattern.proofs.Trying.{after_end}
use Rattle.sno_pattern.specs.Steps.{Goal, Meet, More, EndConditional, EndImmediate, End, Success, Failure, WholeFails, OutOfSteps, Fault, Trying, Way, ends, on_failure, at_each, row, attempt, outcome}
use Rattle.mon_text.specs.Beginnings.{first_passes}

-- each is at a cursor from c on, and within the text
abbrev pub Between : ℕ → ℕ → List ℕ → Type 0
Between l c [] = Unit {0}
Between l c (e ∷ es) = (c ≤ e) × (e ≤ l) × Between l c es

between_append : (l c : ℕ) (xs ys : List ℕ) → Between l c xs → Between l c ys → Between l c (xs ++ ys)
between_append l c [] ys h k = k
between_append l c (x ∷ xs) ys h k = (h.0, h.1, between_append l c xs ys h.2 k)

between_less : (l b c : ℕ) (xs : List ℕ) → b ≤ c → Between l c xs → Between l b xs
between_less l b c [] h k = tt
between_less l b c (x ∷ xs) h k = let i = k.0 in (omega arith, k.1, between_less l b c xs h k.2)

between_flat : (l c : ℕ) (f : ℕ → List ℕ) (xs : List ℕ) → ((e : ℕ) → e ≤ l → Between l e (f e)) → Between l c xs → Between l c (flat_map f xs)
between_flat l c f [] h k = tt
between_flat l c f (x ∷ xs) h k = between_append l c (f x) (flat_map f xs) (between_less l c x (f x) k.0 (h x k.1)) (between_flat l c f xs h k.2)

between_upward : (l k c : ℕ) → c + k ≤ l + 1 → Between l c (range_with_len c k)
between_upward l zero c h = tt
between_upward l (suc k) c h = (
  omega arith,
  omega arith,
  between_less l c (c + 1) (range_with_len (c + 1) k) (omega arith)
      (between_upward l k (c + 1) (omega arith)),
)

between_kept : (l c x : ℕ) (b : Bool) (xs : List ℕ) → c ≤ x → x ≤ l → Between l c xs → Between l c (cond b (x ∷ xs) xs)
between_kept l c x true xs h i k = (h, i, k)
between_kept l c x false xs h i k = k

between_filter : (l c : ℕ) (test : ℕ → Bool) (xs : List ℕ) → Between l c xs → Between l c (filter test xs)
between_filter l c test [] h = tt
between_filter l c test (x ∷ xs) h = between_kept l c x (test x) (filter test xs) h.0 h.1 (between_filter l c test xs h.2)

between_one : (l c k : ℕ) (b : Bool) → (b ≡ true → (c ≤ k) × (k ≤ l)) → Between l c (one_end b k)
between_one l c k true h = let w = h refl in (w.0, w.1, tt)
between_one l c k false h = tt

Holds : (ℕ → List ℕ) → ℕ → Type 0
Holds f l = (c : ℕ) → c ≤ l → Between l c (f c)

between_if : (l c : ℕ) (b : Bool) (xs ys : List ℕ) → Between l c xs → Between l c ys → Between l c (if b then xs else ys)
between_if l c true xs ys h k = h
between_if l c false xs ys h k = k

between_turns : (l : ℕ) (f : ℕ → List ℕ) → ((c : ℕ) → c ≤ l → Between l c (f c)) → (k c : ℕ) → c ≤ l → Between l c (ends_of_turns f k c)
between_turns l f h zero c i = (omega arith, i, tt)
between_turns l f h (suc k) c i = (
  omega arith,
  i,
  between_flat l c (λ e. if nat_eq e c then [] else ends_of_turns f k e) (f c)
      (λ e j. between_if l e (nat_eq e c) [] (ends_of_turns f k e) tt (between_turns l f h k e j)) (h c i),
)

-- what agrees at each cursor in between
flat_agrees : (l c : ℕ) (f g : ℕ → List ℕ) (xs : List ℕ) → ((e : ℕ) → c ≤ e → e ≤ l → f e ≡ g e) → Between l c xs → flat_map f xs ≡ flat_map g xs
flat_agrees l c f g [] h k = refl
flat_agrees l c f g (x ∷ xs) h k = ap (λ ys. ys ++ flat_map f xs) (h x k.0 k.1) ∙ ap (λ ys. g x ++ ys) (flat_agrees l c f g xs h k.2)

flat_none : (xs : List ℕ) → flat_map {X = ℕ} {A = ℕ} (λ e. []) xs ≡ []
flat_none [] = refl
flat_none (x ∷ xs) = flat_none xs

flat_flat : (f g : ℕ → List ℕ) (xs : List ℕ) → flat_map f (flat_map g xs) ≡ flat_map (λ e. flat_map f (g e)) xs
flat_flat f g [] = refl
flat_flat f g (x ∷ xs) = flat_map-append f (g x) (flat_map g xs) ∙ ap (λ ys. flat_map f (g x) ++ ys) (flat_flat f g xs)

eq_here : (e c : ℕ) → e ≡ c → nat_eq e c ≡ true
eq_here e c h = grind (arith, nat_tests)

-- any bound that is enough gives the same turns
turns_agree : (l : ℕ) (f : ℕ → List ℕ) → ((c : ℕ) → c ≤ l → Between l c (f c)) → (k k' c : ℕ) → c ≤ l → l - c ≤ k → l - c ≤ k'
    → ends_of_turns f k c ≡ ends_of_turns f k' c
turns_agree l f h zero zero c i j j' = refl
turns_agree l f h zero (suc k') c i j j' = ap (λ xs. c ∷ xs)
    (sym (flat_agrees l c (λ e. if nat_eq e c then [] else ends_of_turns f k' e) (λ e. []) (f c)
    (λ e a b. let same : e ≡ c = omega arith in rw (eq_here e c same) refl) (h c i) ∙ flat_none (f c)))
turns_agree l f h (suc k) zero c i j j' = ap (λ xs. c ∷ xs)
    (flat_agrees l c (λ e. if nat_eq e c then [] else ends_of_turns f k e) (λ e. []) (f c)
    (λ e a b. let same : e ≡ c = omega arith in rw (eq_here e c same) refl) (h c i) ∙ flat_none (f c))
turns_agree l f h (suc k) (suc k') c i j j' = ap (λ xs. c ∷ xs)
    (flat_agrees l c (λ e. if nat_eq e c then [] else ends_of_turns f k e) (λ e. if nat_eq e c then [] else ends_of_turns f k' e) (f c)
    (λ e a b. step e a b (nat_eq e c) refl (λ a' u u'. turns_agree l f h k k' e a' u u')) (h c i))
  where
    step : (e : ℕ) → c ≤ e → e ≤ l → (b : Bool) → nat_eq e c ≡ b → (e ≤ l → l - e ≤ k → l - e ≤ k' → ends_of_turns f k e ≡ ends_of_turns f k' e)
        → (if b then [] else ends_of_turns f k e) ≡ (if b then [] else ends_of_turns f k' e)
    step e a b true q next = refl
    step e a b false q next = let moved : c < e = grind (arith, nat_tests) in next b (omega arith) (omega arith)

-- the turns are c, and then those of each end that moves on
pub turns_are : (l : ℕ) (f : ℕ → List ℕ) → ((c : ℕ) → c ≤ l → Between l c (f c)) → (c : ℕ) → c ≤ l
    → ends_of_turns f (l - c) c ≡ c ∷ flat_map (λ e. if nat_eq e c then [] else ends_of_turns f (l - e) e) (f c)
turns_are l f h c i =
    turns_agree l f h (l - c) (suc (l - c)) c i (omega arith) (omega arith)
    ∙ ap (λ xs. c ∷ xs) (flat_agrees l c (λ e. if nat_eq e c then [] else ends_of_turns f (l - c) e) (λ e. if nat_eq e c then [] else ends_of_turns f (l - e) e)
    (f c) (λ e a b. ap (λ xs. if nat_eq e c then [] else xs) (turns_agree l f h (l - c) (l - e) e b (omega arith) (omega arith))) (h c i))

text_within : (text s : List ℕ) (c : ℕ) → c ≤ length text → starts_with nat_eq (drop c text) s ≡ true → c + length s ≤ length text
text_within text s c h q =
    let same : length s ≡ length (take (length s) (drop c text)) = pointwise_long nat_eq s (take (length s) (drop c text)) q in
    let fits : length s ≤ length text - c = omega (arith, length-take (length s) (drop c text), length-drop c text) in
    omega arith

some_first : (test : ℕ → Bool) (xs : List ℕ) → first_passes test xs ≡ true → 0 < length xs
some_first test [] h = absurd (cc (h))
some_first test (x ∷ xs) h = omega arith

first_within : (text : List ℕ) (test : ℕ → Bool) (c : ℕ) → c ≤ length text → first_passes test (drop c text) ≡ true → c + 1 ≤ length text
first_within text test c h q = let some : 0 < length (drop c text) = some_first test (drop c text) q in omega (arith, length-drop c text)

run_if : (b : Bool) (k l : ℕ) → k ≤ l → cond b (1 + k) 0 ≤ suc l
run_if true k l h = omega arith
run_if false k l h = omega arith

run_within : (test : ℕ → Bool) (xs : List ℕ) → prefix_len test xs ≤ length xs
run_within test [] = omega arith
run_within test (x ∷ xs) = run_if (test x) (prefix_len test xs) (length xs) (run_within test xs)

span_within : (text : List ℕ) (test : ℕ → Bool) (c : ℕ) → c ≤ length text → c + prefix_len test (drop c text) ≤ length text
span_within text test c h = let fits : prefix_len test (drop c text) ≤ length (drop c text) = run_within test (drop c text) in omega (arith, length-drop c text)

both_first : (a b : Bool) → (a && b) ≡ true → a ≡ true
both_first true b h = refl
both_first false b h = h

both_second : (a b : Bool) → (a && b) ≡ true → b ≡ true
both_second true b h = h
both_second false b h = absurd (cc (h))

is_le : (m n : ℕ) → nat_le m n ≡ true → m ≤ n
is_le m n h = grind (arith, nat_tests)

is_lt : (m n : ℕ) → nat_lt m n ≡ true → m ≤ n
is_lt m n h = grind (arith, nat_tests)

pub ends_between : (text : List ℕ) (p : Pattern) (c : ℕ) → c ≤ length text → Between (length text) c (ends_of text p c)
ends_between text (pattern.Text s) c h = between_one (length text) c (c + length s) (starts_with nat_eq (drop c text) s)
    (λ q. let w = text_within text s c h q in (omega arith, w))
ends_between text (pattern.Len k) c h = between_one (length text) c (c + k) (nat_le (c + k) (length text))
    (λ q. let w : c + k ≤ length text = is_le (c + k) (length text) q in (omega arith, w))
ends_between text (pattern.Pos k) c h = between_one (length text) c c (nat_eq c k) (λ q. (omega arith, h))
ends_between text (pattern.RPos k) c h = between_one (length text) c c (nat_eq (c + k) (length text)) (λ q. (omega arith, h))
ends_between text (pattern.Tab k) c h = between_one (length text) c k (nat_le c k && nat_le k (length text))
    (λ q. (is_le c k (both_first (nat_le c k) (nat_le k (length text)) q), is_le k (length text) (both_second (nat_le c k) (nat_le k (length text)) q)))
ends_between text (pattern.RTab k) c h = between_one (length text) c (length text - k) (nat_le (c + k) (length text))
    (λ q. let w : c + k ≤ length text = is_le (c + k) (length text) q in (omega arith, omega arith))
ends_between text (pattern.Any s) c h = between_one (length text) c (c + 1) (first_passes (is_one_of s) (drop c text))
    (λ q. let w = first_within text (is_one_of s) c h q in (omega arith, w))
ends_between text (pattern.NotAny s) c h = between_one (length text) c (c + 1) (first_passes (λ x. not (is_one_of s x)) (drop c text))
    (λ q. let w = first_within text (λ x. not (is_one_of s x)) c h q in (omega arith, w))
ends_between text (pattern.Span s) c h = between_one (length text) c (c + prefix_len (is_one_of s) (drop c text))
    (first_passes (is_one_of s) (drop c text)) (λ q. let w = span_within text (is_one_of s) c h in (omega arith, w))
ends_between text (pattern.Break s) c h = between_one (length text) c (c + position_or_len (is_one_of s) (drop c text))
    (nat_lt (c + position_or_len (is_one_of s) (drop c text)) (length text))
    (λ q. let w = is_lt (c + position_or_len (is_one_of s) (drop c text)) (length text) q in (omega arith, w))
ends_between text pattern.Rem c h = (h, omega arith, tt)
ends_between text pattern.Arb c h = between_upward (length text) (length text + 1 - c) c (omega arith)
ends_between text pattern.Bal c h =
    between_less (length text) c (c + 1) (balanced_ends text c) (omega arith)
    (between_filter (length text) (c + 1) (λ e. in_pairs (part text c e)) (range_with_len (c + 1) (length text - c))
    (between_upward (length text) (length text - c) (c + 1) (omega arith)))
ends_between text (pattern.Cat a b) c h = between_flat (length text) c (ends_of text b) (ends_of text a c) (λ e i. ends_between text b e i)
    (ends_between text a c h)
ends_between text (pattern.Alt a b) c h = between_append (length text) c (ends_of text a c) (ends_of text b c) (ends_between text a c h)
    (ends_between text b c h)
ends_between text (pattern.Arbno a) c h = between_turns (length text) (ends_of text a) (λ e i. ends_between text a e i) (length text - c) c h
ends_between text (pattern.Conditional a v) c h = ends_between text a c h
ends_between text (pattern.Immediate a v) c h = tt
ends_between text (pattern.Cursor v) c h = tt
ends_between text (pattern.Defer v) c h = tt
ends_between text pattern.Fail c h = tt
ends_between text pattern.Fence c h = tt
ends_between text pattern.Abort c h = tt
ends_between text pattern.Succeed c h = tt

abbrev pub GoalsSimple : List Goal → Type 0
GoalsSimple [] = Unit {0}
GoalsSimple (Meet p ∷ r) = IsSimple p × GoalsSimple r
GoalsSimple (More p d ∷ r) = IsSimple p × GoalsSimple r
GoalsSimple (EndConditional name d ∷ r) = GoalsSimple r
GoalsSimple (EndImmediate name d ∷ r) = ⊥

-- where a list of goals can end
abbrev pub list_ends : List ℕ → List Goal → ℕ → List ℕ
list_ends text [] c = c ∷ []
list_ends text (Meet p ∷ r) c = flat_map (list_ends text r) (ends_of text p c)
list_ends text (More p d ∷ r) c = if nat_eq c d then [] else flat_map (list_ends text r) (ends_of_turns (ends_of text p) (length text - c) c)
list_ends text (EndConditional name d ∷ r) c = list_ends text r c
list_ends text (EndImmediate name d ∷ r) c = list_ends text r c

after_finds : (e : End) (n : ℕ) (second : ℕ → Trying) (es fs : List ℕ) → Finds es e → ((n : ℕ) → Comes fs (second n)) → Comes (es ++ fs) (after_end e n second)
after_finds Failure n second es fs h k = rw h (k n)
after_finds (Success at p) n second es fs h k = (h.0 ++ fs, ap (λ xs. xs ++ fs) h.1)
after_finds WholeFails n second es fs h k = absurd h
after_finds OutOfSteps n second es fs h k = tt
after_finds (Fault f) n second es fs h k = absurd h

then_finds : (t : Trying) (second : ℕ → Trying) (es fs : List ℕ) → Comes es t → ((n : ℕ) → Comes fs (second n)) → Comes (es ++ fs) (on_failure t second)
then_finds (Returns o) second es fs h k = after_finds o.end o.left second es fs h k
then_finds (Asks q f) second es fs h k = absurd h

flat_same : (f g : ℕ → List ℕ) (xs : List ℕ) → ((e : ℕ) → f e ≡ g e) → flat_map f xs ≡ flat_map g xs
flat_same f g [] h = refl
flat_same f g (x ∷ xs) h = ap (λ ys. ys ++ flat_map f xs) (h x) ∙ ap (λ ys. g x ++ ys) (flat_same f g xs h)

flat_if : (f : ℕ → List ℕ) (b : Bool) (xs : List ℕ) → flat_map f (if b then [] else xs) ≡ (if b then [] else flat_map f xs)
flat_if f true xs = refl
flat_if f false xs = refl

module _ (text : List ℕ) (go : Way) (finds : (gs : List Goal) (c : ℕ) (p : List Pending) (n : ℕ) → GoalsSimple gs → c ≤ length text
    → Comes (list_ends text gs c) (go gs c p n)) where
  -- one cursor alone
  one_finds : (r : List Goal) (c : ℕ) (p : List Pending) (n : ℕ) → GoalsSimple r → c ≤ length text → Comes (list_ends text r c ++ []) (go r c p n)
  one_finds r c p n s h = rw append-nil (finds r c p n s h)

  each_finds : (r : List Goal) (b : ℕ) (cs : List ℕ) (p : List Pending) (n : ℕ) → GoalsSimple r → Between (length text) b cs
      → Comes (flat_map (list_ends text r) cs) (at_each go r cs p n)
  each_finds r b [] p n s h = refl
  each_finds r b (c ∷ cs) p n s h =
      then_finds (go r c p n) (λ n'. at_each go r cs p n') (list_ends text r c) (flat_map (list_ends text r) cs) (finds r c p n s h.1)
      (λ n'. each_finds r b cs p n' s h.2)

  single_finds : (r : List Goal) (k : ℕ) (b : Bool) (c : ℕ) (p : List Pending) (n : ℕ) → GoalsSimple r → Between (length text) c (one_end b k)
      → Comes (flat_map (list_ends text r) (one_end b k)) (if b then go r k p n else ends Failure n)
  single_finds r k true c p n s h = one_finds r k p n s h.1
  single_finds r k false c p n s h = refl

  if_finds : (b : Bool) (o o' : Trying) (es fs : List ℕ) → (b ≡ true → Comes es o) → (b ≡ false → Comes fs o')
      → Comes (if b then es else fs) (if b then o else o')
  if_finds true o o' es fs h k = h refl
  if_finds false o o' es fs h k = k refl

  -- the rest, and where it fails one more turn
  turn_finds : (a : Pattern) (r : List Goal) (c : ℕ) (p : List Pending) (n : ℕ) → IsSimple a → GoalsSimple r → c ≤ length text
      → Comes (flat_map (list_ends text r) (ends_of_turns (ends_of text a) (length text - c) c))
      (on_failure (go r c p n) (λ n'. go (Meet a ∷ More a c ∷ r) c p n'))
  turn_finds a r c p n sa sr h =
      rw (
        turns_are (length text) (ends_of text a) (λ e i. ends_between text a e i) c h,
        flat_flat (list_ends text r)
            (λ e. if nat_eq e c then [] else ends_of_turns (ends_of text a) (length text - e) e) (ends_of text a c),
      )
      (then_finds (go r c p n) (λ n'. go (Meet a ∷ More a c ∷ r) c p n') (list_ends text r c)
      (flat_map (λ e. flat_map (list_ends text r) (if nat_eq e c then [] else ends_of_turns (ends_of text a) (length text - e) e)) (ends_of text a c))
      (finds r c p n sr h)
      (λ n'. rw (flat_same (λ e. flat_map (list_ends text r) (if nat_eq e c then [] else ends_of_turns (ends_of text a) (length text - e) e))
      (list_ends text (More a c ∷ r)) (ends_of text a c)
      (λ e. flat_if (list_ends text r) (nat_eq e c) (ends_of_turns (ends_of text a) (length text - e) e)))
      (finds (Meet a ∷ More a c ∷ r) c p n' (sa, (sa, sr)) h)))

  two_finds : (gs gs' : List Goal) (es fs : List ℕ) (c : ℕ) (p : List Pending) (n : ℕ) → list_ends text gs c ≡ es → list_ends text gs' c ≡ fs
      → GoalsSimple gs → GoalsSimple gs' → c ≤ length text → Comes (es ++ fs) (on_failure (go gs c p n) (λ n'. go gs' c p n'))
  two_finds gs gs' es fs c p n eg eg' s s' h =
      then_finds (go gs c p n) (λ n'. go gs' c p n') es fs (rw (← eg) (finds gs c p n s h)) (λ n'. rw (← eg') (finds gs' c p n' s' h))

  row_finds : (g : Goal) (r : List Goal) (c : ℕ) (p : List Pending) (n : ℕ) → GoalsSimple (g ∷ r) → c ≤ length text
      → Comes (list_ends text (g ∷ r) c) (row text go g r c p n)
  unfolding row
  row_finds (Meet (pattern.Text s)) r c p n k' h = single_finds r (c + length s) (starts_with nat_eq (drop c text) s) c p n k'.1
      (ends_between text (pattern.Text s) c h)
  row_finds (Meet (pattern.Len k)) r c p n k' h = single_finds r (c + k) (nat_le (c + k) (length text)) c p n k'.1 (ends_between text (pattern.Len k) c h)
  row_finds (Meet (pattern.Pos k)) r c p n k' h = single_finds r c (nat_eq c k) c p n k'.1 (ends_between text (pattern.Pos k) c h)
  row_finds (Meet (pattern.RPos k)) r c p n k' h = single_finds r c (nat_eq (c + k) (length text)) c p n k'.1 (ends_between text (pattern.RPos k) c h)
  row_finds (Meet (pattern.Tab k)) r c p n k' h = single_finds r k (nat_le c k && nat_le k (length text)) c p n k'.1 (ends_between text (pattern.Tab k) c h)
  row_finds (Meet (pattern.RTab k)) r c p n k' h = single_finds r (length text - k) (nat_le (c + k) (length text)) c p n k'.1
      (ends_between text (pattern.RTab k) c h)
  row_finds (Meet (pattern.Any s)) r c p n k' h = single_finds r (c + 1) (first_passes (is_one_of s) (drop c text)) c p n k'.1
      (ends_between text (pattern.Any s) c h)
  row_finds (Meet (pattern.NotAny s)) r c p n k' h = single_finds r (c + 1) (first_passes (λ x. not (is_one_of s x)) (drop c text)) c p n k'.1
      (ends_between text (pattern.NotAny s) c h)
  row_finds (Meet (pattern.Span s)) r c p n k' h = single_finds r (c + prefix_len (is_one_of s) (drop c text))
      (first_passes (is_one_of s) (drop c text)) c p n k'.1 (ends_between text (pattern.Span s) c h)
  row_finds (Meet (pattern.Break s)) r c p n k' h = single_finds r (c + position_or_len (is_one_of s) (drop c text))
      (nat_lt (c + position_or_len (is_one_of s) (drop c text)) (length text)) c p n k'.1 (ends_between text (pattern.Break s) c h)
  row_finds (Meet pattern.Rem) r c p n k h = one_finds r (length text) p n k.1 (omega arith)
  row_finds (Meet pattern.Arb) r c p n k h = each_finds r c (range_with_len c (length text + 1 - c)) p n k.1 (ends_between text pattern.Arb c h)
  row_finds (Meet pattern.Bal) r c p n k h = each_finds r c (balanced_ends text c) p n k.1 (ends_between text pattern.Bal c h)
  row_finds (Meet (pattern.Cat a b)) r c p n k h = rw (flat_flat (list_ends text r) (ends_of text b) (ends_of text a c))
      (finds (Meet a ∷ Meet b ∷ r) c p n (k.0.0, (k.0.1, k.1)) h)
  row_finds (Meet (pattern.Alt a b)) r c p n k h =
      rw (flat_map-append (list_ends text r) (ends_of text a c) (ends_of text b c))
      (two_finds (Meet a ∷ r) (Meet b ∷ r) (flat_map (list_ends text r) (ends_of text a c))
      (flat_map (list_ends text r) (ends_of text b c)) c p n refl refl (k.0.0, k.1) (k.0.1, k.1) h)
  row_finds (Meet (pattern.Arbno a)) r c p n k h = turn_finds a r c p n k.0 k.1 h
  row_finds (Meet (pattern.Conditional a name)) r c p n k h = finds (Meet a ∷ EndConditional name c ∷ r) c p n (k.0, k.1) h
  row_finds (Meet (pattern.Immediate a name)) r c p n k h = absurd k.0
  row_finds (Meet (pattern.Cursor name)) r c p n k h = absurd k.0
  row_finds (Meet (pattern.Defer name)) r c p n k h = absurd k.0
  row_finds (Meet pattern.Fence) r c p n k h = absurd k.0
  row_finds (Meet pattern.Abort) r c p n k h = absurd k.0
  row_finds (Meet pattern.Fail) r c p n k h = refl
  row_finds (Meet pattern.Succeed) r c p n k h = absurd k.0
  row_finds (More a d) r c p n k h =
      if_finds (nat_eq c d) (ends Failure n) (on_failure (go r c p n) (λ n'. go (Meet a ∷ More a c ∷ r) c p n')) []
      (flat_map (list_ends text r) (ends_of_turns (ends_of text a) (length text - c) c)) (λ q. refl) (λ q. turn_finds a r c p n k.0 k.1 h)
  row_finds (EndConditional name d) r c p n k h = finds r c (p ++ record { variable = name; text = part text d c } ∷ []) n k h
  row_finds (EndImmediate name d) r c p n k h = absurd k

-- an attempt at simple goals succeeds at the first of their ends, and fails where there is none, unless steps run out
attempt_finds : (text : List ℕ) (d : ℕ) (gs : List Goal) (c : ℕ) (p : List Pending) (n : ℕ) → GoalsSimple gs → c ≤ length text
    → Comes (list_ends text gs c) (attempt text d gs c p n)
unfolding attempt
attempt_finds text d [] c p n k h = ([], refl)
attempt_finds text d (g ∷ r) c p zero k h = tt
attempt_finds text zero (g ∷ r) c p (suc n) k h = tt
attempt_finds text (suc d) (g ∷ r) c p (suc n) k h = row_finds text (attempt text d) (attempt_finds text d) g r c p n k h

pub first_end : (text : List ℕ) (a : Pattern) (c : ℕ) (p : List Pending) (n : ℕ) → IsSimple a → c ≤ length text
    → Comes (ends_of text a c) (outcome text (Meet a ∷ []) c p n)
unfolding outcome
first_end text a c p n k h = rw (← flat_self (ends_of text a c)) (attempt_finds text n (Meet a ∷ []) c p n (k, tt) h)
  where
    flat_self : (xs : List ℕ) → flat_map (list_ends text []) xs ≡ xs
    flat_self [] = refl
    flat_self (x ∷ xs) = ap (λ zs. x ∷ zs) (flat_self xs)
