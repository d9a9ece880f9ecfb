-- With more steps a match ends as it did, with so many more of them left, unless it had run out of them.
use Rattle.std.specs.Prelude.{◌≡◌, ◌⊎◌, ℕ, zero, suc, ◌+◌, ◌-◌, ◌≤◌, List, [], ◌∷◌, ◌++◌, length, drop, Bool, true, false, not, ◌&&◌, if◌then◌else◌, nat_eq, nat_le, nat_lt}
use Rattle.std.proofs.Common.{refl, sym, ap, subst, inl, inr, arith}
use Rattle.std.specs.List.{starts_with, prefix_len, position_or_len, range_with_len}
use Rattle.interaction.specs.Interactions.{Returns, Asks}
use Rattle.sno_text.specs.{Patterns.{Pattern}, Sets.{is_one_of}, Balance.{part, balanced_ends}}
use Rattle.sno_text.specs.Patterns as pattern
use Rattle.sno_pattern.specs.{declared.ending.Pending.{Pending}, Looks.{Told, Found, Given, Refused, Faulty}, inner.Found.{with_found}}
use Rattle.sno_pattern.proofs.{Trying.{after_end, LeavesAtMost, Falls, leaves_more, fails_falls}, Table.{row_falls, attempt_falls}}
use Rattle.sno_pattern.specs.Steps.{Goal, Meet, More, EndConditional, EndImmediate, End, Success, Failure, WholeFails, OutOfSteps, Fault, Trying, Way, ends, on_failure, at_each, pattern_found, if_given, row, attempt, outcome}
use Rattle.mon_text.specs.Beginnings.{first_passes}

-- t' is t with j + 1 steps more
abbrev pub Longer : ℕ → Trying → Trying → Type 0
Longer j (Returns o) t' = ((o.end ≡ OutOfSteps) × LeavesAtMost j t') ⊎ (t' ≡ Returns (record { end = o.end; left = o.left + suc j }))
Longer j (Asks q f) t' = (f' : Told → Trying) × (t' ≡ Asks q f') × ((r : Told) → Longer j (f r) (f' r))

module _ (j n : ℕ) (second second' : ℕ → Trying) (longer : (m : ℕ) → m ≤ n → Longer j (second m) (second' (m + suc j)))
    (falls : (m : ℕ) → m ≤ j → LeavesAtMost j (second' m)) where
  after_longer : (e : End) (m : ℕ) → m ≤ n → Longer j (after_end e m second) (after_end e (m + suc j) second')
  after_longer Failure m l = longer m l
  after_longer (Success at p) m l = inr refl
  after_longer WholeFails m l = inr refl
  after_longer OutOfSteps m l = inr refl
  after_longer (Fault f) m l = inr refl

  pub fails_longer : (t t' : Trying) → LeavesAtMost n t → Longer j t t' → Longer j (on_failure t second) (on_failure t' second')
  fails_longer (Returns o) t' l (inl h) =
      subst (λ (e : End). Longer j (after_end e o.left second) (on_failure t' second')) (sym h.0) (inl (refl, fails_falls t' j second' h.1 falls))
  fails_longer (Returns o) t' l (inr h) =
      subst (λ (z : Trying). Longer j (after_end o.end o.left second) (on_failure z second')) (sym h) (after_longer o.end o.left l)
  fails_longer (Asks q f) t' l h =
      ((λ r. on_failure (h.0 r) second'), ap (λ z. on_failure z second') h.1, (λ r. fails_longer (f r) (h.0 r) (l r) (h.2 r)))

if_longer : (j : ℕ) (b : Bool) (t t' : Trying) (n : ℕ) → Longer j t t' → Longer j (if b then t else ends Failure n) (if b then t' else ends Failure (n + suc j))
if_longer j true t t' n h = h
if_longer j false t t' n h = inr refl

unless_longer : (j : ℕ) (b : Bool) (t t' : Trying) (n : ℕ) → Longer j t t'
    → Longer j (if b then ends Failure n else t) (if b then ends Failure (n + suc j) else t')
unless_longer j true t t' n h = inr refl
unless_longer j false t t' n h = h

given_longer : (j : ℕ) (r : Told) (n : ℕ) (t t' : Trying) → Longer j t t' → Longer j (if_given r n t) (if_given r (n + suc j) t')
given_longer j Given n t t' h = h
given_longer j (Found looked) n t t' h = inr refl
given_longer j Refused n t t' h = inr refl
given_longer j (Faulty f) n t t' h = inr refl

found_longer : (j : ℕ) (r : Told) (n : ℕ) (go go' : Pattern → Trying) → ((a : Pattern) → Longer j (go a) (go' a))
    → Longer j (with_found r n go) (with_found r (n + suc j) go')
found_longer j (Found looked) n go go' h = h (pattern_found looked)
found_longer j Given n go go' h = inr refl
found_longer j Refused n go go' h = inr refl
found_longer j (Faulty f) n go go' h = inr refl

module _ (go go' : Way) (j n : ℕ) (longer : (gs : List Goal) (c : ℕ) (p : List Pending) (m : ℕ) → m ≤ n
    → Longer j (go gs c p m) (go' gs c p (m + suc j))) (falls : Falls go) (falls' : Falls go') where
  up : (gs : List Goal) (c : ℕ) (p : List Pending) (m k : ℕ) → m ≤ k → LeavesAtMost k (go' gs c p m)
  up gs c p m k h = leaves_more m k h (go' gs c p m) (falls' gs c p m)

  each_falls : (r : List Goal) (cs : List ℕ) (p : List Pending) (m k : ℕ) → m ≤ k → LeavesAtMost k (at_each go' r cs p m)
  each_falls r [] p m k h = h
  each_falls r (c ∷ cs) p m k h =
      fails_falls (go' r c p m) k (λ n'. at_each go' r cs p n') (up r c p m k h) (λ m' h'. each_falls r cs p m' k h')

  each_longer : (r : List Goal) (cs : List ℕ) (p : List Pending) (m : ℕ) → m ≤ n → Longer j (at_each go r cs p m) (at_each go' r cs p (m + suc j))
  each_longer r [] p m l = inr refl
  each_longer r (c ∷ cs) p m l =
      fails_longer j n (λ n'. at_each go r cs p n') (λ n'. at_each go' r cs p n') (λ m' l'. each_longer r cs p m' l')
      (λ m' h. each_falls r cs p m' j h) (go r c p m) (go' r c p (m + suc j)) (leaves_more m n l (go r c p m) (falls r c p m)) (longer r c p m l)

  two_longer : (gs gs' : List Goal) (c : ℕ) (p : List Pending)
      → Longer j (on_failure (go gs c p n) (λ n'. go gs' c p n')) (on_failure (go' gs c p (n + suc j)) (λ n'. go' gs' c p n'))
  two_longer gs gs' c p =
      fails_longer j n (λ n'. go gs' c p n') (λ n'. go' gs' c p n') (λ m' l'. longer gs' c p m' l') (λ m' h. up gs' c p m' j h) (go gs c p n)
      (go' gs c p (n + suc j)) (falls gs c p n) (longer gs c p n (omega arith))

  here : (gs : List Goal) (c : ℕ) (p : List Pending) → Longer j (go gs c p n) (go' gs c p (n + suc j))
  here gs c p = longer gs c p n (omega arith)

  pub row_longer : (text : List ℕ) (g : Goal) (r : List Goal) (c : ℕ) (p : List Pending) → Longer j (row text go g r c p n) (row text go' g r c p (n + suc j))
  unfolding row
  row_longer text (Meet (pattern.Text s)) r c p = if_longer j (starts_with nat_eq (drop c text) s) (go r (c + length s) p n)
      (go' r (c + length s) p (n + suc j)) n (here r (c + length s) p)
  row_longer text (Meet (pattern.Len k)) r c p = if_longer j (nat_le (c + k) (length text)) (go r (c + k) p n) (go' r (c + k) p (n + suc j)) n
      (here r (c + k) p)
  row_longer text (Meet (pattern.Pos k)) r c p = if_longer j (nat_eq c k) (go r c p n) (go' r c p (n + suc j)) n (here r c p)
  row_longer text (Meet (pattern.RPos k)) r c p = if_longer j (nat_eq (c + k) (length text)) (go r c p n) (go' r c p (n + suc j)) n (here r c p)
  row_longer text (Meet (pattern.Tab k)) r c p = if_longer j (nat_le c k && nat_le k (length text)) (go r k p n) (go' r k p (n + suc j)) n (here r k p)
  row_longer text (Meet (pattern.RTab k)) r c p = if_longer j (nat_le (c + k) (length text)) (go r (length text - k) p n)
      (go' r (length text - k) p (n + suc j)) n (here r (length text - k) p)
  row_longer text (Meet (pattern.Any s)) r c p = if_longer j (first_passes (is_one_of s) (drop c text)) (go r (c + 1) p n)
      (go' r (c + 1) p (n + suc j)) n (here r (c + 1) p)
  row_longer text (Meet (pattern.NotAny s)) r c p = if_longer j (first_passes (λ x. not (is_one_of s x)) (drop c text)) (go r (c + 1) p n)
      (go' r (c + 1) p (n + suc j)) n (here r (c + 1) p)
  row_longer text (Meet (pattern.Span s)) r c p = if_longer j (first_passes (is_one_of s) (drop c text))
      (go r (c + prefix_len (is_one_of s) (drop c text)) p n) (go' r (c + prefix_len (is_one_of s) (drop c text)) p (n + suc j)) n
      (here r (c + prefix_len (is_one_of s) (drop c text)) p)
  row_longer text (Meet (pattern.Break s)) r c p = if_longer j (nat_lt (c + position_or_len (is_one_of s) (drop c text)) (length text))
      (go r (c + position_or_len (is_one_of s) (drop c text)) p n) (go' r (c + position_or_len (is_one_of s) (drop c text)) p (n + suc j)) n
      (here r (c + position_or_len (is_one_of s) (drop c text)) p)
  row_longer text (Meet pattern.Rem) r c p = here r (length text) p
  row_longer text (Meet pattern.Arb) r c p = each_longer r (range_with_len c (length text + 1 - c)) p n (omega arith)
  row_longer text (Meet pattern.Bal) r c p = each_longer r (balanced_ends text c) p n (omega arith)
  row_longer text (Meet (pattern.Cat a b)) r c p = here (Meet a ∷ Meet b ∷ r) c p
  row_longer text (Meet (pattern.Alt a b)) r c p = two_longer (Meet a ∷ r) (Meet b ∷ r) c p
  row_longer text (Meet (pattern.Arbno a)) r c p = two_longer r (Meet a ∷ More a c ∷ r) c p
  row_longer text (More a d) r c p =
      unless_longer j (nat_eq c d) (on_failure (go r c p n) (λ n'. go (Meet a ∷ More a c ∷ r) c p n'))
      (on_failure (go' r c p (n + suc j)) (λ n'. go' (Meet a ∷ More a c ∷ r) c p n')) n (two_longer r (Meet a ∷ More a c ∷ r) c p)
  row_longer text (Meet (pattern.Conditional a v)) r c p = here (Meet a ∷ EndConditional v c ∷ r) c p
  row_longer text (EndConditional v d) r c p = here r c (p ++ record { variable = v; text = part text d c } ∷ [])
  row_longer text (Meet (pattern.Immediate a v)) r c p = here (Meet a ∷ EndImmediate v c ∷ r) c p
  row_longer text (EndImmediate v d) r c p =
      ((λ t. if_given t (n + suc j) (go' r c p (n + suc j))), refl, (λ t. given_longer j t n (go r c p n) (go' r c p (n + suc j)) (here r c p)))
  row_longer text (Meet (pattern.Cursor v)) r c p =
      ((λ t. if_given t (n + suc j) (go' r c p (n + suc j))), refl, (λ t. given_longer j t n (go r c p n) (go' r c p (n + suc j)) (here r c p)))
  row_longer text (Meet (pattern.Defer v)) r c p = (
    (λ t. with_found t (n + suc j) (λ a. go' (Meet a ∷ r) c p (n + suc j))),
    refl,
    (λ t. found_longer j t n (λ a. go (Meet a ∷ r) c p n) (λ a. go' (Meet a ∷ r) c p (n + suc j)) (λ a. here (Meet a ∷ r) c p)),
  )
  row_longer text (Meet pattern.Fail) r c p = inr refl
  row_longer text (Meet pattern.Abort) r c p = inr refl
  row_longer text (Meet pattern.Fence) r c p =
      fails_longer j n (λ n'. ends WholeFails n') (λ n'. ends WholeFails n') (λ m' l. inr refl) (λ m' h. h) (go r c p n) (go' r c p (n + suc j))
      (falls r c p n) (here r c p)
  row_longer text (Meet pattern.Succeed) r c p = two_longer r (Meet pattern.Succeed ∷ r) c p

module _ (text : List ℕ) (j : ℕ) where
  attempt_longer : (d d' : ℕ) (gs : List Goal) (c : ℕ) (p : List Pending) (n m : ℕ) → m ≡ n + suc j → n ≤ d → m ≤ d'
      → Longer j (attempt text d gs c p n) (attempt text d' gs c p m)
  unfolding attempt
  attempt_longer d d' [] c p n m e h h' = inr (ap (λ k. ends (Success c p) k) e)
  attempt_longer d zero (g ∷ r) c p n m e h h' = absurd (omega arith)
  attempt_longer d (suc d') (g ∷ r) c p n zero e h h' = absurd (omega arith)
  attempt_longer d (suc d') (g ∷ r) c p zero (suc m) e h h' =
      let same : m ≡ j = omega arith in
      inl (
        refl,
        subst (λ (k : ℕ). LeavesAtMost k (row text (attempt text d') g r c p m)) same
            (row_falls (attempt text d') (attempt_falls text d') text g r c p m),
      )
  attempt_longer zero (suc d') (g ∷ r) c p (suc n) (suc m) e h h' = absurd (omega arith)
  attempt_longer (suc d) (suc d') (g ∷ r) c p (suc n) (suc m) e h h' =
      let same : n + suc j ≡ m = omega arith in
      subst (λ (k : ℕ). Longer j (row text (attempt text d) g r c p n) (row text (attempt text d') g r c p k)) same
      (row_longer (attempt text d) (attempt text d') j n (λ gs c' p' k l. attempt_longer d d' gs c' p' k (k + suc j) refl (omega arith)
      (omega arith)) (attempt_falls text d) (attempt_falls text d') text g r c p)

  pub outcome_longer : (gs : List Goal) (c : ℕ) (p : List Pending) (n : ℕ) → Longer j (outcome text gs c p n) (outcome text gs c p (n + suc j))
  unfolding outcome
  outcome_longer gs c p n = attempt_longer n (n + suc j) gs c p n (n + suc j) refl (omega arith) (omega arith)
