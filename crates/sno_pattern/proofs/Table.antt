-- What follows from the table: steps only fall, the depth does not matter, and the outcome is a fixed point of the table.
use Rattle.std.specs.Prelude.{◌≡◌, ℕ, zero, suc, ◌+◌, ◌-◌, ◌≤◌, List, [], ◌∷◌, ◌++◌, length, drop, Bool, true, false, not, ◌&&◌, if◌then◌else◌, nat_eq, nat_le, nat_lt}
use Rattle.std.proofs.Common.{refl, ap, arith}
use Rattle.std.specs.List.{starts_with, prefix_len, position_or_len, range_with_len}
use Rattle.sno_text.specs.{Patterns.{Pattern}, Sets.{is_one_of}, Balance.{part, balanced_ends}}
use Rattle.sno_text.specs.Patterns as pattern
use Rattle.sno_pattern.specs.{declared.ending.Pending.{Pending}, declared.host.Taken.TheVariants.{Part, Cursor}, Looks.{LookUp, Assign}}
use Rattle.sno_pattern.specs.inner.Found.{with_found}
use Rattle.sno_pattern.specs.Steps.{Goal, Meet, More, EndConditional, EndImmediate, Success, Failure, WholeFails, OutOfSteps, Way, ends, on_failure, at_each, if_given, row, attempt, outcome}
use Rattle.sno_pattern.proofs.Trying.{LeavesAtMost, Falls, Agree, leaves_more, fails_falls, fails_agree, if_falls, found_falls, given_falls, found_agrees, asks_same}
use Rattle.mon_text.specs.Beginnings.{first_passes}

module _ (go : Way) (falls : Falls go) where
  up : (gs : List Goal) (c : ℕ) (p : List Pending) (m n : ℕ) → m ≤ n → LeavesAtMost n (go gs c p m)
  up gs c p m n h = leaves_more m n h (go gs c p m) (falls gs c p m)

  each_falls : (r : List Goal) (cs : List ℕ) (p : List Pending) (m n : ℕ) → m ≤ n → LeavesAtMost n (at_each go r cs p m)
  each_falls r [] p m n h = h
  each_falls r (c ∷ cs) p m n h =
      fails_falls (go r c p m) n (λ n'. at_each go r cs p n') (up r c p m n h) (λ m' h'. each_falls r cs p m' n h')

  two_falls : (gs gs' : List Goal) (c : ℕ) (p : List Pending) (n : ℕ) → LeavesAtMost n (on_failure (go gs c p n) (λ n'. go gs' c p n'))
  two_falls gs gs' c p n = fails_falls (go gs c p n) n (λ n'. go gs' c p n') (falls gs c p n) (λ m h. up gs' c p m n h)

  more_falls : (b : Bool) (gs gs' : List Goal) (c : ℕ) (p : List Pending) (n : ℕ)
      → LeavesAtMost n (if b then ends Failure n else on_failure (go gs c p n) (λ n'. go gs' c p n'))
  more_falls true gs gs' c p n = omega arith
  more_falls false gs gs' c p n = two_falls gs gs' c p n

  pub row_falls : (text : List ℕ) (g : Goal) (r : List Goal) (c : ℕ) (p : List Pending) (n : ℕ) → LeavesAtMost n (row text go g r c p n)
  unfolding row
  row_falls text (Meet (pattern.Text s)) r c p n = if_falls (starts_with nat_eq (drop c text) s) (go r (c + length s) p n) n (falls r (c + length s) p n)
  row_falls text (Meet (pattern.Len k)) r c p n = if_falls (nat_le (c + k) (length text)) (go r (c + k) p n) n (falls r (c + k) p n)
  row_falls text (Meet (pattern.Pos k)) r c p n = if_falls (nat_eq c k) (go r c p n) n (falls r c p n)
  row_falls text (Meet (pattern.RPos k)) r c p n = if_falls (nat_eq (c + k) (length text)) (go r c p n) n (falls r c p n)
  row_falls text (Meet (pattern.Tab k)) r c p n = if_falls (nat_le c k && nat_le k (length text)) (go r k p n) n (falls r k p n)
  row_falls text (Meet (pattern.RTab k)) r c p n = if_falls (nat_le (c + k) (length text)) (go r (length text - k) p n) n (falls r (length text - k) p n)
  row_falls text (Meet (pattern.Any s)) r c p n = if_falls (first_passes (is_one_of s) (drop c text)) (go r (c + 1) p n) n (falls r (c + 1) p n)
  row_falls text (Meet (pattern.NotAny s)) r c p n = if_falls (first_passes (λ x. not (is_one_of s x)) (drop c text)) (go r (c + 1) p n) n (falls r (c + 1) p n)
  row_falls text (Meet (pattern.Span s)) r c p n = if_falls (first_passes (is_one_of s) (drop c text))
      (go r (c + prefix_len (is_one_of s) (drop c text)) p n) n (falls r (c + prefix_len (is_one_of s) (drop c text)) p n)
  row_falls text (Meet (pattern.Break s)) r c p n = if_falls (nat_lt (c + position_or_len (is_one_of s) (drop c text)) (length text))
      (go r (c + position_or_len (is_one_of s) (drop c text)) p n) n (falls r (c + position_or_len (is_one_of s) (drop c text)) p n)
  row_falls text (Meet pattern.Rem) r c p n = falls r (length text) p n
  row_falls text (Meet pattern.Arb) r c p n = each_falls r (range_with_len c (length text + 1 - c)) p n n (omega arith)
  row_falls text (Meet pattern.Bal) r c p n = each_falls r (balanced_ends text c) p n n (omega arith)
  row_falls text (Meet (pattern.Cat a b)) r c p n = falls (Meet a ∷ Meet b ∷ r) c p n
  row_falls text (Meet (pattern.Alt a b)) r c p n = two_falls (Meet a ∷ r) (Meet b ∷ r) c p n
  row_falls text (Meet (pattern.Arbno a)) r c p n = two_falls r (Meet a ∷ More a c ∷ r) c p n
  row_falls text (More a d) r c p n = more_falls (nat_eq c d) r (Meet a ∷ More a c ∷ r) c p n
  row_falls text (Meet (pattern.Conditional a v)) r c p n = falls (Meet a ∷ EndConditional v c ∷ r) c p n
  row_falls text (EndConditional v d) r c p n = falls r c (p ++ record { variable = v; text = part text d c } ∷ []) n
  row_falls text (Meet (pattern.Immediate a v)) r c p n = falls (Meet a ∷ EndImmediate v c ∷ r) c p n
  row_falls text (EndImmediate v d) r c p n = λ t. given_falls t n (go r c p n) (falls r c p n)
  row_falls text (Meet (pattern.Cursor v)) r c p n = λ t. given_falls t n (go r c p n) (falls r c p n)
  row_falls text (Meet (pattern.Defer v)) r c p n = λ t. found_falls t n (λ a. go (Meet a ∷ r) c p n) (λ a. falls (Meet a ∷ r) c p n)
  row_falls text (Meet pattern.Fail) r c p n = omega arith
  row_falls text (Meet pattern.Abort) r c p n = omega arith
  row_falls text (Meet pattern.Fence) r c p n = fails_falls (go r c p n) n (λ n'. ends WholeFails n') (falls r c p n) (λ m h. h)
  row_falls text (Meet pattern.Succeed) r c p n = two_falls r (Meet pattern.Succeed ∷ r) c p n

  module _ (go' : Way) (n : ℕ) (agree : Agree go go' n) where
    each_agrees : (r : List Goal) (cs : List ℕ) (p : List Pending) (m : ℕ) → m ≤ n → at_each go r cs p m ≡ at_each go' r cs p m
    each_agrees r [] p m h = refl
    each_agrees r (c ∷ cs) p m h =
        fails_agree (go r c p m) (go' r c p m) n (λ n'. at_each go r cs p n') (λ n'. at_each go' r cs p n') (up r c p m n h) (agree r c p m h)
        (λ m' h'. each_agrees r cs p m' h')

    two_agree : (gs gs' : List Goal) (c : ℕ) (p : List Pending)
        → on_failure (go gs c p n) (λ n'. go gs' c p n') ≡ on_failure (go' gs c p n) (λ n'. go' gs' c p n')
    two_agree gs gs' c p =
        fails_agree (go gs c p n) (go' gs c p n) n (λ n'. go gs' c p n') (λ n'. go' gs' c p n') (falls gs c p n) (agree gs c p n (omega arith))
        (λ m h. agree gs' c p m h)

    here : (gs : List Goal) (c : ℕ) (p : List Pending) → go gs c p n ≡ go' gs c p n
    here gs c p = agree gs c p n (omega arith)

    pub row_agrees : (text : List ℕ) (g : Goal) (r : List Goal) (c : ℕ) (p : List Pending) → row text go g r c p n ≡ row text go' g r c p n
    unfolding row
    row_agrees text (Meet (pattern.Text s)) r c p = ap (λ o. if starts_with nat_eq (drop c text) s then o else ends Failure n) (here r (c + length s) p)
    row_agrees text (Meet (pattern.Len k)) r c p = ap (λ o. if nat_le (c + k) (length text) then o else ends Failure n) (here r (c + k) p)
    row_agrees text (Meet (pattern.Pos k)) r c p = ap (λ o. if nat_eq c k then o else ends Failure n) (here r c p)
    row_agrees text (Meet (pattern.RPos k)) r c p = ap (λ o. if nat_eq (c + k) (length text) then o else ends Failure n) (here r c p)
    row_agrees text (Meet (pattern.Tab k)) r c p = ap (λ o. if nat_le c k && nat_le k (length text) then o else ends Failure n) (here r k p)
    row_agrees text (Meet (pattern.RTab k)) r c p = ap (λ o. if nat_le (c + k) (length text) then o else ends Failure n) (here r (length text - k) p)
    row_agrees text (Meet (pattern.Any s)) r c p = ap (λ o. if first_passes (is_one_of s) (drop c text) then o else ends Failure n) (here r (c + 1) p)
    row_agrees text (Meet (pattern.NotAny s)) r c p = ap (λ o. if first_passes (λ x. not (is_one_of s x)) (drop c text) then o else ends Failure n)
        (here r (c + 1) p)
    row_agrees text (Meet (pattern.Span s)) r c p = ap (λ o. if first_passes (is_one_of s) (drop c text) then o else ends Failure n)
        (here r (c + prefix_len (is_one_of s) (drop c text)) p)
    row_agrees text (Meet (pattern.Break s)) r c p = ap (λ o. if nat_lt (c + position_or_len (is_one_of s) (drop c text))
        (length text) then o else ends Failure n) (here r (c + position_or_len (is_one_of s) (drop c text)) p)
    row_agrees text (Meet pattern.Rem) r c p = here r (length text) p
    row_agrees text (Meet pattern.Arb) r c p = each_agrees r (range_with_len c (length text + 1 - c)) p n (omega arith)
    row_agrees text (Meet pattern.Bal) r c p = each_agrees r (balanced_ends text c) p n (omega arith)
    row_agrees text (Meet (pattern.Cat a b)) r c p = here (Meet a ∷ Meet b ∷ r) c p
    row_agrees text (Meet (pattern.Alt a b)) r c p = two_agree (Meet a ∷ r) (Meet b ∷ r) c p
    row_agrees text (Meet (pattern.Arbno a)) r c p = two_agree r (Meet a ∷ More a c ∷ r) c p
    row_agrees text (More a d) r c p = ap (λ o. if nat_eq c d then ends Failure n else o) (two_agree r (Meet a ∷ More a c ∷ r) c p)
    row_agrees text (Meet (pattern.Conditional a v)) r c p = here (Meet a ∷ EndConditional v c ∷ r) c p
    row_agrees text (EndConditional v d) r c p = here r c (p ++ record { variable = v; text = part text d c } ∷ [])
    row_agrees text (Meet (pattern.Immediate a v)) r c p = here (Meet a ∷ EndImmediate v c ∷ r) c p
    row_agrees text (EndImmediate v d) r c p =
        asks_same (Assign v (Part (part text d c))) (λ t. if_given t n (go r c p n)) (λ t. if_given t n (go' r c p n))
        (λ t. ap (λ o. if_given t n o) (here r c p))
    row_agrees text (Meet (pattern.Cursor v)) r c p =
        asks_same (Assign v (Cursor c)) (λ t. if_given t n (go r c p n)) (λ t. if_given t n (go' r c p n)) (λ t. ap (λ o. if_given t n o) (here r c p))
    row_agrees text (Meet (pattern.Defer v)) r c p =
        asks_same (LookUp v) (λ t. with_found t n (λ a. go (Meet a ∷ r) c p n)) (λ t. with_found t n (λ a. go' (Meet a ∷ r) c p n))
        (λ t. found_agrees t n (λ a. go (Meet a ∷ r) c p n) (λ a. go' (Meet a ∷ r) c p n) (λ a. here (Meet a ∷ r) c p))
    row_agrees text (Meet pattern.Fail) r c p = refl
    row_agrees text (Meet pattern.Abort) r c p = refl
    row_agrees text (Meet pattern.Fence) r c p = ap (λ o. on_failure o (λ n'. ends WholeFails n')) (here r c p)
    row_agrees text (Meet pattern.Succeed) r c p = two_agree r (Meet pattern.Succeed ∷ r) c p

module _ (text : List ℕ) where
  pub attempt_falls : (d : ℕ) → Falls (attempt text d)
  unfolding attempt
  attempt_falls d [] c p n = omega arith
  attempt_falls d (g ∷ r) c p zero = omega arith
  attempt_falls zero (g ∷ r) c p (suc n) = omega arith
  attempt_falls (suc d) (g ∷ r) c p (suc n) = leaves_more n (suc n) (omega arith) (row text (attempt text d) g r c p n)
      (row_falls (attempt text d) (attempt_falls d) text g r c p n)

  -- any two depths that are enough give the same
  pub any_depth : (d d' : ℕ) (gs : List Goal) (c : ℕ) (p : List Pending) (n : ℕ) → n ≤ d → n ≤ d' → attempt text d gs c p n ≡ attempt text d' gs c p n
  unfolding attempt
  any_depth d d' [] c p n h h' = refl
  any_depth d d' (g ∷ r) c p zero h h' = refl
  any_depth zero d' (g ∷ r) c p (suc n) h h' = absurd (omega arith)
  any_depth (suc d) zero (g ∷ r) c p (suc n) h h' = absurd (omega arith)
  any_depth (suc d) (suc d') (g ∷ r) c p (suc n) h h' =
      row_agrees (attempt text d) (attempt_falls d) (attempt text d') n (λ gs c' p' m l. any_depth d d' gs c' p' m (omega arith) (omega arith)) text g r c p

  pub outcome_falls : Falls (outcome text)
  unfolding outcome
  outcome_falls gs c p n = attempt_falls n gs c p n

  -- taking a goal off is one step, and goals go on as they come out
  pub takes_off : (g : Goal) (r : List Goal) (c : ℕ) (p : List Pending) (n : ℕ) → outcome text (g ∷ r) c p (suc n) ≡ row text (outcome text) g r c p n
  unfolding attempt outcome
  takes_off g r c p n = row_agrees (attempt text n) (attempt_falls n) (outcome text) n (λ gs c' p' m l. any_depth n m gs c' p' m l (omega arith)) text g r c p

  pub none_left : (c : ℕ) (p : List Pending) (n : ℕ) → outcome text [] c p n ≡ ends (Success c p) n
  unfolding attempt outcome
  none_left c p n = refl

  pub no_step_left : (g : Goal) (r : List Goal) (c : ℕ) (p : List Pending) → outcome text (g ∷ r) c p 0 ≡ ends OutOfSteps 0
  unfolding attempt outcome
  no_step_left g r c p = refl
