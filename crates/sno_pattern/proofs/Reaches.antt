-- The rows that go on at one cursor or fail.
use Rattle.std.specs.Prelude.{◌≡◌, ℕ, ◌+◌, ◌-◌, List, length, drop, Bool, true, false, not, ◌&&◌, if◌then◌else◌, nat_eq, nat_le, nat_lt}
use Rattle.std.specs.List.{starts_with, prefix_len, position_or_len}
use Rattle.std.proofs.Common.{refl, sym, ap, subst}
use Rattle.sno_text.specs.{Patterns.{Pattern}, declared.reach.Reach.{Reach}, declared.reach.Reach.TheVariants.{Here, Nowhere, Depends}, Sets.{is_one_of}}
use Rattle.sno_text.specs.inner.Reaching.{here_if, reached, is_nowhere}
use Rattle.sno_text.specs.Patterns as pattern
use Rattle.sno_pattern.specs.{declared.ending.Pending.{Pending}, Steps.{Goal, Meet, Failure, Trying, Way, ends, row}}
use Rattle.sno_pattern.specs.inner.Meeting.{IsQuiet, IsEntered, IsParted}
use Rattle.mon_text.specs.Beginnings.{first_passes}

abbrev IsNowhere : Reach → Type 0
IsNowhere (Here c) = ⊥
IsNowhere Nowhere = Unit {0}
IsNowhere Depends = ⊥

abbrev IsDepends : Reach → Type 0
IsDepends (Here c) = ⊥
IsDepends Nowhere = ⊥
IsDepends Depends = Unit {0}

abbrev place : Reach → ℕ
place (Here c) = c
place Nowhere = 0
place Depends = 0

pub nowhere_of : (r : Reach) → is_nowhere r ≡ true → r ≡ Nowhere
nowhere_of Nowhere h = refl
nowhere_of (Here c) h = absurd (cc (h))
nowhere_of Depends h = absurd (cc (h))

if_nowhere : (b : Bool) (k : ℕ) (t u : Trying) → IsNowhere (here_if b k) → (if b then t else u) ≡ u
if_nowhere true k t u h = absurd h
if_nowhere false k t u h = refl

if_here : (b : Bool) (k c : ℕ) (f : ℕ → Trying) (u : Trying) → here_if b k ≡ Here c → (if b then f k else u) ≡ f c
if_here true k c f u h = ap (λ r. f (place r)) h
if_here false k c f u h = absurd (subst IsNowhere h tt)

if_depends : (b : Bool) (k : ℕ) → IsDepends (here_if b k) → ⊥
if_depends true k h = h
if_depends false k h = h

module _ (text : List ℕ) (go : Way) (r : List Goal) (c : ℕ) (w : List Pending) (n : ℕ) where
  pub row_nowhere : (p : Pattern) → IsNowhere (reached text p c) → row text go (Meet p) r c w n ≡ ends Failure n
  unfolding row
  row_nowhere (pattern.Text s) h = if_nowhere (starts_with nat_eq (drop c text) s) (c + length s) (go r (c + length s) w n) (ends Failure n) h
  row_nowhere (pattern.Len k) h = if_nowhere (nat_le (c + k) (length text)) (c + k) (go r (c + k) w n) (ends Failure n) h
  row_nowhere (pattern.Pos k) h = if_nowhere (nat_eq c k) c (go r c w n) (ends Failure n) h
  row_nowhere (pattern.RPos k) h = if_nowhere (nat_eq (c + k) (length text)) c (go r c w n) (ends Failure n) h
  row_nowhere (pattern.Tab k) h = if_nowhere (nat_le c k && nat_le k (length text)) k (go r k w n) (ends Failure n) h
  row_nowhere (pattern.RTab k) h = if_nowhere (nat_le (c + k) (length text)) (length text - k) (go r (length text - k) w n) (ends Failure n) h
  row_nowhere (pattern.Any s) h = if_nowhere (first_passes (is_one_of s) (drop c text)) (c + 1) (go r (c + 1) w n) (ends Failure n) h
  row_nowhere (pattern.NotAny s) h = if_nowhere (first_passes (λ x. not (is_one_of s x)) (drop c text)) (c + 1) (go r (c + 1) w n) (ends Failure n) h
  row_nowhere (pattern.Span s) h = if_nowhere (first_passes (is_one_of s) (drop c text)) (c + prefix_len (is_one_of s) (drop c text))
      (go r (c + prefix_len (is_one_of s) (drop c text)) w n) (ends Failure n) h
  row_nowhere (pattern.Break s) h = if_nowhere (nat_lt (c + position_or_len (is_one_of s) (drop c text)) (length text))
      (c + position_or_len (is_one_of s) (drop c text)) (go r (c + position_or_len (is_one_of s) (drop c text)) w n) (ends Failure n) h
  row_nowhere pattern.Fail h = refl
  row_nowhere pattern.Rem h = absurd h
  row_nowhere pattern.Arb h = absurd h
  row_nowhere pattern.Bal h = absurd h
  row_nowhere (pattern.Cat a b) h = absurd h
  row_nowhere (pattern.Alt a b) h = absurd h
  row_nowhere (pattern.Arbno a) h = absurd h
  row_nowhere (pattern.Conditional a v) h = absurd h
  row_nowhere (pattern.Immediate a v) h = absurd h
  row_nowhere (pattern.Cursor v) h = absurd h
  row_nowhere (pattern.Defer v) h = absurd h
  row_nowhere pattern.Abort h = absurd h
  row_nowhere pattern.Fence h = absurd h
  row_nowhere pattern.Succeed h = absurd h

  pub row_here : (p : Pattern) (e : ℕ) → reached text p c ≡ Here e → row text go (Meet p) r c w n ≡ go r e w n
  unfolding row
  row_here (pattern.Text s) e h = if_here (starts_with nat_eq (drop c text) s) (c + length s) e (λ k'. go r k' w n) (ends Failure n) h
  row_here (pattern.Len k) e h = if_here (nat_le (c + k) (length text)) (c + k) e (λ k'. go r k' w n) (ends Failure n) h
  row_here (pattern.Pos k) e h = if_here (nat_eq c k) c e (λ k'. go r k' w n) (ends Failure n) h
  row_here (pattern.RPos k) e h = if_here (nat_eq (c + k) (length text)) c e (λ k'. go r k' w n) (ends Failure n) h
  row_here (pattern.Tab k) e h = if_here (nat_le c k && nat_le k (length text)) k e (λ k'. go r k' w n) (ends Failure n) h
  row_here (pattern.RTab k) e h = if_here (nat_le (c + k) (length text)) (length text - k) e (λ k'. go r k' w n) (ends Failure n) h
  row_here (pattern.Any s) e h = if_here (first_passes (is_one_of s) (drop c text)) (c + 1) e (λ k'. go r k' w n) (ends Failure n) h
  row_here (pattern.NotAny s) e h = if_here (first_passes (λ x. not (is_one_of s x)) (drop c text)) (c + 1) e (λ k'. go r k' w n) (ends Failure n) h
  row_here (pattern.Span s) e h = if_here (first_passes (is_one_of s) (drop c text)) (c + prefix_len (is_one_of s) (drop c text)) e
      (λ k'. go r k' w n) (ends Failure n) h
  row_here (pattern.Break s) e h = if_here (nat_lt (c + position_or_len (is_one_of s) (drop c text)) (length text))
      (c + position_or_len (is_one_of s) (drop c text)) e (λ k'. go r k' w n) (ends Failure n) h
  row_here pattern.Rem e h = ap (λ k'. go r (place k') w n) h
  row_here pattern.Fail e h = absurd (subst IsNowhere h tt)
  row_here pattern.Arb e h = absurd (subst IsDepends h tt)
  row_here pattern.Bal e h = absurd (subst IsDepends h tt)
  row_here (pattern.Cat a b) e h = absurd (subst IsDepends h tt)
  row_here (pattern.Alt a b) e h = absurd (subst IsDepends h tt)
  row_here (pattern.Arbno a) e h = absurd (subst IsDepends h tt)
  row_here (pattern.Conditional a v) e h = absurd (subst IsDepends h tt)
  row_here (pattern.Immediate a v) e h = absurd (subst IsDepends h tt)
  row_here (pattern.Cursor v) e h = absurd (subst IsDepends h tt)
  row_here (pattern.Defer v) e h = absurd (subst IsDepends h tt)
  row_here pattern.Abort e h = absurd (subst IsDepends h tt)
  row_here pattern.Fence e h = absurd (subst IsDepends h tt)
  row_here pattern.Succeed e h = absurd (subst IsDepends h tt)

pub missed : (text : List ℕ) (p : Pattern) (c : ℕ) → reached text p c ≡ Nowhere → IsNowhere (reached text p c)
missed text p c h = subst IsNowhere (sym h) tt

parted_if : (text : List ℕ) (p : Pattern) (c : ℕ) → IsDepends (reached text p c) → IsQuiet p → (IsEntered p → ⊥) → IsParted p
parted_if text (pattern.Text s) c h q e = if_depends (starts_with nat_eq (drop c text) s) (c + length s) h
parted_if text (pattern.Len k) c h q e = if_depends (nat_le (c + k) (length text)) (c + k) h
parted_if text (pattern.Pos k) c h q e = if_depends (nat_eq c k) c h
parted_if text (pattern.RPos k) c h q e = if_depends (nat_eq (c + k) (length text)) c h
parted_if text (pattern.Tab k) c h q e = if_depends (nat_le c k && nat_le k (length text)) k h
parted_if text (pattern.RTab k) c h q e = if_depends (nat_le (c + k) (length text)) (length text - k) h
parted_if text (pattern.Any s) c h q e = if_depends (first_passes (is_one_of s) (drop c text)) (c + 1) h
parted_if text (pattern.NotAny s) c h q e = if_depends (first_passes (λ x. not (is_one_of s x)) (drop c text)) (c + 1) h
parted_if text (pattern.Span s) c h q e = if_depends (first_passes (is_one_of s) (drop c text)) (c + prefix_len (is_one_of s) (drop c text)) h
parted_if text (pattern.Break s) c h q e = if_depends (nat_lt (c + position_or_len (is_one_of s) (drop c text)) (length text))
    (c + position_or_len (is_one_of s) (drop c text)) h
parted_if text pattern.Fail c h q e = h
parted_if text pattern.Rem c h q e = h
parted_if text (pattern.Cursor v) c h q e = q
parted_if text (pattern.Defer v) c h q e = q
parted_if text pattern.Arb c h q e = tt
parted_if text pattern.Bal c h q e = tt
parted_if text (pattern.Cat a b) c h q e = absurd (e tt)
parted_if text (pattern.Alt a b) c h q e = absurd (e tt)
parted_if text (pattern.Arbno a) c h q e = tt
parted_if text (pattern.Conditional a v) c h q e = absurd (e tt)
parted_if text (pattern.Immediate a v) c h q e = absurd (e tt)
parted_if text pattern.Abort c h q e = tt
parted_if text pattern.Fence c h q e = tt
parted_if text pattern.Succeed c h q e = tt

pub parted_of : (text : List ℕ) (p : Pattern) (c : ℕ) → reached text p c ≡ Depends → IsQuiet p → (IsEntered p → ⊥) → IsParted p
parted_of text p c h q e = parted_if text p c (subst IsDepends (sym h) tt) q e
