-- Starts that are missed at once.
use Rattle.std.specs.Prelude.{◌≡◌, ℕ, suc, ◌+◌, List, [], ◌∷◌, Some}
use Rattle.std.proofs.Common.{ap, ◌∙◌}
use Rattle.interaction.specs.Interactions.{◌>>=◌}
use Rattle.sno_text.specs.{Patterns.{Pattern}, declared.reach.Reach.TheVariants.{Nowhere}, inner.Reaching.{reached}}
use Rattle.sno_text.specs.Patterns as pattern
use Rattle.sno_pattern.specs.{declared.ending.Pending.{Pending}, inner.Meeting.{first_part}}
use Rattle.sno_pattern.specs.Steps.{Goal, Meet, EndConditional, EndImmediate, Failure, ends, row, outcome, settle, from_starts}
use Rattle.sno_pattern.proofs.{Table.{takes_off}, Reaches.{row_nowhere, missed}}

module _ (text : List ℕ) (r : List Goal) (c : ℕ) (w : List Pending) (n : ℕ) where
  -- after a step the first part is met, with other goals behind it
  enters : (p a : Pattern) → first_part p ≡ Some a → (r' : List Goal) × (row text (outcome text) (Meet p) r c w n ≡ outcome text (Meet a ∷ r') c w n)
  unfolding row
  enters (pattern.Cat b d) a h = (Meet d ∷ r, ap (λ x. outcome text (Meet x ∷ Meet d ∷ r) c w n) (cc (h)))
  enters (pattern.Conditional b v) a h = (EndConditional v c ∷ r, ap (λ x. outcome text (Meet x ∷ EndConditional v c ∷ r) c w n) (cc (h)))
  enters (pattern.Immediate b v) a h = (EndImmediate v c ∷ r, ap (λ x. outcome text (Meet x ∷ EndImmediate v c ∷ r) c w n) (cc (h)))
  enters (pattern.Text s) a h = absurd (cc (h))
  enters (pattern.Len k) a h = absurd (cc (h))
  enters (pattern.Pos k) a h = absurd (cc (h))
  enters (pattern.RPos k) a h = absurd (cc (h))
  enters (pattern.Tab k) a h = absurd (cc (h))
  enters (pattern.RTab k) a h = absurd (cc (h))
  enters pattern.Rem a h = absurd (cc (h))
  enters (pattern.Any s) a h = absurd (cc (h))
  enters (pattern.NotAny s) a h = absurd (cc (h))
  enters (pattern.Span s) a h = absurd (cc (h))
  enters (pattern.Break s) a h = absurd (cc (h))
  enters pattern.Arb a h = absurd (cc (h))
  enters pattern.Bal a h = absurd (cc (h))
  enters (pattern.Alt b d) a h = absurd (cc (h))
  enters (pattern.Arbno b) a h = absurd (cc (h))
  enters (pattern.Cursor v) a h = absurd (cc (h))
  enters (pattern.Defer v) a h = absurd (cc (h))
  enters pattern.Fail a h = absurd (cc (h))
  enters pattern.Abort a h = absurd (cc (h))
  enters pattern.Fence a h = absurd (cc (h))
  enters pattern.Succeed a h = absurd (cc (h))

  pub entered : (p a : Pattern) → first_part p ≡ Some a → (r' : List Goal) × (outcome text (Meet p ∷ r) c w (suc n) ≡ outcome text (Meet a ∷ r') c w n)
  entered p a h = let k = enters p a h in (k.0, takes_off text (Meet p) r c w n ∙ k.1)

  -- and where it is missed at once, that is all
  pub missed_now : (p : Pattern) → reached text p c ≡ Nowhere → outcome text (Meet p ∷ r) c w (suc n) ≡ ends Failure n
  missed_now p h = takes_off text (Meet p) r c w n ∙ row_nowhere text (outcome text) r c w n p (missed text p c h)

-- so many steps of a pattern, and then of a part of it, at the same cursor
abbrev pub LeadsTo : List ℕ → Pattern → ℕ → ℕ → Pattern → ℕ → Type 0
LeadsTo text p c n a m = (r : List Goal) (w : List Pending) → (r' : List Goal) × (outcome text (Meet p ∷ r) c w n ≡ outcome text (Meet a ∷ r') c w m)

pub leads_on : (text : List ℕ) (p : Pattern) (c n : ℕ) (a b : Pattern) (m m' : ℕ) → m ≡ suc m' → LeadsTo text p c n a m → first_part a ≡ Some b
    → LeadsTo text p c n b m'
leads_on text p c n a b m m' e h k r w =
    let one = h r w in
    let two = entered text one.0 c w m' a b k in
    (two.0, one.1 ∙ ap (λ i. outcome text (Meet a ∷ one.0) c w i) e ∙ two.1)

pub leads_nowhere : (text : List ℕ) (p : Pattern) (c n : ℕ) (a : Pattern) (m m' : ℕ) → m ≡ suc m' → LeadsTo text p c n a m
    → reached text a c ≡ Nowhere → (r : List Goal) (w : List Pending) → outcome text (Meet p ∷ r) c w n ≡ ends Failure m'
leads_nowhere text p c n a m m' e h k r w =
    let one = h r w in
    one.1 ∙ ap (λ i. outcome text (Meet a ∷ one.0) c w i) e ∙ missed_now text one.0 c w m' a k

-- a start that fails leaves the later ones
pub next_start : (text : List ℕ) (a : Pattern) (k k' at n m : ℕ) → k ≡ suc k' → outcome text (Meet a ∷ []) at [] n ≡ ends Failure m
    → from_starts text a k at n ≡ from_starts text a k' (at + 1) m
next_start text a k k' at n m e h =
    ap (λ j. from_starts text a j at n) e
    ∙ ap (λ t. t >>= (λ o. settle at o.end o.left (λ n'. from_starts text a k' (at + 1) n'))) h
