-- Parts of a pattern that are passed at once, one after the other.
use Rattle.std.proofs.Common.{◌≡◌, ◌≢◌, ℕ, suc, ◌-◌, ◌<◌, List, ◌∷◌, [], ◌++◌, ap, refl, ◌∙◌, arith}
use Rattle.sno_text.specs.{Patterns.{Pattern}, declared.reach.Reach.TheVariants.{Here}, Balance.{part}, inner.Reaching.{reached}}
use Rattle.sno_text.specs.Patterns as pattern
use Rattle.sno_pattern.specs.{declared.ending.Pending.{Pending}, Steps.{Goal, Meet, EndConditional, row, outcome}}
use Rattle.sno_pattern.proofs.{Table.{takes_off}, Reaches.{row_here}, Entering.{cat_on, conditional_on}, Run.{pending}}

module _ (text : List ℕ) (r : List Goal) (c : ℕ) (w : List Pending) (n : ℕ) where
  -- a goal is taken off by a step
  step_off : (g : Goal) → n ≢ 0 → outcome text (g ∷ r) c w n ≡ row text (outcome text) g r c w (n - 1)
  step_off g l = let one : n ≡ suc (n - 1) = omega arith in ap (outcome text (g ∷ r) c w) one ∙ takes_off text g r c w (n - 1)

  pub passes : (a : Pattern) (e : ℕ) → n ≢ 0 → reached text a c ≡ Here e → outcome text (Meet a ∷ r) c w n ≡ outcome text r e w (n - 1)
  passes a e l h = step_off (Meet a) l ∙ row_here text (outcome text) r c w (n - 1) a e h

  pub passes_first : (a b : Pattern) → n ≢ 0 → outcome text (Meet (pattern.Cat a b) ∷ r) c w n ≡ outcome text (Meet a ∷ Meet b ∷ r) c w (n - 1)
  passes_first a b l = step_off (Meet (pattern.Cat a b)) l ∙ cat_on text c w r a b (n - 1)

  enters : (a : Pattern) (v : List ℕ) → n ≢ 0 → outcome text (Meet (pattern.Conditional a v) ∷ r) c w n
      ≡ outcome text (Meet a ∷ EndConditional v c ∷ r) c w (n - 1)
  enters a v l = step_off (Meet (pattern.Conditional a v)) l ∙ conditional_on text c w r a v (n - 1)

  waits : (v : List ℕ) (d : ℕ) → row text (outcome text) (EndConditional v d) r c w n ≡ outcome text r c (w ++ pending v (part text d c) ∷ []) n
  unfolding row
  waits v d = refl

-- what is to be assigned at the end takes a step before it and one behind it
pub passes_by : (text : List ℕ) (r : List Goal) (c : ℕ) (w : List Pending) (n : ℕ) (a : Pattern) (v : List ℕ) (e : ℕ) → 2 < n
    → reached text a c ≡ Here e → outcome text (Meet (pattern.Conditional a v) ∷ r) c w n ≡ outcome text r e (w ++ pending v (part text c e) ∷ []) (n - 3)
passes_by text r c w n a v e l h =
    let k : n - 1 - 1 - 1 ≡ n - 3 = omega arith in
    enters text r c w n a v (omega arith)
    ∙ passes text (EndConditional v c ∷ r) c w (n - 1) a e (omega arith) h
    ∙ step_off text r e w (n - 1 - 1) (EndConditional v c) (omega arith)
    ∙ waits text r e w (n - 1 - 1 - 1) v c
    ∙ ap (outcome text r e (w ++ pending v (part text c e) ∷ [])) k
