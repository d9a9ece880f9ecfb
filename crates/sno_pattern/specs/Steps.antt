-- The step table: what a match does goal by goal, and what it asks of its host (SNOBOL4 book, chapter 2 and chapter 8; the
-- number of steps and ARBNO are own).
use Rattle.std.specs.Prelude.{ℕ, zero, suc, ◌+◌, ◌-◌, List, [], ◌∷◌, ◌++◌, length, drop, Bool, not, ◌&&◌, if◌then◌else◌, nat_eq, nat_le, nat_lt}
use Rattle.std.specs.List.{range_with_len, starts_with, prefix_len, position_or_len}
use Rattle.interaction.specs.Interactions.{Interaction, Returns, ask, ◌>>=◌}
use Rattle.sno_text.specs.declared.fault.Fault.{Fault as AFault}
use Rattle.sno_text.specs.Patterns.{Pattern}
use Rattle.sno_text.specs.Balance.{part, balanced_ends}
use Rattle.sno_text.specs.Sets.{is_one_of}
use Rattle.sno_text.specs.Patterns as pattern
use Rattle.sno_pattern.specs.declared.host.Looked.{Looked}
use Rattle.sno_pattern.specs.declared.host.Looked.TheVariants as looked
use Rattle.sno_pattern.specs.declared.host.Taken.TheVariants.{Part, Cursor}
use Rattle.sno_pattern.specs.declared.ending.Pending.{Pending}
use Rattle.sno_pattern.specs.declared.ending.MatchEnd.{MatchEnd}
use Rattle.sno_pattern.specs.declared.ending.MatchEnd.TheVariants as end
use Rattle.sno_pattern.specs.Looks.{Look, LookUp, Assign, Told, Found, Given, Faulty}
use Rattle.mon_text.specs.Beginnings.{first_passes}

-- what is still to be met, each from the cursor where the one before it ends
pub data Goal : Type 0 where
  Meet : (p : Pattern) → Goal
  -- another turn of ARBNO(p), if the last one, from here, moved on
  More : (p : Pattern) (from : ℕ) → Goal
  -- the part from here on is to be assigned once the whole match succeeds
  EndConditional : (variable : List ℕ) (from : ℕ) → Goal
  -- the part from here on is assigned now
  EndImmediate : (variable : List ℕ) (from : ℕ) → Goal

-- how goals come out
pub data End : Type 0 where
  Success : (at : ℕ) (pending : List Pending) → End
  Failure : End
  -- the whole match fails, whatever was still to be tried
  WholeFails : End
  OutOfSteps : End
  Fault : (fault : AFault) → End

-- with the steps that are left
pub record Outcome : Type 0 where
  pub end : End
  pub left : ℕ

abbrev pub Trying : Type 0
Trying = Interaction Look Told Outcome

-- how goals go on from a cursor, with the assignments that wait and the steps that are left
abbrev pub Way : Type 0
Way = (goals : List Goal) (at : ℕ) (pending : List Pending) (left : ℕ) → Trying

abbrev pub ends : End → ℕ → Trying
ends e n = Returns (record { end = e; left = n })

abbrev pub on_failure : Trying → (ℕ → Trying) → Trying
on_failure first second = first >>= (λ o. elim o.end [ Failure ↦ second o.left | e ↦ ends e o.left ])

-- the goals at one cursor after another, each tried where those before failed
abbrev pub at_each : Way → List Goal → List ℕ → List Pending → ℕ → Trying
at_each go rest [] pending n = ends Failure n
at_each go rest (c ∷ cs) pending n = on_failure (go rest c pending n) (λ n'. at_each go rest cs pending n')

-- it goes on where something holds, and else fails
abbrev pub provided : Bool → ℕ → Trying → Trying
provided holds n go = if holds then go else ends Failure n

-- the pattern that a variable stands for
abbrev pub pattern_found : Looked → Pattern
pattern_found seen = elim seen [ looked.Pattern p ↦ p | looked.Text s ↦ pattern.Text s | looked.Defer v ↦ pattern.Defer v ]

-- how it goes on with what the host told, once an assignment was made
abbrev pub if_given : Told → ℕ → Trying → Trying
if_given answer n go = elim answer [ Given ↦ go | Faulty f ↦ ends (Fault f) n | told ↦ ends Failure n ]

module _ (text : List ℕ) where
  -- THE TABLE: a goal at the cursor c, with the rest r of the goals
  unfoldable pub row : Way → Goal → List Goal → ℕ → List Pending → ℕ → Trying
  row go (Meet (pattern.Text s)) r c pending n = provided (starts_with nat_eq (drop c text) s) n (go r (c + length s) pending n)
  row go (Meet (pattern.Len k)) r c pending n = provided (nat_le (c + k) (length text)) n (go r (c + k) pending n)
  row go (Meet (pattern.Pos k)) r c pending n = provided (nat_eq c k) n (go r c pending n)
  row go (Meet (pattern.RPos k)) r c pending n = provided (nat_eq (c + k) (length text)) n (go r c pending n)
  row go (Meet (pattern.Tab k)) r c pending n = provided (nat_le c k && nat_le k (length text)) n (go r k pending n)
  row go (Meet (pattern.RTab k)) r c pending n = provided (nat_le (c + k) (length text)) n (go r (length text - k) pending n)
  row go (Meet pattern.Rem) r c pending n = go r (length text) pending n
  row go (Meet (pattern.Any s)) r c pending n = provided (first_passes (is_one_of s) (drop c text)) n (go r (c + 1) pending n)
  row go (Meet (pattern.NotAny s)) r c pending n = provided (first_passes (λ x. not (is_one_of s x)) (drop c text)) n (go r (c + 1) pending n)
  row go (Meet (pattern.Span s)) r c pending n =
      provided (first_passes (is_one_of s) (drop c text)) n (go r (c + prefix_len (is_one_of s) (drop c text)) pending n)
  row go (Meet (pattern.Break s)) r c pending n =
      provided (nat_lt (c + position_or_len (is_one_of s) (drop c text)) (length text)) n (go r (c + position_or_len (is_one_of s) (drop c text)) pending n)
  row go (Meet pattern.Arb) r c pending n = at_each go r (range_with_len c (length text + 1 - c)) pending n
  row go (Meet pattern.Bal) r c pending n = at_each go r (balanced_ends text c) pending n
  row go (Meet (pattern.Cat a b)) r c pending n = go (Meet a ∷ Meet b ∷ r) c pending n
  row go (Meet (pattern.Alt a b)) r c pending n =
      on_failure (go (Meet a ∷ r) c pending n) (λ n'. go (Meet b ∷ r) c pending n')
  row go (Meet (pattern.Arbno p)) r c pending n =
      on_failure (go r c pending n) (λ n'. go (Meet p ∷ More p c ∷ r) c pending n')
  row go (More p d) r c pending n =
      if nat_eq c d then ends Failure n else on_failure (go r c pending n) (λ n'. go (Meet p ∷ More p c ∷ r) c pending n')
  row go (Meet (pattern.Conditional p v)) r c pending n = go (Meet p ∷ EndConditional v c ∷ r) c pending n
  row go (EndConditional v d) r c pending n = go r c (pending ++ record { variable = v; text = part text d c } ∷ []) n
  row go (Meet (pattern.Immediate p v)) r c pending n = go (Meet p ∷ EndImmediate v c ∷ r) c pending n
  row go (EndImmediate v d) r c pending n = do
    told ← ask (Assign v (Part (part text d c)))
    if_given told n (go r c pending n)
  row go (Meet (pattern.Cursor v)) r c pending n = do
    told ← ask (Assign v (Cursor c))
    if_given told n (go r c pending n)
  row go (Meet (pattern.Defer v)) r c pending n = do
    told ← ask (LookUp v)
    elim told [ Found looked ↦ go (Meet (pattern_found looked) ∷ r) c pending n | Faulty f ↦ ends (Fault f) n | other ↦ ends Failure n ]
  row go (Meet pattern.Fail) r c pending n = ends Failure n
  row go (Meet pattern.Abort) r c pending n = ends WholeFails n
  row go (Meet pattern.Fence) r c pending n = on_failure (go r c pending n) (λ n'. ends WholeFails n')
  row go (Meet pattern.Succeed) r c pending n =
      on_failure (go r c pending n) (λ n'. go (Meet pattern.Succeed ∷ r) c pending n')

  -- taking a goal off is one step, and no goal left is success and takes none. The depth bounds how deep attempts stand in
  -- one another; as many as there are steps are enough
  unfoldable pub attempt : (depth : ℕ) → Way
  attempt depth [] c pending n = ends (Success c pending) n
  attempt depth (g ∷ r) c pending zero = ends OutOfSteps zero
  attempt zero (g ∷ r) c pending (suc n) = ends OutOfSteps zero
  attempt (suc depth) (g ∷ r) c pending (suc n) = row (attempt depth) g r c pending n

  unfoldable pub outcome : Way
  outcome goals c pending n = attempt n goals c pending n

-- how a match ends, with the steps that are left
pub record Finish : Type 0 where
  pub end : MatchEnd
  pub left : ℕ

-- the end of one start is the match's, but for failure, after which the next start is tried
abbrev pub settle : ℕ → End → ℕ → (ℕ → Interaction Look Told Finish) → Interaction Look Told Finish
settle from (Success to pending) n next = Returns (record { end = end.Matched from to pending; left = n })
settle from Failure n next = next n
settle from WholeFails n next = Returns (record { end = end.NoMatch; left = n })
settle from OutOfSteps n next = Returns (record { end = end.Limit; left = n })
settle from (Fault f) n next = Returns (record { end = end.Fault f; left = n })

-- so many starts from one on
abbrev pub from_starts : List ℕ → Pattern → ℕ → ℕ → ℕ → Interaction Look Told Finish
from_starts text p zero at n = Returns (record { end = end.NoMatch; left = n })
from_starts text p (suc k) at n = do
  o ← outcome text (Meet p ∷ []) at [] n
  settle at o.end o.left (λ n'. from_starts text p k (at + 1) n')

-- the match with the steps that it leaves
abbrev pub counted_match : List ℕ → Pattern → (anchored : Bool) → (limit : ℕ) → Interaction Look Told Finish
counted_match text p anchored limit = from_starts text p (if anchored then 1 else (length text + 1)) 0 limit

-- THE MATCH
abbrev pub match_of : List ℕ → Pattern → (anchored : Bool) → (limit : ℕ) → Interaction Look Told MatchEnd
match_of text p anchored limit = counted_match text p anchored limit >>= (λ f. Returns f.end)
