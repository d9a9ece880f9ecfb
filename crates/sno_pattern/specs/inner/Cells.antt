-- Goals and choices as they stand in memory, each list read from its end.
use Rattle.std.specs.Prelude.{ℕ, ◌≤◌, List, [], ◌∷◌, length, take, map, if◌then◌else◌, nat_eq}
use Rattle.sno_pattern.specs.declared.trail.Cell.{Cell}
use Rattle.sno_pattern.specs.declared.trail.Open.{Open}
use Rattle.sno_pattern.specs.declared.trail.Waiting.{Waiting}
use Rattle.sno_pattern.specs.Steps.{Goal}
use Rattle.sno_pattern.specs.inner.Stack.{goal_of, trial_of, Choice, Ahead}

-- the goals from a place on
abbrev pub goals_at : List Cell → ℕ → List Goal
goals_at [] k = []
goals_at (c ∷ older) k = if nat_eq k (length (c ∷ older)) then goal_of c.goal ∷ goals_at older c.rest else goals_at older k

abbrev pub choice_of : List Cell → List Waiting → Open → Choice
choice_of cells waits o = record { trial = trial_of o.kind; goals = goals_at cells o.top; at = o.at; waits = take o.waits waits }

abbrev pub ahead_of : List Cell → ℕ → List Waiting → List Open → Ahead
ahead_of cells top waits opens = record { goals = goals_at cells top; waits = waits; opens = map (choice_of cells waits) opens }

-- behind each goal are older ones
abbrev pub AreBehind : List Cell → Type 0
AreBehind [] = Unit {0}
AreBehind (c ∷ older) = (c.rest ≤ length older) × AreBehind older

-- of so many goals and assignments each choice needs those up to where it was left
abbrev pub AreKept : ℕ → ℕ → List Open → Type 0
AreKept kept waits [] = Unit {0}
AreKept kept waits (o ∷ older) = (o.top ≤ kept) × (o.kept ≤ kept) × (o.waits ≤ waits) × AreKept o.kept o.waits older

pub record IsTrail (cells : List Cell) (top kept : ℕ) (waits : List Waiting) (opens : List Open) : Type 0 where
  pub place : top ≤ length cells
  pub room : kept ≤ length cells
  pub behind : AreBehind cells
  pub needed : AreKept kept (length waits) opens

-- there is room for so many goals and assignments that four bytes can say the place of each
pub record HavePlaces (cells waits : ℕ) : Type 0 where
  pub goals : cells ≤ 4294967295
  pub assignments : waits ≤ 4294967295
