-- Goals, choices and turns of the program, by the definitions.
use Rattle.std.specs.Prelude.{◌≡◌, ℕ, ◌+◌, ◌-◌, ◌*◌, ◌<◌, ◌≤◌, List, [], ◌∷◌, length, map}
use Rattle.std.specs.List.{range_with_len}
use Rattle.interaction.specs.Interactions.{Asks}
use Rattle.interaction.specs.Holding.{RunsTo, StopsIn}
use Rattle.sno_text.specs.Nodes.{pattern_of}
use Rattle.sno_text.specs.Patterns.{Pattern}
use Rattle.sno_text.specs.Patterns as pattern
use Rattle.sno_text.specs.Balance.{part, balanced_ends}
use Rattle.sno_pattern.specs.declared.trail.Goal.{Goal as AGoal}
use Rattle.sno_pattern.specs.declared.trail.Role.{Role}
use Rattle.sno_pattern.specs.declared.trail.Role.TheVariants as role
use Rattle.sno_pattern.specs.declared.trail.Waiting.{Waiting}
use Rattle.sno_pattern.specs.declared.trail.Kind.{Kind}
use Rattle.sno_pattern.specs.declared.trail.Kind.TheVariants as kind
use Rattle.sno_pattern.specs.declared.choice_points.Turn.{Turn}
use Rattle.sno_pattern.specs.declared.choice_points.Turn.TheVariants as turn
use Rattle.sno_pattern.specs.declared.choice_points.Ended.{Ended}
use Rattle.sno_pattern.specs.declared.choice_points.Ended.TheVariants as ended
use Rattle.sno_pattern.specs.declared.ending.Pending.{Pending}
use Rattle.sno_pattern.specs.declared.host.Taken.{Taken}
use Rattle.sno_pattern.specs.Looks.{Look, LookUp, Assign, Told, Fits}
use Rattle.sno_pattern.specs.Steps.{Goal, Meet, More, EndConditional, EndImmediate, End, Failure, WholeFails, OutOfSteps, Fault, Outcome, Trying, ends, on_failure, at_each, if_given, row, outcome}
use Rattle.sno_pattern.specs.inner.Found.{with_found}

-- the variable to which what a pattern matches is assigned, if there is one
abbrev pub variable_in : Pattern → List ℕ
variable_in (pattern.Conditional a v) = v
variable_in (pattern.Immediate a v) = v
variable_in _ = []

abbrev pub goal_as : Role → Pattern → Goal
goal_as role.Meet p = Meet p
goal_as (role.More c) p = More p c
goal_as (role.EndConditional c) p = EndConditional (variable_in p) c
goal_as (role.EndImmediate c) p = EndImmediate (variable_in p) c

abbrev pub goal_of : AGoal → Goal
goal_of g = goal_as g.role (pattern_of g.node.value)

-- how goals are tried that a choice leaves: with a pattern before them, at one cursor after another, or not at all
pub data Trial : Type 0 where
  Second : (p : Pattern) → Trial
  Each : Trial
  Balanced : Trial
  Whole : Trial

abbrev pub trial_of : Kind → Trial
trial_of (kind.Second p) = Second (pattern_of p.value)
trial_of kind.Each = Each
trial_of kind.Balanced = Balanced
trial_of kind.Whole = Whole

-- goals that are left to be tried from a cursor
pub record Choice : Type 0 where
  pub trial : Trial
  pub goals : List Goal
  pub at : ℕ
  pub waits : List Waiting

-- what is still ahead: the goals that are met next, the assignments that wait, the oldest first, and the open choices, the
-- last first
pub record Ahead : Type 0 where
  pub goals : List Goal
  pub waits : List Waiting
  pub opens : List Choice

abbrev pub nothing_ahead : Ahead
nothing_ahead = record { goals = []; waits = []; opens = [] }

-- the assignments that wait, with their texts
abbrev pub waiting_of : List ℕ → List Waiting → List Pending
waiting_of text waits = map (λ (w : Waiting). record { variable = w.variable; text = part text w.from w.to }) waits

abbrev pub end_of : Ended → End
end_of ended.Failure = Failure
end_of ended.WholeFails = WholeFails
end_of ended.OutOfSteps = OutOfSteps
end_of (ended.Fault f) = Fault f

-- what goals come to that are tried so from a cursor
abbrev pub tried : List ℕ → Trial → List Goal → ℕ → List Pending → ℕ → Trying
tried text (Second a) gs c p n = outcome text (Meet a ∷ gs) c p n
tried text Each gs c p n = at_each (outcome text) gs (range_with_len c (length text + 1 - c)) p n
tried text Balanced gs c p n = at_each (outcome text) gs (c ∷ balanced_ends text c) p n
tried text Whole gs c p n = ends WholeFails n

-- what a choice tries
abbrev pub second : List ℕ → Choice → ℕ → Trying
second text x n = tried text x.trial x.goals x.at (waiting_of text x.waits) n

-- an attempt with choices still open, of which the last is tried first
abbrev pub resume : List ℕ → List Choice → Trying → Trying
resume text [] t = t
resume text (x ∷ xs) t = resume text xs (on_failure t (second text x))

-- how it goes on from a turn
abbrev pub turned : List ℕ → Ahead → Turn → ℕ → Trying
turned text new (turn.Go c) n = outcome text new.goals c (waiting_of text new.waits) n
turned text new (turn.Meet p c) n = outcome text (Meet (pattern_of p.value) ∷ new.goals) c (waiting_of text new.waits) n
turned text new (turn.Stay e) n = ends (end_of e) n

-- how much more is to be done at most: with a turn, and the steps that are left
abbrev pub rank : Turn → ℕ → ℕ
rank (turn.Go c) m = 3 * m + 2
rank (turn.Meet p c) m = 3 * m + 1
rank (turn.Stay e) m = 3 * m

abbrev pub AllWithin : ℕ → List Choice → Type 0
AllWithin l [] = Unit {0}
AllWithin l (x ∷ xs) = (x.at ≤ l) × AllWithin l xs

-- a turn goes on within the text, or ends whatever choices are open
abbrev pub TurnWithin : List ℕ → Ahead → Turn → Type 0
TurnWithin text new (turn.Go c) = c ≤ length text
TurnWithin text new (turn.Meet p c) = c ≤ length text
TurnWithin text new (turn.Stay e) = (n : ℕ) → resume text new.opens (ends (end_of e) n) ≡ ends (end_of e) n

-- with no word to the host: an attempt with the choices so far is the turn with what is ahead after it
pub record Led (text : List ℕ) (old : List Choice) (t : Trying) (n : ℕ) (turn : Turn) (new : Ahead) (m : ℕ) : Type 0 where
  pub comes : resume text old t ≡ resume text new.opens (turned text new turn m)
  pub fewer : m ≤ n
  pub all : AllWithin (length text) new.opens
  pub here : TurnWithin text new turn

-- with the host gone from s to u: what holds of the turn with the choices after it, from u, holds of the attempt with those
-- before, from s
pub record Moved {S : Type 0} (tells : S → Look → Told → S → Type 0) (broken : S → Look → S → Type 0) (text : List ℕ) (s : S) (old : List Choice)
    (t : Trying) (n : ℕ) (u : S) (turn : Turn) (new : Ahead) (m : ℕ) : Type 0 where
  pub held : (b : Outcome) (v : S) → RunsTo tells Fits (resume text new.opens (turned text new turn m)) u b v → RunsTo tells Fits (resume text old t) s b v
  pub cut : (v : S) → StopsIn tells Fits broken (resume text new.opens (turned text new turn m)) u v → StopsIn tells Fits broken (resume text old t) s v
  pub fewer : m ≤ n
  pub all : AllWithin (length text) new.opens
  pub here : TurnWithin text new turn

-- with no word to the host: an attempt with the choices so far is a pattern met, with those after it, whose step was taken
pub record Entering (text : List ℕ) (old : List Choice) (t : Trying) (n : ℕ) (p : Pattern) (r : List Goal) (c : ℕ) (w : List Pending)
    (new : List Choice) (m : ℕ) : Type 0 where
  pub comes : resume text old t ≡ resume text new (row text (outcome text) (Meet p) r c w m)
  pub fewer : m < n
  pub all : AllWithin (length text) new
  pub here : c ≤ length text

-- the attempts that ask
abbrev pub assigning : List ℕ → List ℕ → Taken → List Goal → ℕ → List Pending → ℕ → Trying
assigning text v taken r c p n = Asks (Assign v taken) (λ told. if_given told n (outcome text r c p n))

abbrev pub looking : List ℕ → List ℕ → List Goal → ℕ → List Pending → ℕ → Trying
looking text v r c p n = Asks (LookUp v) (λ told. with_found told n (λ a. outcome text (Meet a ∷ r) c p n))
