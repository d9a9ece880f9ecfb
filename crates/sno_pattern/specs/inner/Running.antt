-- How a run of the program ends, and what starts come to.
use Rattle.std.specs.Prelude.{ℕ, List, Result, Ok, Err}
use Rattle.interaction.specs.Interactions.{Interaction, Returns, ◌>>=◌}
use Rattle.sno_text.specs.Patterns.{Pattern}
use Rattle.sno_pattern.specs.declared.ending.MatchEnd.{MatchEnd}
use Rattle.sno_pattern.specs.Looks.{Look, Told}
use Rattle.sno_pattern.specs.declared.running.Attempt.{Attempt}
use Rattle.sno_pattern.specs.declared.choice_points.Ended.{Ended}
use Rattle.sno_pattern.specs.declared.trail.Waiting.{Waiting}
use Rattle.sno_pattern.specs.Steps.{End, Success, Outcome, from_starts}
use Rattle.sno_pattern.specs.inner.Stack.{waiting_of, end_of}

-- how goals come out: at a cursor, with the assignments that wait, or not
abbrev pub out_of : List ℕ → List Waiting → Result ℕ Ended → End
out_of text waits (Ok c) = Success c (waiting_of text waits)
out_of text waits (Err e) = end_of e

abbrev pub outcome_of : List ℕ → List Waiting → Attempt → Outcome
outcome_of text waits a = record { end = out_of text waits a.out; left = a.left }

-- what so many starts from one on come to
abbrev pub finishing : List ℕ → Pattern → ℕ → ℕ → ℕ → Interaction Look Told MatchEnd
finishing text a k at n = from_starts text a k at n >>= (λ f. Returns f.end)
