-- The limits stay within what a job may be allowed.
use Rattle.sno_cards.specs.Limits.{AreLimits}
use Rattle.programs.proofs.running.case.limits_of.Given as goal

abbrev pub invariant-loop-word : goal.invariant-loop-word
invariant-loop-word l = AreLimits l.limits
