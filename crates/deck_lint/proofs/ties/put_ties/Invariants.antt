-- What was put so far, with the reasons of the cards that are left, is the whole.
use Rattle.std.proofs.Common.{◌≡◌, ◌++◌, drop, false}
use Rattle.std.specs.Prelude.{replicate}
use Rattle.deck_lint.specs.Refused.{ties_refused}
use Rattle.deck_lint.proofs.ties.put_ties.Given as goal

abbrev pub invariant-loop-card : goal.invariant-loop-card
invariant-loop-card l = l.found.items ++ ties_refused (drop l.card-index l.cards) l.tied ≡ l.fn.found.items ++ ties_refused l.cards (replicate 100 false)
