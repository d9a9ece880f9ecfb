-- None so far.
use Rattle.std.proofs.Common.{◌≡◌, drop}
use Rattle.ledger_site.specs.Past.{count_from}
use Rattle.ledger_site.proofs.past.count_behind.Given as goal

abbrev pub invariant-loop-place : goal.invariant-loop-place
invariant-loop-place l = count_from (λ text. text.items) l.number l.place (drop l.place l.commits) ≡ count_from (λ text. text.items) l.number 0 l.commits
