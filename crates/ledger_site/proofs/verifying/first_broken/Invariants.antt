-- Each commit so far names the one before it, the last of which has this digest.
use Rattle.std.proofs.Common.{◌≡◌, [], drop}
use Rattle.ledger_site.specs.Verifying.{broken_from}
use Rattle.ledger_site.proofs.verifying.first_broken.Given as goal

abbrev pub invariant-loop-place : goal.invariant-loop-place
invariant-loop-place l = broken_from (λ text. text.items) l.place l.last.items (drop l.place l.commits) ≡ broken_from (λ text. text.items) 0 [] l.commits
