-- What came out again so far did so, and the others follow.
use Rattle.std.proofs.Common.{◌≡◌, [], drop}
use Rattle.ledger_site.specs.{Past.{texts_in}, Verifying.{again, other_from}}
use Rattle.ledger_site.proofs.verifying.first_other.Given as goal

abbrev pub invariant-loop-place : goal.invariant-loop-place
invariant-loop-place g l =
    other_from (λ text. text.items) g.M.Machine.step l.place (drop l.place l.commits) (again (texts_in l.waiting.items) (g.M.Machine.behind l.machine))
    ≡ other_from (λ text. text.items) g.M.Machine.step 0 l.commits (again [] (g.M.Machine.behind l.fn.machine))
