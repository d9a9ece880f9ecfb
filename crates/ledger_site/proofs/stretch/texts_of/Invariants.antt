-- With the commits that are left it comes to all.
use Rattle.std.proofs.Common.{◌≡◌, [], map, drop}
use Rattle.ledger_site.specs.Stretching.{seen_queue, queue, queue_from}
use Rattle.ledger_site.proofs.stretch.texts_of.Given as goal

abbrev pub invariant-loop-place : goal.invariant-loop-place
invariant-loop-place l =
    queue_from (λ text. text.items) l.first l.place (drop l.place l.commits) (seen_queue l.waiting.items (map (λ text. text.items) l.ran.items))
    ≡ queue_from (λ text. text.items) l.first 0 l.commits (queue [] [])
