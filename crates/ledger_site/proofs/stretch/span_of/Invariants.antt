-- With the commits that are left it comes to all.
use Rattle.std.proofs.Common.{◌≡◌, ◌≤◌, false, drop}
use Rattle.ledger_site.specs.Stretching.{span_from}
use Rattle.ledger_site.proofs.stretch.span_of.Given as goal

abbrev pub invariant-loop-place : goal.invariant-loop-place
invariant-loop-place l = record {
  span : span_from (λ text. text.items) l.number l.place l.first l.is_found (drop l.place l.commits) ≡ span_from (λ text. text.items) l.number 0 0 false l.commits;
  first : l.first ≤ l.place;
}
