use Rattle.std.proofs.Common.{◌≡◌, drop, None}
use Rattle.scheduler.proofs.Common.{with_ties, ties_refusal}
use Rattle.scheduler.proofs.loading.tie_all.Given as goal

-- the cards that are left are not refused, and lead to the whole's units
abbrev pub invariant-loop-card : goal.invariant-loop-card
invariant-loop-card l = record {
  clean : ties_refusal (drop l.card-index l.cards) l.units ≡ None;
  units : with_ties l.cards l.fn.units ≡ with_ties (drop l.card-index l.cards) l.units;
}
