use Rattle.std.proofs.Common.{◌≡◌, drop, length, false, replicate}
use Rattle.scheduler.proofs.Common.{cards_refused}
use Rattle.scheduler.proofs.loading.ties_refused.Given as goal

-- the cards that are left have the whole's first refusal
abbrev pub invariant-loop-card : goal.invariant-loop-card
invariant-loop-card l = record {
  refusal : cards_refused l.cards (replicate 100 false) ≡ cards_refused (drop l.card-index l.cards) l.tied;
  all : length l.tied ≡ 100;
}
