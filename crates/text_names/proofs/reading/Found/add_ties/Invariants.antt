-- The names of the cards so far were added.
use Rattle.std.proofs.Common.{◌≡◌, ◌++◌, map, take}
use Rattle.text_names.proofs.reading.Found.add_ties.Given as goal

abbrev pub invariant-loop-card : goal.invariant-loop-card
invariant-loop-card l = record {
  names : l.self.names.items ≡ l.fn.self.names.items ++ map (λ card. card.set) (take l.card-index l.cards);
  all : l.self.all ≡ l.fn.self.all;
}
