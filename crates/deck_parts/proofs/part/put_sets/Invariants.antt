use Rattle.std.proofs.Common.{◌≡◌, ◌++◌, take, flat_map}
use Rattle.parts.specs.Splits.{goes}
use Rattle.deck_parts.specs.PartDecks.{set_in}
use Rattle.deck_parts.proofs.part.put_sets.Given as goal

abbrev pub invariant-loop-set : goal.invariant-loop-set
invariant-loop-set l = l.deck.items ≡ l.fn.deck.items ++ flat_map (set_in (goes l.split) l.part) (take l.set-index l.sets)
