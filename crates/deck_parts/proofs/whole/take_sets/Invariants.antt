-- The data sets so far stand before the rest.
use Rattle.std.proofs.Common.{◌≡◌, ◌++◌, length}
use Rattle.deck_parts.specs.Wholes.{sets_text}
use Rattle.deck_parts.proofs.whole.take_sets.Given as goal

abbrev pub invariant-sets : goal.invariant-sets
invariant-sets l = record { all : sets_text l.sets.items ++ l.rest ≡ sets_text l.fn.sets.items ++ l.fn.catalogue }

abbrev pub decreases-sets : goal.decreases-sets
decreases-sets l = length l.rest
