-- What has been read, and what is left, are all items.
use Rattle.std.proofs.Common.{◌≡◌, ◌+◌, ◌++◌, true, map, length}
use Rattle.std.specs.{List.{list_all, slice_split}, Option.{option_map_or}}
use Rattle.sno_declarations.specs.{Prototypes.{is_identifier, trimmed}, inner.Reading.{items_from}}
use Rattle.sno_declarations.proofs.prototype.read_items.Given as goal
use Rattle.mon_text.specs.Characters.{is_comma}

abbrev pub invariant-loop-left : goal.invariant-loop-left
invariant-loop-left l = (l.names ++ map trimmed (items_from l.left) ≡ map trimmed (slice_split is_comma l.text)) × (list_all is_identifier l.names ≡ true)

abbrev pub decreases-loop-left : goal.decreases-loop-left
decreases-loop-left l = option_map_or (λ rest. length rest.now + 1) l.left 0
