-- Boxes without a file: what was looked for, and not found (own).
use Rattle.std.specs.Prelude.{List, None, map}
use Rattle.ledger_boxes.specs.declared.none.Miss.{Miss}
use Rattle.ledger_boxes.specs.declared.none.Miss.TheVariants as miss
use Rattle.ledger_boxes.specs.declared.none.NoBoxes.{NoBoxes}
use Rattle.ledger_boxes.specs.Sights.{Sight, Met, Looked, Held}

abbrev pub missed : Miss → Sight
missed (miss.Met place) = Met place None
missed (miss.Looked number) = Looked number None
missed (miss.Held number) = Held number None

abbrev pub seen_of : NoBoxes → List Sight
seen_of boxes = map missed boxes.misses.items
