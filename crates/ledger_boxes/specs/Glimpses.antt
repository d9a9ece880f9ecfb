-- The sights that glimpses stand for (own).
use Rattle.std.specs.Prelude.{ℕ, List, Some, None}
use Rattle.ledger_boxes.specs.Sights.{Sight, Met, Looked, Held}
use Rattle.ledger_boxes.specs.declared.glimpse.Glimpse.{Glimpse}
use Rattle.ledger_boxes.specs.declared.glimpse.Glimpse.TheVariants.{Name, End, Stands, Lacks, Bytes, Closed}

-- the sight of a glimpse, with the name that was met or the bytes that were read
abbrev pub sight_of : Glimpse → List ℕ → Sight
sight_of (Name place kind) bytes = Met place (Some (record { name = bytes; kind = kind }))
sight_of (End place) bytes = Met place None
sight_of (Stands number look) bytes = Looked number (Some look)
sight_of (Lacks number) bytes = Looked number None
sight_of (Bytes number) bytes = Held number (Some bytes)
sight_of (Closed number) bytes = Held number None
