-- What a run sees of boxes, and of what was claimed (own).
use Rattle.std.specs.Prelude.{ℕ, Bool, true, false, List, Option}
use Rattle.ledger_boxes.specs.declared.look.Kind.{Kind}
use Rattle.ledger_boxes.specs.declared.look.Kind.TheVariants.{File, Folder, Other}
use Rattle.ledger_boxes.specs.declared.look.Look.{Look}
use Rattle.ledger_boxes.specs.declared.look.Entry as code

abbrev pub is_file : Kind → Bool
is_file File = true
is_file Folder = false
is_file Other = false

abbrev pub is_folder : Kind → Bool
is_folder File = false
is_folder Folder = true
is_folder Other = false

-- a name in a box, and what stands there
pub record Named : Type 0 where
  pub name : List ℕ
  pub kind : Kind

abbrev pub seen_entry : code.Entry → Named
seen_entry entry = record { name = entry.name.items; kind = entry.kind }

pub data Sight : Type 0 where
  Met : ℕ → Option Named → Sight  -- in the box of this place the next name, or none
  Looked : ℕ → Option Look → Sight  -- under this number what stands there
  Held : ℕ → Option (List ℕ) → Sight  -- under this number these bytes
