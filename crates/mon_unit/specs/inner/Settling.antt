-- What the guard told, noted or kept as the position: for the code.
use Rattle.std.specs.Prelude.{ℕ}
use Rattle.interaction.specs.declared.answer.Answer.{Answer}
use Rattle.interaction.specs.declared.answer.Answer.TheVariants.{Done, Got, EndOfFile, Denied, Full}
use Rattle.mon_guard.specs.declared.answer.Answered.{Answered}
use Rattle.mon_catalogue.specs.Sets.{Sets}
use Rattle.interaction.specs.declared.request.Act.{Act}
use Rattle.interaction.specs.declared.request.Request.{Request}
use Rattle.mon_unit.specs.declared.note.NoteAct.{NoteAct}
use Rattle.mon_unit.specs.declared.note.NoteTarget.{NoteTarget}
use Rattle.mon_unit.specs.State.{UnitState}
use Rattle.mon_unit.specs.Tying.{tie_at, with_tie}
use Rattle.mon_unit.specs.Serving.{Reach, note_target, noted}

abbrev pub reach : Sets → UnitState → Reach
reach sets units = record { sets = sets; units = units }

abbrev pub asked : ℕ → Act → Request
asked statement act = record { statement = statement; act = act }

-- the unit's next record is there
abbrev pub placed : ℕ → ℕ → UnitState → UnitState
placed u position units = with_tie u (record (tie_at units u) { position = position }) units

abbrev pub placed_by : Answer → ℕ → ℕ → UnitState → UnitState
placed_by Done u position units = placed u position units
placed_by (Got line) u position units = placed u position units
placed_by EndOfFile u position units = units
placed_by (Denied reason) u position units = units
placed_by Full u position units = units

abbrev pub settled : ℕ → NoteAct → NoteTarget → ℕ → Answered → UnitState → UnitState
settled statement act target u told units = noted statement act target told.answer (placed_by told.answer u told.position units)

-- what a note of a unit names
abbrev pub target_of : ℕ → UnitState → NoteTarget
target_of u units = note_target u (tie_at units u).target

-- what is noted takes memory
abbrev pub IsNoted : Answer → Type 0
IsNoted Done = ⊥
IsNoted (Got line) = ⊥
IsNoted EndOfFile = ⊥
IsNoted (Denied reason) = Unit {0}
IsNoted Full = Unit {0}
