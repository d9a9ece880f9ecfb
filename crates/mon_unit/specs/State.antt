-- A job's units, as definitions see them (own).
use Rattle.std.specs.Prelude.{ℕ, List}
use Rattle.mon_unit.specs.declared.tie.Tie.{Tie}
use Rattle.mon_unit.specs.declared.note.Note.{Note}

-- what each unit is tied to, by its number, the deck's data, what has been spooled, and what has been noted
pub record UnitState : Type 0 where
  pub ties : List Tie
  pub deck : List (List ℕ)
  pub spool : List (List ℕ)
  pub notes : List Note
